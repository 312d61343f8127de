use Rattle.std.proofs.Common.{◌+◌, ◌≤◌, length-append, true, length, [], ap, sym, ◌∙◌, refl, arith}
use Rattle.std.proofs.lemmas.List.{append-nil}
use Rattle.ml_site.specs.declared.call.Call.TheVariants.{Give}
use Rattle.ml_site.specs.Disk.{Disk}
use Rattle.ml_site.specs.Recorded.{contents, lookup, at_rest, after}
use Rattle.ml_site.specs.MemSites.{site_output_faults}
use Rattle.ml_site.proofs.Pushed.{elapses_gave}
use Rattle.ml_site.proofs.Joined.{disk_same, given_more, stepped, log_kept, file_kept, given_kept, time_quiet, elapses_nothing_given}
use Rattle.ml_site.proofs.MemCalls.{numbers, unchanged, failed_plain, done_plain}
use Rattle.ml_site.proofs.mem_site.MemSiteSite.give.Goals as goal

pub invariant_of-self : goal.invariant_of-self
invariant_of-self c =
    let start = at_rest (contents c.args.self.now.start_log c.args.self.now.start_files) in
    let calls = c.args.self.now.calls.items in
    let longer = c.note_failure.new.calls.items in record {
      log_is = log_kept start calls (Give 0) longer _ c.note_failure.ensures.calls c.args.self.now.log c.args.self.now.log_is refl;
      files_are = λ name. file_kept start calls (Give 0) longer _ c.note_failure.ensures.calls name (lookup c.args.self.now.files name) (c.args.self.now.files_are name) refl;
      output_is = given_kept start calls (Give 0) longer _ c.note_failure.ensures.calls c.args.self.now.output.items c.args.self.now.output_is refl;
      within = c.args.self.now.within;
      room = c.args.self.now.room;
    }

pub returns-then-fails-clause-numbers : goal.returns-then-fails-clause-numbers
returns-then-fails-clause-numbers c = numbers c.args.self.now _ (record { log = refl; files = refl; last = refl; room_out = refl }) (Give 0) _ c.note_failure.ensures.calls refl refl

pub returns-then-fails-clause-same : goal.returns-then-fails-clause-same
returns-then-fails-clause-same c = unchanged c.args.self.now _ (record { log = refl; files = refl; last = refl; room_out = refl }) (Give 0) _ c.note_failure.ensures.calls refl

pub returns-then-fails-clause-err : goal.returns-then-fails-clause-err
returns-then-fails-clause-err c = (0, sym (append-nil c.args.self.now.output.items))

pub returns-then-fails-clause-time : goal.returns-then-fails-clause-time
returns-then-fails-clause-time c =
    let start = at_rest (contents c.args.self.now.start_log c.args.self.now.start_files) in
    let calls = c.args.self.now.calls.items in
    let disk = after start calls in
    let same = disk_same start calls (Give 0) c.note_failure.new.calls.items _ c.note_failure.ensures.calls refl in
    elapses_nothing_given start calls c.note_failure.new.calls.items c.args.self.now.output.items c.args.bytes.now same (time_quiet start calls (Give 0) c.note_failure.new.calls.items _ c.note_failure.ensures.calls c.args.self.now.output.items c.args.self.now.output_is refl)

pub invariant_of-self-2 : goal.invariant_of-self-2
invariant_of-self-2 c =
    let start = at_rest (contents c.args.self.now.start_log c.args.self.now.start_files) in
    let calls = c.args.self.now.calls.items in
    let disk = after start calls in
    let is = stepped start calls (Give (length c.args.bytes.now)) c.push_reserved.new.self.items c.push_reserved.ensures.items in record {
      log_is = c.args.self.now.log_is ∙ sym (ap (λ (d : Disk). d.reads.log) is);
      files_are = λ name. c.args.self.now.files_are name ∙ sym (ap (λ (d : Disk). d.reads.files name) is);
      output_is = ap length c.put_out.ensures.items ∙ omega (arith, length-append c.args.self.now.output.items c.args.bytes.now, c.args.self.now.output_is, given_more start calls (Give (length c.args.bytes.now)) c.push_reserved.new.self.items c.push_reserved.ensures.items);
      within =
          let fits : length c.args.self.now.output.items + length c.args.bytes.now ≤ c.args.self.now.output_room = c.is_short-short.ensures.fits (c.if-fails.ensures.enough refl) in
          omega (arith, ap length c.put_out.ensures.items, length-append c.args.self.now.output.items c.args.bytes.now, fits);
      room = omega (arith, c.put_out.ensures.room, c.args.self.now.room);
    }

pub returns-clause-numbers : goal.returns-clause-numbers
returns-clause-numbers c = numbers c.args.self.now _ (record { log = refl; files = refl; last = refl; room_out = refl }) (Give (length c.args.bytes.now)) true c.push_reserved.ensures.items refl refl

pub returns-clause-same : goal.returns-clause-same
returns-clause-same c = unchanged c.args.self.now _ (record { log = refl; files = refl; last = refl; room_out = refl }) (Give (length c.args.bytes.now)) true c.push_reserved.ensures.items refl

pub returns-clause-ok : goal.returns-clause-ok
returns-clause-ok c = c.put_out.ensures.items

pub returns-clause-time : goal.returns-clause-time
returns-clause-time c =
    let start = at_rest (contents c.args.self.now.start_log c.args.self.now.start_files) in
    let calls = c.args.self.now.calls.items in
    let disk = after start calls in
    elapses_gave start calls c.args.self.now.output.items c.args.bytes.now (length c.args.bytes.now) c.args.self.now.output_is refl c.push_reserved.new.self.items c.push_reserved.ensures.items c.put_out.new.output.items c.put_out.ensures.items

pub returns-then-fails-clause-ends : goal.returns-then-fails-clause-ends
returns-then-fails-clause-ends c = failed_plain c.args.self.now _ (record { log = refl; files = refl; last = refl; room_out = refl }) c.is_short-short.result _ c.is_short-short.ensures.short.0 c.is_short-short.ensures.short.1 c.note_failure.ensures.room site_output_faults [] _ (Give 0) c.if-fails.ensures.planned c.note_failure.ensures.calls c.note_failure.ensures.faults refl refl refl

pub returns-clause-ends : goal.returns-clause-ends
returns-clause-ends c = done_plain c.args.self.now _ (record { log = refl; files = refl; last = refl; room_out = refl }) c.is_short-short.result _ c.is_short-short.ensures.short.0 c.is_short-short.ensures.short.1 c.push_reserved.ensures.capacity site_output_faults [] (Give (length c.args.bytes.now)) c.if-fails.ensures.planned c.push_reserved.ensures.items refl

use Rattle.std.proofs.Common.{true, false, [], ap, subst, sym, ◌∙◌, refl, arith}
use Rattle.ml_site.specs.declared.call.Call.TheVariants.{Sync, FailedSync}
use Rattle.ml_site.specs.Disk.{Disk, IsImage}
use Rattle.ml_site.specs.Images.{after_rest}
use Rattle.ml_site.specs.Recorded.{contents, lookup, at_rest, after, size_synced, size_logged}
use Rattle.ml_site.specs.MemSites.{site_disk_faults}
use Rattle.ml_site.specs.Replay.{after-is_image}
use Rattle.ml_site.proofs.Joined.{total_more, total_same, disk_same, stepped, log_kept, file_kept, given_kept}
use Rattle.ml_site.proofs.MemCalls.{keeps, le_self, no_short, never, failed_plain, done_plain}
use Rattle.ml_site.proofs.mem_site.MemSiteSite.sync.Goals as goal

pub invariant_of-self : goal.invariant_of-self
invariant_of-self c =
    let start = at_rest (contents c.args.self.now.start_log c.args.self.now.start_files) in
    let calls = c.args.self.now.calls.items in
    let longer = c.note_failure.new.calls.items in record {
      log_is = log_kept start calls FailedSync longer _ c.note_failure.ensures.calls c.args.self.now.log c.args.self.now.log_is refl;
      files_are = λ name. file_kept start calls FailedSync longer _ c.note_failure.ensures.calls name (lookup c.args.self.now.files name) (c.args.self.now.files_are name) refl;
      output_is = given_kept start calls FailedSync longer _ c.note_failure.ensures.calls c.args.self.now.output.items c.args.self.now.output_is refl;
      within = c.args.self.now.within;
      room = c.args.self.now.room;
    }

pub returns-then-fails-clause-keeps : goal.returns-then-fails-clause-keeps
returns-then-fails-clause-keeps c = keeps c.args.self.now _ (record { log = refl; files = refl; last = refl; room_out = refl }) FailedSync _ c.note_failure.ensures.calls refl refl c.note_failure.ensures.later refl c.saturating_add-self.ensures

pub returns-then-fails-clause-err : goal.returns-then-fails-clause-err
returns-then-fails-clause-err c = disk_same (at_rest (contents c.args.self.now.start_log c.args.self.now.start_files)) c.args.self.now.calls.items FailedSync _ _ c.note_failure.ensures.calls refl

pub returns-then-fails-clause-crash : goal.returns-then-fails-clause-crash
returns-then-fails-clause-crash c = λ left image. subst (λ (d : Disk). IsImage d left) (disk_same (at_rest (contents c.args.self.now.start_log c.args.self.now.start_files)) c.args.self.now.calls.items FailedSync _ _ c.note_failure.ensures.calls refl) image

pub returns-then-fails-clause-syncs : goal.returns-then-fails-clause-syncs
returns-then-fails-clause-syncs c = omega (arith, total_same size_synced c.args.self.now.calls.items c.note_failure.new.calls.items _ FailedSync c.note_failure.ensures.calls refl)

pub returns-then-fails-clause-syncs_err : goal.returns-then-fails-clause-syncs_err
returns-then-fails-clause-syncs_err c = total_same size_synced c.args.self.now.calls.items c.note_failure.new.calls.items _ FailedSync c.note_failure.ensures.calls refl

pub returns-then-fails-clause-syncs_stay : goal.returns-then-fails-clause-syncs_stay
returns-then-fails-clause-syncs_stay c = omega (arith, total_same size_synced c.args.self.now.calls.items c.note_failure.new.calls.items _ FailedSync c.note_failure.ensures.calls refl)

pub returns-then-fails-clause-log_bytes : goal.returns-then-fails-clause-log_bytes
returns-then-fails-clause-log_bytes c = total_same size_logged c.args.self.now.calls.items c.note_failure.new.calls.items _ FailedSync c.note_failure.ensures.calls refl

pub invariant_of-self-2 : goal.invariant_of-self-2
invariant_of-self-2 c =
    let start = at_rest (contents c.args.self.now.start_log c.args.self.now.start_files) in
    let calls = c.args.self.now.calls.items in
    let longer = c.push_reserved.new.self.items in record {
      log_is = log_kept start calls Sync longer true c.push_reserved.ensures.items c.args.self.now.log c.args.self.now.log_is refl;
      files_are = λ name. file_kept start calls Sync longer true c.push_reserved.ensures.items name (lookup c.args.self.now.files name) (c.args.self.now.files_are name) refl;
      output_is = given_kept start calls Sync longer true c.push_reserved.ensures.items c.args.self.now.output.items c.args.self.now.output_is refl;
      within = c.args.self.now.within;
      room = c.args.self.now.room;
    }

pub returns-clause-keeps : goal.returns-clause-keeps
returns-clause-keeps c = keeps c.args.self.now _ (record { log = refl; files = refl; last = refl; room_out = refl }) Sync true c.push_reserved.ensures.items refl refl (le_self _) refl c.saturating_add-self.ensures

pub returns-clause-ok : goal.returns-clause-ok
returns-clause-ok c =
    let start = at_rest (contents c.args.self.now.start_log c.args.self.now.start_files) in
    let calls = c.args.self.now.calls.items in
    let disk = after start calls in
    let is = stepped start calls Sync c.push_reserved.new.self.items c.push_reserved.ensures.items in record {
      settled = ap (λ (d : Disk). d.settled) is ∙ sym (ap (λ (d : Disk). d.reads) is);
      pending = ap (λ (d : Disk). d.pending) is;
    }

pub returns-clause-crash : goal.returns-clause-crash
returns-clause-crash c =
    let start = at_rest (contents c.args.self.now.start_log c.args.self.now.start_files) in
    let calls = c.args.self.now.calls.items in
    let disk = after start calls in
    let is = stepped start calls Sync c.push_reserved.new.self.items c.push_reserved.ensures.items in
    λ left image. after_rest _ _ _ _ (after-is_image (contents c.args.self.now.start_log c.args.self.now.start_files) calls) (subst (λ (d : Disk). IsImage d left) is image)

pub returns-clause-syncs : goal.returns-clause-syncs
returns-clause-syncs c = omega (arith, total_more size_synced c.args.self.now.calls.items c.push_reserved.new.self.items Sync c.push_reserved.ensures.items)

pub returns-clause-syncs_ok : goal.returns-clause-syncs_ok
returns-clause-syncs_ok c = omega (arith, total_more size_synced c.args.self.now.calls.items c.push_reserved.new.self.items Sync c.push_reserved.ensures.items)

pub returns-clause-syncs_stay : goal.returns-clause-syncs_stay
returns-clause-syncs_stay c = omega (arith, total_more size_synced c.args.self.now.calls.items c.push_reserved.new.self.items Sync c.push_reserved.ensures.items)

pub returns-clause-log_bytes : goal.returns-clause-log_bytes
returns-clause-log_bytes c = total_same size_logged c.args.self.now.calls.items c.push_reserved.new.self.items true Sync c.push_reserved.ensures.items refl

pub returns-then-fails-clause-ends : goal.returns-then-fails-clause-ends
returns-then-fails-clause-ends c = failed_plain c.args.self.now _ (record { log = refl; files = refl; last = refl; room_out = refl }) false ⊥ no_short never c.note_failure.ensures.room site_disk_faults [] _ FailedSync c.if-fails.ensures.planned c.note_failure.ensures.calls c.note_failure.ensures.faults refl refl refl

pub returns-clause-ends : goal.returns-clause-ends
returns-clause-ends c = done_plain c.args.self.now _ (record { log = refl; files = refl; last = refl; room_out = refl }) false ⊥ no_short never c.push_reserved.ensures.capacity site_disk_faults [] Sync c.if-fails.ensures.planned c.push_reserved.ensures.items refl

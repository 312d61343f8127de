use Rattle.std.proofs.Common.{◌≡◌, true, false, [], Err, ◌∙◌, refl, rules}
use Rattle.ml_site.specs.declared.call.Call.TheVariants.{Read}
use Rattle.ml_site.specs.declared.site.SiteError.TheVariants.{Memory}
use Rattle.ml_site.specs.Recorded.{contents, lookup, at_rest}
use Rattle.ml_site.specs.MemSites.{site_disk_faults}
use Rattle.ml_site.proofs.Joined.{log_kept, file_kept, given_kept}
use Rattle.ml_site.proofs.MemCalls.{keeps, numbers, unchanged, le_self, no_short, never, failed_disk, done_disk, wanting_disk}
use Rattle.ml_site.proofs.mem_site.MemSiteSite.read_log.Goals as goal

pub invariant_of-self : goal.invariant_of-self
invariant_of-self c =
    let start = at_rest (contents c.args.self.now.start_log c.args.self.now.start_files) in
    let calls = c.args.self.now.calls.items in
    let longer = c.note_failure.new.calls.items in record {
      log_is = log_kept start calls Read longer _ c.note_failure.ensures.calls c.args.self.now.log c.args.self.now.log_is refl;
      files_are = λ name. file_kept start calls Read longer _ c.note_failure.ensures.calls name (lookup c.args.self.now.files name) (c.args.self.now.files_are name) refl;
      output_is = given_kept start calls Read longer _ c.note_failure.ensures.calls c.args.self.now.output.items c.args.self.now.output_is refl;
      within = c.args.self.now.within;
      room = c.args.self.now.room;
    }

pub returns-then-fails-clause-keeps : goal.returns-then-fails-clause-keeps
returns-then-fails-clause-keeps c = keeps c.args.self.now _ (record { log = refl; files = refl; last = refl; room_out = refl }) Read _ c.note_failure.ensures.calls refl refl c.note_failure.ensures.later refl c.saturating_add-self.ensures

pub returns-then-fails-clause-numbers : goal.returns-then-fails-clause-numbers
returns-then-fails-clause-numbers c = numbers c.args.self.now _ (record { log = refl; files = refl; last = refl; room_out = refl }) Read _ c.note_failure.ensures.calls refl refl

pub returns-then-fails-clause-same : goal.returns-then-fails-clause-same
returns-then-fails-clause-same c = unchanged c.args.self.now _ (record { log = refl; files = refl; last = refl; room_out = refl }) Read _ c.note_failure.ensures.calls refl

pub returns-in_err-bytes-clause-keeps : goal.returns-in_err-bytes-clause-keeps
returns-in_err-bytes-clause-keeps c = keeps c.args.self.now _ (record { log = refl; files = refl; last = refl; room_out = refl }) Read false refl refl refl (le_self _) refl c.saturating_add-self.ensures

pub returns-in_err-bytes-clause-numbers : goal.returns-in_err-bytes-clause-numbers
returns-in_err-bytes-clause-numbers c = numbers c.args.self.now _ (record { log = refl; files = refl; last = refl; room_out = refl }) Read false refl refl refl

pub returns-in_err-bytes-clause-same : goal.returns-in_err-bytes-clause-same
returns-in_err-bytes-clause-same c = unchanged c.args.self.now _ (record { log = refl; files = refl; last = refl; room_out = refl }) Read false refl refl

pub invariant_of-self-2 : goal.invariant_of-self-2
invariant_of-self-2 c =
    let start = at_rest (contents c.args.self.now.start_log c.args.self.now.start_files) in
    let calls = c.args.self.now.calls.items in
    let longer = c.push_reserved.new.self.items in record {
      log_is = log_kept start calls Read longer true c.push_reserved.ensures.items c.args.self.now.log c.args.self.now.log_is refl;
      files_are = λ name. file_kept start calls Read longer true c.push_reserved.ensures.items name (lookup c.args.self.now.files name) (c.args.self.now.files_are name) refl;
      output_is = given_kept start calls Read longer true c.push_reserved.ensures.items c.args.self.now.output.items c.args.self.now.output_is refl;
      within = c.args.self.now.within;
      room = c.args.self.now.room;
    }

pub returns-clause-bytes : goal.returns-clause-bytes
returns-clause-bytes c =
    let is : c.in_ok-bytes.bytes ≡ c.args.self.now.log = search rules in
    is ∙ c.args.self.now.log_is

pub returns-clause-keeps : goal.returns-clause-keeps
returns-clause-keeps c = keeps c.args.self.now _ (record { log = refl; files = refl; last = refl; room_out = refl }) Read true c.push_reserved.ensures.items refl refl (le_self _) refl c.saturating_add-self.ensures

pub returns-clause-numbers : goal.returns-clause-numbers
returns-clause-numbers c = numbers c.args.self.now _ (record { log = refl; files = refl; last = refl; room_out = refl }) Read true c.push_reserved.ensures.items refl refl

pub returns-clause-same : goal.returns-clause-same
returns-clause-same c = unchanged c.args.self.now _ (record { log = refl; files = refl; last = refl; room_out = refl }) Read true c.push_reserved.ensures.items refl

pub returns-then-fails-clause-ends : goal.returns-then-fails-clause-ends
returns-then-fails-clause-ends c = failed_disk c.args.self.now _ (record { log = refl; files = refl; last = refl; room_out = refl }) false ⊥ no_short never c.note_failure.ensures.room site_disk_faults [] Read c.if-fails.ensures.planned c.note_failure.ensures.calls c.note_failure.ensures.faults refl refl refl

pub returns-in_err-bytes-clause-ends : goal.returns-in_err-bytes-clause-ends
returns-in_err-bytes-clause-ends c =
    let is : c.from_residual.result ≡ Err Memory = search rules in
    wanting_disk c.args.self.now _ (record { log = refl; files = refl; last = refl; room_out = refl }) false ⊥ no_short never refl site_disk_faults [] c.from_residual.result is c.if-fails.ensures.planned refl refl

pub returns-clause-ends : goal.returns-clause-ends
returns-clause-ends c = done_disk c.args.self.now _ (record { log = refl; files = refl; last = refl; room_out = refl }) false ⊥ no_short never c.push_reserved.ensures.capacity site_disk_faults [] _ Read c.if-fails.ensures.planned c.push_reserved.ensures.items refl

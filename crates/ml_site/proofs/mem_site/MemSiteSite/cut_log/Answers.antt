use Rattle.std.proofs.Common.{true, false, take, [], ◌∷◌, ap, sym, ◌∙◌, refl}
use Rattle.ml_site.specs.declared.call.Call.TheVariants.{CutLog, FailedCut}
use Rattle.ml_site.specs.Disk.{Disk, Cut, log_cut}
use Rattle.ml_site.specs.Images.{cut_image}
use Rattle.ml_site.specs.Recorded.{contents, lookup, at_rest, after}
use Rattle.ml_site.specs.MemSites.{site_disk_faults}
use Rattle.ml_site.proofs.Joined.{stepped, log_kept, file_kept, given_kept}
use Rattle.ml_site.proofs.MemCalls.{keeps, numbers, failed_change, done_change, le_self, no_short, never, failed_plain, done_plain}
use Rattle.ml_site.proofs.mem_site.MemSiteSite.cut_log.Goals as goal

pub invariant_of-self : goal.invariant_of-self
invariant_of-self c =
    let start = at_rest (contents c.args.self.now.start_log c.args.self.now.start_files) in
    let calls = c.args.self.now.calls.items in
    let longer = c.note_failure.new.calls.items in record {
      log_is = log_kept start calls (FailedCut c.args.len) longer _ c.note_failure.ensures.calls c.args.self.now.log c.args.self.now.log_is refl;
      files_are = λ name. file_kept start calls (FailedCut c.args.len) longer _ c.note_failure.ensures.calls name (lookup c.args.self.now.files name) (c.args.self.now.files_are name) refl;
      output_is = given_kept start calls (FailedCut c.args.len) longer _ c.note_failure.ensures.calls c.args.self.now.output.items c.args.self.now.output_is refl;
      within = c.args.self.now.within;
      room = c.args.self.now.room;
    }

pub returns-then-fails-clause-keeps : goal.returns-then-fails-clause-keeps
returns-then-fails-clause-keeps c = keeps c.args.self.now _ (record { log = refl; files = refl; last = refl; room_out = refl }) (FailedCut c.args.len) _ c.note_failure.ensures.calls refl refl c.note_failure.ensures.later refl c.saturating_add-self.ensures

pub returns-then-fails-clause-numbers : goal.returns-then-fails-clause-numbers
returns-then-fails-clause-numbers c = numbers c.args.self.now _ (record { log = refl; files = refl; last = refl; room_out = refl }) (FailedCut c.args.len) _ c.note_failure.ensures.calls refl refl

pub returns-then-fails-clause-change : goal.returns-then-fails-clause-change
returns-then-fails-clause-change c = failed_change c.args.self.now _ (record { log = refl; files = refl; last = refl; room_out = refl }) (FailedCut c.args.len) _ c.note_failure.ensures.calls _ (Cut c.args.len) _ refl

pub invariant_of-self-2 : goal.invariant_of-self-2
invariant_of-self-2 c =
    let start = at_rest (contents c.args.self.now.start_log c.args.self.now.start_files) in
    let calls = c.args.self.now.calls.items in
    let disk = after start calls in
    let is = stepped start calls (CutLog c.args.len) c.push_reserved.new.self.items c.push_reserved.ensures.items in record {
      log_is = c.truncate.ensures ∙ ap (take c.args.len) c.args.self.now.log_is ∙ sym (ap (λ (d : Disk). d.reads.log) is);
      files_are = λ name. c.args.self.now.files_are name ∙ sym (ap (λ (d : Disk). d.reads.files name) is);
      output_is = given_kept start calls (CutLog c.args.len) c.push_reserved.new.self.items true c.push_reserved.ensures.items c.args.self.now.output.items c.args.self.now.output_is refl;
      within = c.args.self.now.within;
      room = c.args.self.now.room;
    }

pub returns-clause-keeps : goal.returns-clause-keeps
returns-clause-keeps c = keeps c.args.self.now _ (record { log = refl; files = refl; last = refl; room_out = refl }) (CutLog c.args.len) true c.push_reserved.ensures.items refl refl (le_self _) refl c.saturating_add-self.ensures

pub returns-clause-numbers : goal.returns-clause-numbers
returns-clause-numbers c = numbers c.args.self.now _ (record { log = refl; files = refl; last = refl; room_out = refl }) (CutLog c.args.len) true c.push_reserved.ensures.items refl refl

pub returns-clause-change : goal.returns-clause-change
returns-clause-change c =
    let start = at_rest (contents c.args.self.now.start_log c.args.self.now.start_files) in
    let calls = c.args.self.now.calls.items in
    let disk = after start calls in
    done_change c.args.self.now _ (record { log = refl; files = refl; last = refl; room_out = refl }) (CutLog c.args.len) (Cut c.args.len) (log_cut disk.reads c.args.len) c.push_reserved.ensures.items refl (cut_image disk.reads c.args.len)

pub returns-then-fails-clause-ends : goal.returns-then-fails-clause-ends
returns-then-fails-clause-ends c = failed_plain c.args.self.now _ (record { log = refl; files = refl; last = refl; room_out = refl }) false ⊥ no_short never c.note_failure.ensures.room site_disk_faults (Cut c.args.len ∷ []) _ (FailedCut c.args.len) c.if-fails.ensures.planned c.note_failure.ensures.calls c.note_failure.ensures.faults refl refl refl

pub returns-clause-ends : goal.returns-clause-ends
returns-clause-ends c = done_plain c.args.self.now _ (record { log = refl; files = refl; last = refl; room_out = refl }) false ⊥ no_short never c.push_reserved.ensures.capacity site_disk_faults (Cut c.args.len ∷ []) (CutLog c.args.len) c.if-fails.ensures.planned c.push_reserved.ensures.items refl

use Rattle.std.proofs.Common.{true, false, cond, [], ◌∷◌, None, ap, sym, ◌∙◌, refl}
use Rattle.ml_base.specs.Dir.{same_name}
use Rattle.ml_site.specs.declared.call.Call.TheVariants.{RemoveFile, FailedFile}
use Rattle.ml_site.specs.Disk.{Disk, File, file_with}
use Rattle.ml_site.specs.Images.{set_file}
use Rattle.ml_site.specs.Recorded.{contents, lookup, at_rest, after}
use Rattle.ml_site.specs.MemSites.{site_disk_faults}
use Rattle.ml_site.proofs.Joined.{stepped, log_kept, file_kept, given_kept}
use Rattle.ml_site.proofs.MemCalls.{keeps, numbers, failed_change, done_change, le_self, no_short, never, failed_disk, done_disk}
use Rattle.ml_site.proofs.mem_site.MemSiteSite.remove_file.Goals as goal

pub invariant_of-self : goal.invariant_of-self
invariant_of-self c =
    let start = at_rest (contents c.args.self.now.start_log c.args.self.now.start_files) in
    let calls = c.args.self.now.calls.items in
    let longer = c.note_failure.new.calls.items in record {
      log_is = log_kept start calls (FailedFile c.args.name) longer _ c.note_failure.ensures.calls c.args.self.now.log c.args.self.now.log_is refl;
      files_are = λ name. file_kept start calls (FailedFile c.args.name) longer _ c.note_failure.ensures.calls name (lookup c.args.self.now.files name) (c.args.self.now.files_are name) refl;
      output_is = given_kept start calls (FailedFile c.args.name) longer _ c.note_failure.ensures.calls c.args.self.now.output.items c.args.self.now.output_is refl;
      within = c.args.self.now.within;
      room = c.args.self.now.room;
    }

pub returns-then-fails-clause-keeps : goal.returns-then-fails-clause-keeps
returns-then-fails-clause-keeps c = keeps c.args.self.now _ (record { log = refl; files = refl; last = refl; room_out = refl }) (FailedFile c.args.name) _ c.note_failure.ensures.calls refl refl c.note_failure.ensures.later refl c.saturating_add-self.ensures

pub returns-then-fails-clause-numbers : goal.returns-then-fails-clause-numbers
returns-then-fails-clause-numbers c = numbers c.args.self.now _ (record { log = refl; files = refl; last = refl; room_out = refl }) (FailedFile c.args.name) _ c.note_failure.ensures.calls refl refl

pub returns-then-fails-clause-change : goal.returns-then-fails-clause-change
returns-then-fails-clause-change c = failed_change c.args.self.now _ (record { log = refl; files = refl; last = refl; room_out = refl }) (FailedFile c.args.name) _ c.note_failure.ensures.calls _ (File c.args.name) _ refl

pub invariant_of-self-2 : goal.invariant_of-self-2
invariant_of-self-2 c =
    let start = at_rest (contents c.args.self.now.start_log c.args.self.now.start_files) in
    let calls = c.args.self.now.calls.items in
    let disk = after start calls in
    let is = stepped start calls (RemoveFile c.args.name) c.push_reserved.new.self.items c.push_reserved.ensures.items in record {
      log_is = c.args.self.now.log_is ∙ sym (ap (λ (d : Disk). d.reads.log) is);
      files_are = λ name. c.drop_file.ensures name ∙ (λ i. cond (same_name name c.args.name) None (c.args.self.now.files_are name i)) ∙ sym (ap (λ (d : Disk). d.reads.files name) is);
      output_is = given_kept start calls (RemoveFile c.args.name) c.push_reserved.new.self.items true c.push_reserved.ensures.items c.args.self.now.output.items c.args.self.now.output_is refl;
      within = c.args.self.now.within;
      room = c.args.self.now.room;
    }

pub returns-clause-keeps : goal.returns-clause-keeps
returns-clause-keeps c = keeps c.args.self.now _ (record { log = refl; files = refl; last = refl; room_out = refl }) (RemoveFile c.args.name) true c.push_reserved.ensures.items refl refl (le_self _) refl c.saturating_add-self.ensures

pub returns-clause-numbers : goal.returns-clause-numbers
returns-clause-numbers c = numbers c.args.self.now _ (record { log = refl; files = refl; last = refl; room_out = refl }) (RemoveFile c.args.name) true c.push_reserved.ensures.items refl refl

pub returns-clause-change : goal.returns-clause-change
returns-clause-change c =
    let start = at_rest (contents c.args.self.now.start_log c.args.self.now.start_files) in
    let calls = c.args.self.now.calls.items in
    let disk = after start calls in
    done_change c.args.self.now _ (record { log = refl; files = refl; last = refl; room_out = refl }) (RemoveFile c.args.name) (File c.args.name) (file_with disk.reads c.args.name None) c.push_reserved.ensures.items refl (set_file disk.reads c.args.name None)

pub returns-then-fails-clause-ends : goal.returns-then-fails-clause-ends
returns-then-fails-clause-ends c = failed_disk c.args.self.now _ (record { log = refl; files = refl; last = refl; room_out = refl }) false ⊥ no_short never c.note_failure.ensures.room site_disk_faults (File c.args.name ∷ []) (FailedFile c.args.name) c.if-fails.ensures.planned c.note_failure.ensures.calls c.note_failure.ensures.faults refl refl refl

pub returns-clause-ends : goal.returns-clause-ends
returns-clause-ends c = done_disk c.args.self.now _ (record { log = refl; files = refl; last = refl; room_out = refl }) false ⊥ no_short never c.push_reserved.ensures.capacity site_disk_faults (File c.args.name ∷ []) _ (RemoveFile c.args.name) c.if-fails.ensures.planned c.push_reserved.ensures.items refl

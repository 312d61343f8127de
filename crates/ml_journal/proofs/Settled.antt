-- The steps of the journal: each is one change that is settled before the next.
use Rattle.std.proofs.Common.{◌≡◌, ◌≤◌, ◌+◌, ℕ, IsTrue, List, [], ◌∷◌, length, Option, Result, Ok, Err, OnOk, sym, ◌∙◌, ap, subst}
use Rattle.std.specs.BTreeMap.{BTreeMap}
use Rattle.ml_base.specs.Bytes.{Text}
use Rattle.ml_base.specs.Dir.{Dir}
use Rattle.ml_base.specs.declared.names.Name.{Name}
use Rattle.ml_base.specs.declared.puts.Put.{Put}
use Rattle.ml_site.specs.Disk.{Contents, Part, Range, Cut, MayLeave, log_with}
use Rattle.ml_site.specs.Instants.{Within}
use Rattle.ml_site.specs.declared.site.Site.{Ghosts}
use Rattle.ml_journal.specs.Log.{directory}
use Rattle.ml_journal.specs.Calls.{IsClean, KeepsDirectory, ChangesDirectory, Settles}
use Rattle.ml_journal.specs.Laying.{laid_down, Beside, LaysFiles}
use Rattle.ml_journal.specs.Newest.{with_newest}
use Rattle.ml_journal.specs.Rows.{IsRecord, IsShut, Lays, Rests, Staged}
use Rattle.ml_journal.proofs.Closing.{IsClosed, while_laid, while_closed, while_cut}
use Rattle.ml_journal.proofs.Crash.{after_gate, at_gate}
use Rattle.ml_journal.proofs.Keeping.{directory_by, directory_on, changes_by}
use Rattle.ml_journal.proofs.Shut.{at_cut, at_one_gate, one_gate_log}

module _ {S : Type 0} (ghosts : Ghosts S) where
  -- the directory stays if every image of a part has it
  pub settled_same : {E : Type 0} (result : Result (Unit {0}) E) (part : Part) (done : Contents) (old new : S) → (IsTrue ghosts.tells_all → IsTrue ghosts.tells_reads) → Settles ghosts result part done old new
      → (IsTrue ghosts.tells_reads → (left : Contents) → MayLeave (ghosts.disk old).reads (part ∷ []) left → directory left ≡ directory (ghosts.disk old).reads) → KeepsDirectory ghosts old new
  settled_same result part done old new all_has_reads settles is = directory_by ghosts old new (Within (ghosts.disk old).reads (part ∷ []) (ghosts.output old)) settles.instants
      (λ r. is r (ghosts.disk new).reads (settles.reads r).part_only)
      (λ t left out now. (is (all_has_reads t) left now.0, now.1))

  -- the gate is written of a log that has at most one byte
  pub one_gate_step : {E : Type 0} (result : Result (Unit {0}) E) (done : Contents) (old new : S) → (IsTrue ghosts.tells_all → IsTrue ghosts.tells_reads) → Settles ghosts result (Range 0 1) done old new
      → (IsTrue ghosts.tells_reads → length (ghosts.disk old).reads.log ≤ 1) → KeepsDirectory ghosts old new
  one_gate_step result done old new all_has_reads settles short = settled_same result (Range 0 1) done old new all_has_reads settles (λ r left may. at_one_gate (ghosts.disk old).reads left (short r) may)

  pub one_gate_clean : {E : Type 0} (result : Result (Unit {0}) E) (old new : S) → Settles ghosts result (Range 0 1) (log_with (ghosts.disk old).reads 0 (0 ∷ [])) old new
      → (IsTrue ghosts.tells_reads → length (ghosts.disk old).reads.log ≤ 1) → OnOk result (IsClean ghosts new)
  one_gate_clean (Ok u) old new settles short = record {
    log = λ r. ap (λ (m : Contents). m.log) (settles.reads r).ok ∙ one_gate_log (ghosts.disk old).reads (short r);
    rest = settles.rest;
  }
  one_gate_clean (Err e) old new settles short = tt

  -- a log whose first gate is closed is cut after it
  pub cut_step : {E : Type 0} (result : Result (Unit {0}) E) (done : Contents) (old new : S) → (IsTrue ghosts.tells_all → IsTrue ghosts.tells_reads) → Settles ghosts result (Cut 1) done old new
      → (IsTrue ghosts.tells_reads → IsShut (ghosts.disk old).reads.log) → (IsTrue ghosts.tells_reads → 2 ≤ length (ghosts.disk old).reads.log) → KeepsDirectory ghosts old new
  cut_step result done old new all_has_reads settles shut long = settled_same result (Cut 1) done old new all_has_reads settles (λ r left may. at_cut (ghosts.disk old).reads left (shut r) (long r) may)

  -- a record is written after the last gate
  pub record_step : {E : Type 0} (result : Result (Unit {0}) E) (done : Contents) (end n : ℕ) (change : IsTrue ghosts.tells_reads → Dir → Dir) (old new : S) → (IsTrue ghosts.tells_all → IsTrue ghosts.tells_reads) → Settles ghosts result (Range (end + 1) n) done old new
      → ((r : IsTrue ghosts.tells_reads) → Rests (ghosts.disk old).reads.log end (change r)) → KeepsDirectory ghosts old new
  record_step result done end n change old new all_has_reads settles rests = settled_same result (Range (end + 1) n) done old new all_has_reads settles (λ r left may. after_gate (ghosts.disk old).reads end n (change r) left (rests r) may)

  -- its gate is opened
  pub gate_step : {E : Type 0} (result : Result (Unit {0}) E) (done : Contents) (end : ℕ) (body : Text) (txn : List Put) (change : IsTrue ghosts.tells_reads → Dir → Dir) (old new : S) → (IsTrue ghosts.tells_all → IsTrue ghosts.tells_reads) → Settles ghosts result (Range end 1) done old new
      → ((r : IsTrue ghosts.tells_reads) → Staged (ghosts.disk old).reads.log end body (change r)) → IsRecord body txn → ChangesDirectory ghosts txn old new
  gate_step result done end body txn change old new all_has_reads settles staged record_is = changes_by ghosts txn old new (Within (ghosts.disk old).reads (Range end 1 ∷ []) (ghosts.output old)) settles.instants
      (λ r. at_gate (ghosts.disk old).reads end body (change r) txn (ghosts.disk new).reads (staged r) record_is (settles.reads r).part_only)
      (λ t left out now. (at_gate (ghosts.disk old).reads end body (change (all_has_reads t)) txn left (staged (all_has_reads t)) record_is now.0, now.1))

  -- the files are laid down
  pub files_step : {E : Type 0} (result : Result (Unit {0}) E) (puts : BTreeMap Name (Option Text)) (old new : S) → (IsTrue ghosts.tells_all → IsTrue ghosts.tells_reads) → (IsTrue ghosts.tells_reads → Lays (ghosts.disk old).reads.log (with_newest puts))
      → LaysFiles ghosts result puts old new → KeepsDirectory ghosts old new
  files_step result puts old new all_has_reads held laid = directory_by ghosts old new (λ left out. Beside puts (ghosts.disk old).reads left × (out ≡ ghosts.output old)) laid.instants
      (λ r. while_laid (ghosts.disk old).reads puts (ghosts.disk new).reads (held r) (laid.beside r))
      (λ t left out now. (while_laid (ghosts.disk old).reads puts left (held (all_has_reads t)) now.0, now.1))

  -- the first gate is closed over them
  pub closed_step : {E : Type 0} (result : Result (Unit {0}) E) (done : Contents) (puts : BTreeMap Name (Option Text)) (old mid new : S) → (IsTrue ghosts.tells_all → IsTrue ghosts.tells_reads) → (IsTrue ghosts.tells_reads → Lays (ghosts.disk old).reads.log (with_newest puts))
      → (IsTrue ghosts.tells_reads → (ghosts.disk mid).reads ≡ laid_down puts (ghosts.disk old).reads) → (IsTrue ghosts.tells_all → ghosts.output mid ≡ ghosts.output old) → KeepsDirectory ghosts old mid
      → Settles ghosts result (Range 0 1) done mid new → KeepsDirectory ghosts old new
  closed_step result done puts old mid new all_has_reads held is output before settles = directory_on ghosts all_has_reads old mid new output before
      (settled_same result (Range 0 1) done mid new all_has_reads settles
      (λ r left may. while_closed (ghosts.disk old).reads puts left (held r) (subst (λ (m : Contents). MayLeave m (Range 0 1 ∷ []) left) (is r) may) ∙ sym (before.same r)))

  -- the log is cut after it
  pub shut_step : {E : Type 0} (result : Result (Unit {0}) E) (done : Contents) (puts : BTreeMap Name (Option Text)) (old mid new : S) → (IsTrue ghosts.tells_all → IsTrue ghosts.tells_reads) → (IsTrue ghosts.tells_reads → Lays (ghosts.disk old).reads.log (with_newest puts))
      → (IsTrue ghosts.tells_reads → IsClosed (ghosts.disk old).reads puts (ghosts.disk mid).reads) → (IsTrue ghosts.tells_all → ghosts.output mid ≡ ghosts.output old) → KeepsDirectory ghosts old mid
      → Settles ghosts result (Cut 1) done mid new → KeepsDirectory ghosts old new
  shut_step result done puts old mid new all_has_reads held closed output before settles = directory_on ghosts all_has_reads old mid new output before
      (settled_same result (Cut 1) done mid new all_has_reads settles
      (λ r left may. while_cut (ghosts.disk old).reads puts (ghosts.disk mid).reads left (held r) (closed r) may ∙ sym (before.same r)))

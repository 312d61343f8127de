-- What a call that reads files keeps of them, and which files it says are damaged.
--
-- A function that is generic over `F: Files` says it in one clause each, where `⟦<F as Files>⟧` is all that the type tells:
--
--     ensures reads { IsReading ⟦<F as Files>⟧ files.old files.new result }
--     ensures names { NamesDamaged ⟦<F as Files>⟧ (λ name. name ≡ ..) (λ name. .. (F.map files.old) ..) result }
--
-- The search proves both at each return from the same clauses of the calls, without an answer, and uses their fields. In an
-- invariant of a loop that reads, `AreKept g.F.Files l.fn.files l.files` says how far the files have come. By hand,
-- proofs/ReadingLemmas joins a call and the calls before it.
use Rattle.std.specs.Prelude.{◌≤◌, IsTrue, Result, IfErr, IsErrOf}
use Rattle.ml_base.specs.Faults.{Rose}
use Rattle.ml_base.specs.PartErrors.{OnDamaged}
use Rattle.ml_base.specs.declared.files.Files.{Ghosts}
use Rattle.ml_base.specs.declared.names.Name.{Name}
use Rattle.ml_base.specs.declared.part_error.PartError.{PartError}
use Rattle.ml_base.specs.declared.part_error.PartError.TheVariants.{Fault}

-- the files are kept, and their count of faults hasn't fallen
pub record AreKept {F : Type 0} (ghosts : Ghosts F) (old new : F) : Type 0 where
  pub kept : ghosts.kept old new
  pub later : ghosts.faults old ≤ ghosts.faults new

-- the same, and the error of a fault comes only if the count rose
pub record IsReading {F T : Type 0} (ghosts : Ghosts F) (old new : F) (result : Result T PartError) : Type 0 where
  pub kept : ghosts.kept old new
  pub later : ghosts.faults old ≤ ghosts.faults new
  pub cause : IsErrOf result Fault → Rose (ghosts.faults old) (ghosts.faults new)

-- a file that is named as damaged is one of those that may be read, and if the files tell their map, it is outside
-- its grammar
pub record NamesDamaged {F T : Type 0} (ghosts : Ghosts F) (MayRead IsBad : Name → Type 0) (result : Result T PartError) : Type 0 where
  pub named : IfErr result (λ e. OnDamaged e MayRead)
  pub damaged : IsTrue ghosts.tells → IfErr result (λ e. OnDamaged e IsBad)

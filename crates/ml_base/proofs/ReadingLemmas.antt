-- What a call that reads files keeps, joined to what the calls before it kept.
use Rattle.std.proofs.Common.{Result, Ok, arith}
use Rattle.ml_base.specs.ReadFiles.{AreKept, IsReading}
use Rattle.ml_base.specs.declared.files.Files.{Ghosts}
use Rattle.ml_base.specs.declared.part_error.PartError.{PartError}

-- the two laws of files that are used here: in a function they are `g.met.F.Files.kept_self` and `g.met.F.Files.kept_then`
abbrev pub KeepsItself : {F : Type 0} → Ghosts F → Type 0
KeepsItself {F} ghosts = (files : F) → ghosts.kept files files

abbrev pub KeepsOn : {F : Type 0} → Ghosts F → Type 0
KeepsOn {F} ghosts = (first second third : F) → ghosts.kept first second → ghosts.kept second third → ghosts.kept first third

-- files that nobody has read are kept
pub kept_self : {F : Type 0} (ghosts : Ghosts F) → KeepsItself ghosts → (files : F) → AreKept ghosts files files
kept_self ghosts itself files = record { kept = itself files; later = omega arith }

-- what is kept twice is kept
pub kept_then : {F : Type 0} (ghosts : Ghosts F) → KeepsOn ghosts → (first second third : F) → AreKept ghosts first second → AreKept ghosts second third → AreKept ghosts first third
kept_then ghosts on first second third one two = record {
  kept = on first second third one.kept two.kept;
  later = omega (arith, one.later, two.later);
}

-- a call that was made keeps the files, whatever it answered
pub kept_read : {F T : Type 0} (ghosts : Ghosts F) (old new : F) (result : Result T PartError) → IsReading ghosts old new result → AreKept ghosts old new
kept_read ghosts old new result is = record { kept = is.kept; later = is.later }

-- an answer is no fault
pub reading_ok : {F T : Type 0} (ghosts : Ghosts F) (old new : F) (answer : T) → AreKept ghosts old new → IsReading ghosts old new (Ok answer)
reading_ok ghosts old new answer is = record { kept = is.kept; later = is.later; cause = λ bad. absurd (cc) }

-- a call after another call
pub reading_then : {F T : Type 0} (ghosts : Ghosts F) → KeepsOn ghosts → (first second third : F) (result : Result T PartError) → AreKept ghosts first second → IsReading ghosts second third result
    → IsReading ghosts first third result
reading_then ghosts on first second third result one two = record {
  kept = on first second third one.kept two.kept;
  later = omega (arith, one.later, two.later);
  cause = λ bad. let rose = two.cause bad in omega (arith, rose, one.later);
}

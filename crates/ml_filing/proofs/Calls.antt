-- Lemmas of ml_base on calls that read files, here with arguments that antt finds itself.
use Rattle.std.proofs.Common.{Result}
use Rattle.ml_base.specs.ReadFiles.{AreKept, IsReading}
use Rattle.ml_base.specs.declared.files.Files.{Ghosts}
use Rattle.ml_base.specs.declared.part_error.PartError.{PartError}
use Rattle.ml_base.proofs.ReadingLemmas.{KeepsOn, kept_read, kept_then, reading_then}

-- a call that reads keeps the files, also after calls that kept them
pub kept_by : {F T : Type 0} {ghosts : Ghosts F} {first second : F} {called : Result T PartError} → IsReading ghosts first second called → AreKept ghosts first second
kept_by {ghosts = ghosts} {first = first} {second = second} {called = called} is = kept_read ghosts first second called is

pub kept_on : {F T : Type 0} {ghosts : Ghosts F} {first second third : F} {called : Result T PartError} → KeepsOn ghosts → AreKept ghosts first second → IsReading ghosts second third called → AreKept ghosts first third
kept_on {ghosts = ghosts} {first = first} {second = second} {third = third} on before is = kept_then ghosts on first second third before (kept_by is)

-- a call after calls that kept the files counts as one call with them
pub read_on : {F T : Type 0} {ghosts : Ghosts F} {first second third : F} {called : Result T PartError} → KeepsOn ghosts → AreKept ghosts first second → IsReading ghosts second third called → IsReading ghosts first third called
read_on {ghosts = ghosts} {first = first} {second = second} {third = third} {called = called} on before is = reading_then ghosts on first second third called before is

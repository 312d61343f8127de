-- Why a part of the list gives no answer: its error in terms of the files' error, and facts about the file it names.
use Rattle.ml_base.specs.declared.files.FilesError.{FilesError}
use Rattle.ml_base.specs.declared.files.FilesError.TheVariants as files
use Rattle.ml_base.specs.declared.names.Name.{Name}
use Rattle.ml_base.specs.declared.part_error.PartError.{PartError}
use Rattle.ml_base.specs.declared.part_error.PartError.TheVariants.{Fault, Memory, Damaged}

-- the error of a part whose files answered this one
abbrev pub part_error : FilesError → PartError
part_error files.Fault = Fault
part_error files.Memory = Memory

-- if the error names a file as damaged, that file has this property
abbrev pub OnDamaged : PartError → (Name → Type 0) → Type 0
OnDamaged Fault P = Unit {0}
OnDamaged Memory P = Unit {0}
OnDamaged (Damaged name) P = P name

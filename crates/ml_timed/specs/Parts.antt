-- What every part of a timed run promises.
use Rattle.std.specs.Prelude.{Bool, IsTrue, Result}
use Rattle.ml_base.specs.Dir.{Dir, with_puts}
use Rattle.ml_base.specs.Layers.{files_below, puts_over}
use Rattle.ml_base.specs.ReadFiles.{IsReading, NamesDamaged}
use Rattle.ml_base.specs.declared.files.Files.{Ghosts}
use Rattle.ml_base.specs.declared.layer.Layer.{Layer}
use Rattle.ml_base.specs.declared.names.Name.{Name}
use Rattle.ml_base.specs.declared.part_error.PartError.{PartError}
use Rattle.ml_acts.specs.Growing.{IsGrown}
use Rattle.ml_acts.specs.Spelled.{DamagesNothing}

-- the files below a layer, with the puts of another layer over them
abbrev pub over : {F : Type 0} → Ghosts F → Layer F → Layer F → Dir
over ghosts below puts = with_puts (ghosts.map (files_below below)) (puts_over puts)

-- Whatever it answers, its puts come after those that lay there, are of files that it may write, and damage nothing, and the files below are
-- only read. A file named as damaged passes MayRead, and IsBad of the files as they were before it and of those that it leaves.
pub record AnswersPart {F T : Type 0} (may_write : Name → Bool) (ghosts : Ghosts F) (MayRead : Name → Type 0) (IsBad : Dir → Dir → Name → Type 0) (old new : Layer F) (result : Result T PartError) : Type 0 where
  pub grown : IsGrown may_write (puts_over old) (puts_over new)
  pub harmless : IsTrue ghosts.tells → DamagesNothing (over ghosts old old) (over ghosts old new)
  pub names : NamesDamaged ghosts MayRead (IsBad (over ghosts old old) (over ghosts old new)) result
  pub reads : IsReading ghosts (files_below old) (files_below new) result

-- What every function promises that does an act on the list.
use Rattle.std.specs.Prelude.{◌≡◌, Bool, true, List, IsTrue, Result, IfOk}
use Rattle.ml_base.specs.Dir.{are_files, touches_only}
use Rattle.ml_base.specs.ReadFiles.{IsReading, NamesDamaged}
use Rattle.ml_base.specs.declared.files.Files.{Ghosts}
use Rattle.ml_base.specs.declared.names.Name.{Name}
use Rattle.ml_base.specs.declared.part_error.PartError.{PartError}
use Rattle.ml_base.specs.declared.puts.Put.{Put}
use Rattle.ml_plain.specs.declared.Reply.{Reply}
use Rattle.ml_plain.specs.KeptFiles.{may_be_kept}
use Rattle.ml_acts.specs.Doing.{is_beside_mark, is_of_posting}
use Rattle.ml_acts.specs.Growing.{is_of_time}

-- The puts are of files that the act may write and that the log may name, and the reply can be kept. A file named as damaged passes MayRead
-- and IsBad, and files are only read.
pub record AnswersWithin {F : Type 0} (may_write : Name → Bool) (ghosts : Ghosts F) (MayRead IsBad : Name → Type 0) (old new : F) (result : Result (List Put × Reply) PartError) : Type 0 where
  pub own : IfOk result (λ done. touches_only may_write done.0 ≡ true)
  pub files : IfOk result (λ done. IsTrue (are_files done.0))
  pub reply : IfOk result (λ done. may_be_kept done.1 ≡ true)
  pub names : NamesDamaged ghosts MayRead IsBad result
  pub reads : IsReading ghosts old new result

-- an act that may write what a delivery may
abbrev pub AnswersAct : {F : Type 0} → Ghosts F → (Name → Type 0) → (Name → Type 0) → F → F → Result (List Put × Reply) PartError → Type 0
AnswersAct ghosts MayRead IsBad old new result = AnswersWithin is_beside_mark ghosts MayRead IsBad old new result

-- one that posts, or does what a moderator answers
abbrev pub AnswersPost : {F : Type 0} → Ghosts F → (Name → Type 0) → (Name → Type 0) → F → F → Result (List Put × Reply) PartError → Type 0
AnswersPost ghosts MayRead IsBad old new result = AnswersWithin is_of_posting ghosts MayRead IsBad old new result

-- a timed run
abbrev pub AnswersTimed : {F : Type 0} → Ghosts F → (Name → Type 0) → (Name → Type 0) → F → F → Result (List Put × Reply) PartError → Type 0
AnswersTimed ghosts MayRead IsBad old new result = AnswersWithin is_of_time ghosts MayRead IsBad old new result

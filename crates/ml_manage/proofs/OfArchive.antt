-- What an answer from the archive promises, by what its calls promise.
use Rattle.std.proofs.Common.{◌≡◌, ⊎_elim, Bool, true, ◌&&◌, ◌||◌, IsTrue, List, Result, refl}
use Rattle.std.proofs.lemmas.Bool.{and_parts, or_cases, or_left, or_right}
use Rattle.ml_base.specs.Bytes.{Text}
use Rattle.ml_base.specs.Dir.{Dir, same_name}
use Rattle.ml_base.specs.ReadFiles.{AreKept, NamesDamaged}
use Rattle.ml_base.specs.declared.files.Files.{Ghosts}
use Rattle.ml_base.specs.declared.names.Name.{Name}
use Rattle.ml_base.specs.declared.names.Set.TheVariants as sets
use Rattle.ml_base.specs.declared.part_error.PartError.{PartError}
use Rattle.ml_base.specs.declared.puts.Put.{Put}
use Rattle.ml_base.proofs.ReadingLemmas.{KeepsOn}
use Rattle.ml_filing.specs.Threads.{is_of_archive}
use Rattle.ml_config.specs.declared.configuration.Config.{Config}
use Rattle.ml_plain.specs.declared.Reply.{Reply}
use Rattle.ml_queue.specs.Answers.{ids_name}
use Rattle.ml_acts.specs.Acting.{AnswersWithin}
use Rattle.ml_acts.specs.Asked.{Asked, IsDamagedOf}
use Rattle.ml_acts.specs.Damaged.{IsDamaged}
use Rattle.ml_acts.specs.Doing.{is_bucket_of, is_of_queue}
use Rattle.ml_acts.proofs.Asked.{bucket_other, ids_other, named_as, named_beside}
use Rattle.ml_acts.proofs.OfActs.{act_beside}
use Rattle.ml_manage.specs.Reads.{is_of_reader}

-- the files that say whether the archive is open aren't of the archive
pub reader_other : (name : Name) (c : Config) (sender : Text) → is_of_reader c sender name ≡ true → is_of_archive name ≡ true → ⊥
reader_other name c sender e of =
    let list = is_bucket_of sets.List sender name in
    let digest = is_bucket_of sets.Digest sender name in
    ⊎_elim (λ a. bucket_other name sets.Moderators sender a of)
    (λ more. ⊎_elim (λ a. bucket_other name sets.List sender a of) (λ b. bucket_other name sets.Digest sender b of) (or_cases list digest (and_parts c.flags.g (list || digest) more).1))
    (or_cases (is_bucket_of sets.Moderators sender name) (c.flags.g && (list || digest)) e)

module _ {F : Type 0} (ghosts : Ghosts F) (asked : Asked) where
  -- an answer from the archive may name the files that say whether it is open, and the counter of ids
  module _ (c : Config) (sender : Text) (part : Name → Bool) where
    abbrev IsOfAnswer : Name → Type 0
    IsOfAnswer name = (is_of_reader c sender name || part name || same_name name ids_name) ≡ true

    pub reader_named : {T : Type 0} (r : Result T PartError) (dir : Dir) → NamesDamaged ghosts (λ name. is_of_reader c sender name ≡ true) (IsDamaged dir) r → NamesDamaged ghosts IsOfAnswer (IsDamagedOf dir asked) r
    reader_named r dir is =
        named_beside ghosts IsOfAnswer r dir dir asked (λ name. is_of_reader c sender name ≡ true) (λ t. refl)
        (λ name e. or_left (is_of_reader c sender name || part name) (same_name name ids_name) (or_left (is_of_reader c sender name) (part name) e)) (λ name e of. reader_other name c sender e of) is

    pub part_named : {T : Type 0} (r : Result T PartError) (later dir : Dir) → (IsTrue ghosts.tells → later ≡ dir) → NamesDamaged ghosts (λ name. part name ≡ true) (IsDamagedOf later asked) r → NamesDamaged ghosts IsOfAnswer (IsDamagedOf dir asked) r
    part_named r later dir same is =
        named_as ghosts IsOfAnswer r dir later (λ name. part name ≡ true) (λ d. IsDamagedOf d asked) (IsDamagedOf dir asked) same
        (λ name e. or_left (is_of_reader c sender name || part name) (same_name name ids_name) (or_right (is_of_reader c sender name) (part name) e)) (λ name e bad. bad) is

    pub answer_act : (r : Result (List Put × Reply) PartError) → KeepsOn ghosts → (first second third : F) → AreKept ghosts first second → (IsTrue ghosts.tells → ghosts.map second ≡ ghosts.map first)
        → AnswersWithin is_of_queue ghosts (λ name. same_name name ids_name ≡ true) (IsDamaged (ghosts.map second)) second third r → AnswersWithin is_of_queue ghosts IsOfAnswer (IsDamagedOf (ghosts.map first) asked) first third r
    answer_act r on first second third kept same act =
        act_beside ghosts asked on kept same (λ name e. or_right (is_of_reader c sender name || part name) (same_name name ids_name) e) (λ name e of. ids_other name e of) act

-- None of what is read of held posts belongs to the archive.
use Rattle.std.proofs.Common.{◌≡◌, ⊎_elim, ℕ, true, ◌&&◌, refl}
use Rattle.std.proofs.lemmas.Bool.{and_parts, or_cases}
use Rattle.ml_base.specs.Dir.{same_name}
use Rattle.ml_base.specs.Ranges.{is_drawn}
use Rattle.ml_base.specs.declared.names.Name.{Name}
use Rattle.ml_base.specs.declared.names.Set.TheVariants as sets
use Rattle.ml_filing.specs.Threads.{is_of_archive}
use Rattle.ml_config.specs.KeyFile.{key_name}
use Rattle.ml_hold.specs.Answers.{post_name, tickets_name}
use Rattle.ml_acts.specs.Doing.{is_mailed_by}
use Rattle.ml_acts.proofs.Asked.{mailed_other, same_other}
use Rattle.ml_post.specs.Answering.{is_taken_by}
use Rattle.ml_post.specs.Holding.{is_asked_by, is_held_by}

module _ (name : Name) where
  pub asked_other : is_asked_by name ≡ true → is_of_archive name ≡ true → ⊥
  asked_other e of = ⊎_elim (λ a. same_other name key_name refl a of) (λ b. mailed_other name sets.Moderators b of) (or_cases (same_name name key_name) (is_mailed_by sets.Moderators name) e)

  pub held_other : is_held_by name ≡ true → is_of_archive name ≡ true → ⊥
  held_other e of = ⊎_elim (λ a. same_other name tickets_name refl a of) (λ b. asked_other b of) (or_cases (same_name name tickets_name) (is_asked_by name) e)

  pub taken_other : (ticket : ℕ) → is_taken_by ticket name ≡ true → is_of_archive name ≡ true → ⊥
  taken_other ticket e of =
      ⊎_elim (λ a. same_other name (post_name ticket) refl (and_parts (is_drawn ticket) (same_name name (post_name ticket)) a).1 of) (λ b. same_other name tickets_name refl b of)
      (or_cases (is_drawn ticket && same_name name (post_name ticket)) (same_name name tickets_name) e)

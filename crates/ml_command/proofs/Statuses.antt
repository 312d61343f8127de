-- The status of `spool`, from that of its run.
use Rattle.std.proofs.Common.{◌≡◌, inl, inr, ⊎_elim, ℕ, ◌<◌, true, false, eqb, if◌then◌else◌, ap, refl, ◌∙◌, arith}
use Rattle.std.proofs.lemmas.Bool.Decides.{nat_tests}
use Rattle.ml_base.specs.Bytes.{Text}
use Rattle.ml_ending.specs.Endings.{MissesList}
use Rattle.ml_run.specs.Stops.{is_run_status}
use Rattle.ml_command.specs.Spooling.{spool_status, is_spool_status}

-- except for 100 it is the run's
pub keeps : (run status n : ℕ) → status ≡ spool_status run → eqb n 100 ≡ false → run ≡ n → status ≡ n
keeps run status n is other e = is ∙ ap spool_status e ∙ ap (λ b. if b then 0 else n) other

pub back : (run status n : ℕ) → status ≡ spool_status run → 0 < n → status ≡ n → run ≡ n
back run status n is low e = grind (arith, nat_tests)

pub known : (run status : ℕ) → status ≡ spool_status run → is_run_status run ≡ true → is_spool_status status ≡ true
known run status is run_is = grind (arith, nat_tests)

pub misses : (told : Type 0) (run status : ℕ) (before output : Text) → status ≡ spool_status run → MissesList told run before output → MissesList told status before output
misses told run status before output is m = ⊎_elim (λ whole. inl (keeps run status 75 is refl whole.0, whole.1))
    (λ more. ⊎_elim (λ a. inr (inl (keeps run status 71 is refl a))) (λ other. ⊎_elim (λ a. inr (inr (inl (keeps run status 73 is refl a)))) (λ a. inr (inr (inr (keeps run status 111 is refl a)))) other) more) m

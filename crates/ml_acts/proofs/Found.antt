-- What was found in files is still so in files that were kept by other calls.
use Rattle.std.proofs.Common.{◌≡◌, Bool, true, false, Result, Ok, Err, IfOk, inl, inr, subst}
use Rattle.ml_base.specs.Dir.{Dir}
use Rattle.ml_acts.specs.Found.{EitherTells}

module _ (One Other : Bool → Type 0) where
  -- the first says that it is so
  pub either_first : (b : Bool) → b ≡ true → One b → EitherTells One Other b
  either_first true e one = inl one
  either_first false e one = absurd (let no : false ≡ true = e in cc)

  -- the first says that it isn't, and so the second decides
  pub either_second : (a b : Bool) → a ≡ false → One a → Other b → EitherTells One Other b
  either_second true b e one other = absurd (let no : true ≡ false = e in cc)
  either_second false true e one other = inr (one, other)
  either_second false false e one other = (one, other)

-- what an answer found in files that were kept, in other terms
pub found_then : {T E : Type 0} (r : Result T E) (old new : Dir) (P : Dir → T → Type 0) (Q : T → Type 0) → new ≡ old → ((x : T) → P old x → Q x) → IfOk r (P new) → IfOk r Q
found_then (Err e) old new P Q same f is = tt
found_then (Ok x) old new P Q same f is = f x (subst (λ (d : Dir). P d x) same is)

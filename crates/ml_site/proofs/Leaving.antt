-- What a filled disk holds is an image that a crash at its instant may leave.
use Rattle.std.proofs.Common.{◌≡◌, ◌<◌, ◌≤◌, ℕ, ◌⊎◌, inl, inr, zero, suc, ◌+◌, min, List, [], ◌∷◌, length, take, Result, Ok, Err, refl, sym, ◌∙◌, ap, subst, arith}
use Rattle.std.specs.Prelude.{IfOk}
use Rattle.std.proofs.lemmas.Bool.{cases_lt}
use Rattle.std.proofs.lemmas.List.{take_all}
use Rattle.ml_site.specs.declared.call.Call.{Call}
use Rattle.ml_site.specs.declared.fill.Fill.{Fill}
use Rattle.ml_site.specs.declared.fill.Fill.TheVariants as fills
use Rattle.ml_site.specs.Disk.{Contents, Disk, IsImage}
use Rattle.ml_site.specs.Recorded.{at_rest, after, given, Left}
use Rattle.ml_site.specs.Filled.{filled}
use Rattle.ml_site.specs.Replay.{after-is_image}
use Rattle.ml_site.proofs.Filling.{image_filled}
use Rattle.ml_site.proofs.Settling.{settled_left}

-- every fill gives an image
pub filled-is_image : (start : Contents) (calls : List Call) (fill : Fill) → IsImage (after (at_rest start) calls) (filled fill (after (at_rest start) calls))
filled-is_image start calls fills.Old = settled_left (after (at_rest start) calls).settled (after (at_rest start) calls).pending
filled-is_image start calls fills.New = after-is_image start calls
filled-is_image start calls (fills.Byte byte) = image_filled byte (after (at_rest start) calls).settled (after (at_rest start) calls).pending (after (at_rest start) calls).reads (after-is_image start calls)

-- what follows from an answer that is Ok
pub if_ok : {A E : Type 0} (r : Result A E) (P Q : A → Type 0) → IfOk r P → ((x : A) → P x → Q x) → IfOk r Q
if_ok (Ok x) P Q p f = f x p
if_ok (Err e) P Q p f = tt

more_given : (k : ℕ) (calls : List Call) → given (take k calls) ≤ given (take (k + 1) calls)
more_given zero [] = omega arith
more_given (suc k) [] = omega arith
more_given zero (call ∷ calls) = omega arith
more_given (suc k) (call ∷ calls) =
    let next : suc k + 1 ≡ suc (k + 1) = omega arith in
    omega (arith, more_given k calls, ap (λ (n : ℕ). given (take n (call ∷ calls))) next)

-- an image after some calls is one of the instants since any time before
pub left_then : (start : Disk) (calls : List Call) (output : List ℕ) (k t : ℕ) (left : Contents) → t ≤ min k (length calls) → IsImage (after start (take k calls)) left
    → Left start calls output t left (take (given (take k calls)) output)
left_then start calls output k t left le image = record {
  number = min k (length calls);
  since = le;
  until = omega arith;
  count = given (take k calls);
  at_least = omega (arith, ap given same);
  at_most = omega (arith, ap given same, more_given (min k (length calls)) calls);
  image = subst (λ (cs : List Call). IsImage (after start cs) left) (sym same) image;
  output_is = refl;
}
  where
    same : take (min k (length calls)) calls ≡ take k calls
    same = first (cases_lt k (length calls))
      where
        first : (k < length calls) ⊎ (length calls ≤ k) → take (min k (length calls)) calls ≡ take k calls
        first (inl lt) = ap (λ (n : ℕ). take n calls) (let is : min k (length calls) ≡ k = omega arith in is)
        first (inr le) = take_all (min k (length calls)) calls (omega arith) ∙ sym (take_all k calls le)

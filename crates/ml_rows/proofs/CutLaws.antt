-- A cut is the longest front that has at most so many things, together of at most such a size, but always the first one.
use Rattle.std.proofs.Common.{◌≡◌, ◌<◌, ◌≤◌, ◌-◌, ℕ, zero, suc, Bool, true, false, cond, ◌&&◌, List, [], ◌∷◌, length, take, refl, sym, ap, ◌∙◌, arith, ◌⊎◌, inl, inr}
use Rattle.std.specs.Prelude.{nat_lt, nat_le}
use Rattle.std.specs.List.{sum_by}
use Rattle.std.proofs.lemmas.List.Sums.{sum_by-cons}
use Rattle.std.proofs.lemmas.Bool.{ltb-true, ltb-false, leb-true, leb-false, and_parts}
use Rattle.ml_base.specs.Cuts.{within, one_or_within}
use Rattle.ml_rows.specs.Longest.{IsLongest}

module _ {E : Type 0} (size : E → ℕ) where
  abbrev pub total : List E → ℕ
  total xs = sum_by size xs

  -- the same, without the exception for the first one
  record IsWithin (count room : ℕ) (xs front : List E) : Type 0 where
    pub is_front : front ≡ take (length front) xs
    pub few : length front ≤ count
    pub fits : total front ≤ room
    pub longest : (k : ℕ) → length front < k → k ≤ length xs → (count < k) ⊎ (room < total (take k xs))

  -- a first thing that is too large by itself
  too_large : (room : ℕ) (x : E) (xs : List E) (k : ℕ) → room < size x → 0 < k → room < total (take k (x ∷ xs))
  too_large room x xs zero large some = absurd (omega (arith, some))
  too_large room x xs (suc k) large some = let first = sum_by-cons size x (take k xs) in omega (arith, large, first)

  -- one more thing before what is taken of the others
  onto_within : (count room : ℕ) (x : E) (xs front : List E) → 0 < count → size x ≤ room → IsWithin (count - 1) (room - size x) xs front → IsWithin count room (x ∷ xs) (x ∷ front)
  onto_within count room x xs front some small is = record {
    is_front = ap (λ t. x ∷ t) is.is_front;
    few = let few = is.few in omega (arith, few, some);
    fits = let fits = is.fits in let first = sum_by-cons size x front in omega (arith, fits, small, first);
    longest = λ k more le. longer k more le;
  }
    where
      longer : (k : ℕ) → suc (length front) < k → k ≤ suc (length xs) → (count < k) ⊎ (room < total (take k (x ∷ xs)))
      longer zero more le = absurd (omega (arith, more))
      longer (suc k) more le = go (is.longest k (omega (arith, more)) (omega (arith, le)))
        where
          go : ((count - 1 < k) ⊎ (room - size x < total (take k xs))) → (count < suc k) ⊎ (room < total (take (suc k) (x ∷ xs)))
          go (inl many) = inl (omega (arith, many, some))
          go (inr large) = inr (let first = sum_by-cons size x (take k xs) in omega (arith, large, small, first))

  none_within : (count room : ℕ) (x : E) (xs : List E) → (nat_lt 0 count && nat_le (size x) room) ≡ false → IsWithin count room (x ∷ xs) []
  none_within count room x xs no_more = record { is_front = refl; few = omega arith; fits = omega arith; longest = λ k more le. go (nat_lt 0 count) refl k more }
    where
      go : (t : Bool) → nat_lt 0 count ≡ t → (k : ℕ) → 0 < k → (count < k) ⊎ (room < total (take k (x ∷ xs)))
      go false e k more = let none = ltb-false 0 count e in inl (omega (arith, none, more))
      go true e k more =
          let large = leb-false (size x) room (sym (ap (λ t. t && nat_le (size x) room) e) ∙ no_more) in
          inr (too_large room x xs k large more)

  within_is : (count room : ℕ) (xs : List E) → IsWithin count room xs (within size count room xs)
  within_is count room [] = record { is_front = refl; few = omega arith; fits = omega arith; longest = λ k more le. absurd (omega (arith, more, le)) }
  within_is count room (x ∷ xs) = go (nat_lt 0 count && nat_le (size x) room) refl (within_is (count - 1) (room - size x) xs)
    where
      go : (t : Bool) → (nat_lt 0 count && nat_le (size x) room) ≡ t → IsWithin (count - 1) (room - size x) xs (within size (count - 1) (room - size x) xs)
          → IsWithin count room (x ∷ xs) (cond t (x ∷ within size (count - 1) (room - size x) xs) [])
      go true e is = let parts = and_parts (nat_lt 0 count) (nat_le (size x) room) e in onto_within count room x xs (within size (count - 1) (room - size x) xs) (ltb-true 0 count parts.0) (leb-true (size x) room parts.1) is
      go false e is = none_within count room x xs e

  -- the cut, if at least one thing may be taken
  pub cut_is : (count room : ℕ) (xs : List E) → 0 < count → IsLongest size count room xs (one_or_within size count room xs)
  cut_is count room [] some = record { is_front = refl; few = omega arith; fits = inl (omega arith); longest = λ k more le. absurd (omega (arith, more, le)) }
  cut_is count room (x ∷ xs) some = go (nat_le (size x) room) refl
    where
      go : (t : Bool) → nat_le (size x) room ≡ t → IsLongest size count room (x ∷ xs) (cond t (x ∷ within size (count - 1) (room - size x) xs) (x ∷ []))
      go true e =
          let is = onto_within count room x xs (within size (count - 1) (room - size x) xs) some (leb-true (size x) room e) (within_is (count - 1) (room - size x) xs) in
          record { is_front = is.is_front; few = is.few; fits = inr is.fits; longest = is.longest }
      go false e =
          let large = leb-false (size x) room e in
          record { is_front = refl; few = omega (arith, some); fits = inl (omega arith); longest = λ k more le. inr (too_large room x xs k large (omega (arith, more))) }

  pub cut_some : (count room : ℕ) (xs : List E) → 0 < length xs → 0 < length (one_or_within size count room xs)
  cut_some count room [] some = absurd (omega (arith, some))
  cut_some count room (x ∷ xs) some = go (nat_le (size x) room)
    where
      go : (t : Bool) → 0 < length (cond t (x ∷ within size (count - 1) (room - size x) xs) (x ∷ []))
      go true = omega arith
      go false = omega arith

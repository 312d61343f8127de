-- The parts round the last place of a byte.
use Rattle.std.proofs.Common.{◌≡◌, ℕ, zero, suc, ◌+◌, ◌-◌, ◌<◌, true, false, List, [], ◌∷◌, length, take, drop, get_or, Some, None, refl, sym, arith, eqb, add-one, length-drop}
use Rattle.std.proofs.Math.Seq.{take-length}
use Rattle.ml_base.specs.Bytes.{split_last}

pub split_none : (c : ℕ) (xs : List ℕ) → ((k : ℕ) → k < length xs → eqb (get_or xs k 0) c ≡ false) → split_last c xs ≡ None
split_none c [] h = refl
split_none c (x ∷ xs) h = rw (h 0 (omega arith), split_none c xs (λ k less. h (suc k) (omega arith)))

pub split_some : (c : ℕ) (xs : List ℕ) (k : ℕ) → k < length xs → eqb (get_or xs k 0) c ≡ true
    → ((j : ℕ) → k < j → j < length xs → eqb (get_or xs j 0) c ≡ false) → split_last c xs ≡ Some (take k xs, drop (suc k) xs)
split_some c [] k less is h = absurd (omega arith)
split_some c (x ∷ xs) zero less is h = rw (is, split_none c xs (λ k less. h (suc k) (omega arith) (omega arith)))
split_some c (x ∷ xs) (suc k) less is h = rw (split_some c xs k (omega arith) is (λ j above below. h (suc j) (omega arith) (omega arith)))

pub rest : (k : ℕ) (t : List ℕ) → take (length t - (k + 1)) (drop (k + 1) t) ≡ drop (suc k) t
rest k t = rw add-one (rw (← length-drop (suc k) t) (take-length (drop (suc k) t)))

-- the same, in the way that the code cuts the text
pub split_here : (c : ℕ) (xs : List ℕ) (k : ℕ) → k < length xs → eqb (get_or xs k 0) c ≡ true
    → ((j : ℕ) → k < j → j < length xs → eqb (get_or xs j 0) c ≡ false)
    → Some (take k xs, take (length xs - (k + 1)) (drop (k + 1) xs)) ≡ split_last c xs
split_here c xs k less is h = rw (rest k xs) (sym (split_some c xs k less is h))

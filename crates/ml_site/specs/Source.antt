-- What a source has left, if it tells that.
use Rattle.std.specs.Prelude.{◌≡◌, ℕ, ◌<◌, ◌^◌, List, [], ◌++◌, length, take, drop, Option, Some}
use Rattle.std.proofs.Common.{ap, arith, length-drop}

-- a read takes as many bytes from the front as it answers, and answers 0 only at the end or for an empty buffer
abbrev pub Takes : List ℕ → Option (List ℕ) → List ℕ → ℕ → Type 0
Takes left after buffer count = (rest : List ℕ) × (left ≡ take count buffer ++ rest) × (after ≡ Some rest) × (count ≡ 0 → 0 < length buffer → rest ≡ [])

-- if the number of all bytes fits in 64 bits, so does the number of those that are left
pub left-room : (at : ℕ) (all left : List ℕ) → length all < 2 ^ 64 → Some (drop at all) ≡ Some left → length left < 2 ^ 64
left-room at all left room is = let same : drop at all ≡ left = cc in omega (arith, ap length same, length-drop at all)

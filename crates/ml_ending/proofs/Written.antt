-- How long the pieces of a line are.
use Rattle.std.proofs.Common.{◌≡◌, ℕ, ◌+◌, ◌≤◌, ◌++◌, length, take, ap, arith, length-append}
use Rattle.std.proofs.lemmas.List.{length-take-le}
use Rattle.ml_base.specs.Bytes.{Text}

-- after a piece the place is further on by the length of the piece
pub place_after : (k at : ℕ) (new old piece : Text) → k ≤ length new → at ≤ length old → take k new ≡ take at old ++ piece → k ≡ at + length piece
place_after k at new old piece fits room e =
    omega (arith, ap length e, length-take-le k new fits, length-append (take at old) piece, length-take-le at old room)

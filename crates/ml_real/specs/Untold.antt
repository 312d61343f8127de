-- A source that tells nothing meets every clause about told bytes.
use Rattle.std.specs.Prelude.{◌≡◌, ℕ, List, Some, None}

-- no bytes were told, so anything follows
pub untold : {P : Type 0} (bytes : List ℕ) → None ≡ Some bytes → P
untold bytes told = absurd (cc told)

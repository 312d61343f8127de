-- A post that isn't too big can be held.
use Rattle.std.proofs.Common.{◌≤◌, ℕ, IsTrue, arith}
use Rattle.std.proofs.lemmas.Bool.{and_parts, leb-true}
use Rattle.ml_config.specs.Configuration.{is_max}

pub holdable : (size max : ℕ) → IsTrue (is_max max) → size ≤ max → size ≤ 33_554_432
holdable size max range fits = let most : max ≤ 16_777_216 = leb-true max 16_777_216 (and_parts _ _ range).1 in omega (arith, fits, most)

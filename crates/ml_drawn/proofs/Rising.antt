-- The next number to be drawn only rises.
use Rattle.std.proofs.Common.{◌≤◌, ◌<◌, ℕ, ◌⊎◌, inl, inr, List, [], ◌∷◌, arith}
use Rattle.ml_base.specs.Drawn.{Drawing, with_next}
use Rattle.ml_drawn.specs.Later.{after}
use Rattle.ml_drawn.specs.Represented.{without_number}

pub next_kept : {E : Type 0} (d : Drawing E) (later : List (E ⊎ ℕ)) → d.next ≤ (after d later).next
next_kept d [] = omega arith
next_kept d (inl thing ∷ more) = let up = next_kept (with_next thing d) more in omega (arith, up)
next_kept d (inr n ∷ more) = next_kept (without_number n d) more

-- a number that was drawn stays below the next one for good
pub next_rises : {E : Type 0} (d : Drawing E) (thing : E) (later : List (E ⊎ ℕ)) → d.next < (after (with_next thing d) later).next
next_rises d thing later = let up = next_kept (with_next thing d) later in omega (arith, up)

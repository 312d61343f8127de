-- What becomes of things under numbers as more are drawn and some are taken out.
use Rattle.std.specs.Prelude.{◌⊎◌, ℕ, List, [], ◌∷◌}
use Rattle.std.proofs.Common.{inl, inr}
use Rattle.ml_base.specs.Drawn.{Drawing, with_next}
use Rattle.ml_drawn.specs.Represented.{without_number}

-- after these changes, in order: a thing is drawn, or the thing of a number is taken out
abbrev pub after : {E : Type 0} → Drawing E → List (E ⊎ ℕ) → Drawing E
after d [] = d
after d (inl thing ∷ more) = after (with_next thing d) more
after d (inr n ∷ more) = after (without_number n d) more

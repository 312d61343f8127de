-- Small steps that several proofs take.
use Rattle.std.proofs.Common.{◌≡◌, Bool, true, false, ◌&&◌, Option, Some, None, refl, ap₂, cond}
use Rattle.std.specs.Option.{option_and_then}

-- a step that gives a value had one before it
pub bound : {A B : Type 0} (o : Option A) (f : A → Option B) (y : B) → option_and_then f o ≡ Some y → (x : A) × (o ≡ Some x) × (f x ≡ Some y)
bound None f y e = absurd cc
bound (Some x) f y e = (x, refl, e)

pub all_and : (a b : Bool) → a ≡ true → b ≡ true → (a && b) ≡ true
all_and a b p q = ap₂ (λ x y. x && y) p q

-- a value that is there only if a test passes
pub tested : {A : Type 0} (t : Bool) (x y : A) → cond t (Some x) None ≡ Some y → (t ≡ true) × (x ≡ y)
tested true x y e = (refl, cc)
tested false x y e = absurd cc

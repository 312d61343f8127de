-- A file is known to be there under a number without its bytes.
use Rattle.std.proofs.Common.{◌≡◌, ℕ, ◌<◌, ◌≤◌, true, false, cond, IsTrue, Option, Some, None, is_some, refl, sym, ap, ◌∙◌}
use Rattle.ml_base.specs.Bytes.{Text}
use Rattle.ml_base.specs.Dir.{Dir}
use Rattle.ml_base.specs.Ranges.{is_drawn}
use Rattle.ml_drawn.specs.declared.series.Series.{Series}
use Rattle.ml_drawn.specs.Names.{thing_name}
use Rattle.ml_drawn.specs.Answers.{IsFirst, NoneThere}

-- what is there has a value
pub there_is : {A : Type 0} (o : Option A) → is_some o ≡ true → (x : A) × (o ≡ Some x)
there_is None is = absurd (let bad : false ≡ true = is in cc)
there_is (Some x) is = (x, refl)

pub absent_is : {A : Type 0} (o : Option A) → is_some o ≡ false → o ≡ None
absent_is None is = refl
absent_is (Some x) is = absurd (let bad : true ≡ false = is in cc)

-- under a number that is drawn, at which something is there, its file is there
pub there_drawn : (dir : Dir) (series : Series) (n : ℕ) → IsTrue (is_drawn n) → is_some (cond (is_drawn n) (dir (thing_name series n)) None) ≡ true → (bytes : Text) × (dir (thing_name series n) ≡ Some bytes)
there_drawn dir series n drawn is = there_is (dir (thing_name series n)) (sym (ap (λ t. is_some (cond t (dir (thing_name series n)) None)) drawn) ∙ is)

-- the first such number, after those under which nothing is there
pub first_there : (dir : Dir) (series : Series) (from n next : ℕ) → from ≤ n → n < next → IsTrue (is_drawn n) → NoneThere dir series from n → is_some (cond (is_drawn n) (dir (thing_name series n)) None) ≡ true
    → (bytes : Text) × IsFirst dir series from next (record { number = n; bytes = bytes })
first_there dir series from n next up below drawn none is =
    let found = there_drawn dir series n drawn is in
    (found.0, record { onward = up; below = below; drawn = drawn; before = none; file = found.1 })

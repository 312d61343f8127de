-- Small lemmas: clauses about an optional value, and whether bytes are left.
use Rattle.std.proofs.Common.{◌≡◌, ◌<◌, false, ◌==◌, [], ◌∷◌, length, Option, Some, None, IfSome, IfNone, arith}
use Rattle.ml_base.specs.Bytes.{Text}

-- of a value, a clause about `None` says nothing
pub if_none : {A : Type 0} (o : Option A) (P : Type 0) → P → IfNone o P
if_none None P p = p
if_none (Some x) P p = tt

pub if_some_from : {A : Type 0} (o : Option A) (P Q : A → Type 0) → IfSome o P → ((x : A) → P x → Q x) → IfSome o Q
if_some_from None P Q p h = tt
if_some_from (Some x) P Q p h = h x p

pub some_left : (text : Text) → (length text == 0) ≡ false → 0 < length text
some_left [] e = cc
some_left (b ∷ bs) e = omega arith

pub no_text : (text : Text) → ◌≡◌ {A = Option Text} (Some text) None → ⊥
no_text text e = cc

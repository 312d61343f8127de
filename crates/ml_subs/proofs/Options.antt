-- Small lemmas: clauses about an optional value, and whether bytes are left.
use Rattle.std.proofs.Common.{◌≡◌, true, ◌==◌, length, Option, Some, None, IfSome, IfNone, refl}
use Rattle.std.proofs.lemmas.Bool.{eqb-true}
use Rattle.ml_base.specs.Bytes.{Text}

pub if_some : {A : Type 0} (o : Option A) (P : A → Type 0) → ((x : A) → o ≡ Some x → P x) → IfSome o P
if_some None P h = tt
if_some (Some x) P h = h x refl

pub none_left : (text : Text) → (length text == 0) ≡ true → length text ≡ 0
none_left text e = eqb-true (length text) 0 e

pub if_none_from : {A : Type 0} (o : Option A) (P : Type 0) → (o ≡ None → P) → IfNone o P
if_none_from None P h = h refl
if_none_from (Some x) P h = tt

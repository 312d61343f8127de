-- Facts about tests joined by and or or.
use Rattle.std.proofs.Common.{◌≡◌, Bool, true, false, ◌&&◌, ◌||◌, ◌==◌, refl, ap₂}
use Rattle.std.proofs.lemmas.Bool.{eqb-true, and_from, eq-eqb}
use Rattle.ml_base.specs.declared.names.Name.{Name}
use Rattle.ml_base.specs.Dir.{same_name}

pub both : (a b : Bool) → (a && b) ≡ true → (a ≡ true) × (b ≡ true)
both true b e = (refl, e)
both false b e = cc

pub both_are : (a b : Bool) → (b ≡ true → a ≡ true) → (a && b) ≡ b
both_are true b h = refl
both_are false true h = h refl
both_are false false h = refl

pub neither : (a b : Bool) → (a || b) ≡ false → (a ≡ false) × (b ≡ false)
neither true b e = cc
neither false b e = (refl, e)

-- names that compare alike are one
pub one_name : (a b : Name) → same_name a b ≡ true → a ≡ b
one_name a b e =
    let parts = both (a.kind == b.kind) (a.at == b.at) e in
    ap₂ (λ kind at. record { kind = kind; at = at }) (eqb-true a.kind b.kind parts.0) (eqb-true a.at b.at parts.1)

pub name_itself : (name : Name) → same_name name name ≡ true
name_itself name = and_from _ _ (eq-eqb name.kind name.kind refl) (eq-eqb name.at name.at refl)

pub not_true : (b : Bool) → (b ≡ true → ⊥) → b ≡ false
not_true true h = absurd (h refl)
not_true false h = refl

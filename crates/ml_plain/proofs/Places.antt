-- Histories that grow by an item, and what is at their places.
use Rattle.std.proofs.Common.{◌≡◌, ℕ, zero, suc, ◌<◌, ◌⊎◌, inl, inr, List, [], ◌∷◌, ◌++◌, Some, None, refl, sym, subst, length, slice_get, arith}
use Rattle.std.proofs.lemmas.List.{take-append-le, take_at}
use Rattle.ml_base.specs.Bytes.{Text}
use Rattle.ml_config.specs.declared.configuration.Config.{Config}
use Rattle.ml_plain.specs.declared.Item.{Item}
use Rattle.ml_plain.specs.Histories.{fold_plain}
use Rattle.ml_plain.specs.Laws.{after, Happened}
use Rattle.ml_plain.specs.Plain.{Plain}
use Rattle.ml_plain.specs.Steps.{step0}

pub fold_snoc : (p : Plain) (h : List Item) (x : Item) → fold_plain p (h ++ x ∷ []) ≡ (step0 (fold_plain p h) x).0
fold_snoc p [] x = refl
fold_snoc p (item ∷ items) x = fold_snoc (step0 p item).0 items x

-- what is in a row is there too if one more comes after it
pub get_front : {E : Type 0} (h : List E) (x : E) (at : ℕ) (y : E) → slice_get h at ≡ Some y → slice_get (h ++ x ∷ []) at ≡ Some y
get_front [] x at y e = absurd (let bad : None ≡ Some y = e in cc)
get_front (item ∷ items) x zero y e = e
get_front (item ∷ items) x (suc at) y e = get_front items x at y e

pub get_within : {E : Type 0} (h : List E) (at : ℕ) (y : E) → slice_get h at ≡ Some y → at < length h
get_within [] at y e = absurd (let bad : None ≡ Some y = e in cc)
get_within (item ∷ items) zero y e = omega arith
get_within (item ∷ items) (suc at) y e = let less = get_within items at y e in omega (arith, less)

pub get_last : {E : Type 0} (h : List E) (x : E) → slice_get (h ++ x ∷ []) (length h) ≡ Some x
get_last [] x = refl
get_last (item ∷ items) x = get_last items x

-- it was there before, or it is the last
pub get_either : {E : Type 0} (h : List E) (x : E) (at : ℕ) (y : E) → slice_get (h ++ x ∷ []) at ≡ Some y
    → (slice_get h at ≡ Some y) ⊎ ((at ≡ length h) × (y ≡ x))
get_either [] x zero y e = let one : Some x ≡ Some y = e in inr (refl, cc)
get_either [] x (suc at) y e = absurd (let bad : None ≡ Some y = e in cc)
get_either (item ∷ items) x zero y e = inl e
get_either (item ∷ items) x (suc at) y e = elim (get_either items x at y e) [
  | inl h ↦ inl h
  | inr h ↦ let same = h.0 in inr (omega (arith, same), h.1)
]

module _ (c : Config) (key : Text) where
  -- what happened before is still so after one more item
  pub grown : (h : List Item) (x : Item) (at moment : ℕ) (P : Plain → Item → Type 0) → Happened c key h at moment P → Happened c key (h ++ x ∷ []) at moment P
  grown h x at moment P e = record {
    item = e.item;
    here = get_front h x at e.item e.here;
    moment_is = e.moment_is;
    passes = subst (λ t. P (after c key t) e.item) (sym (take-append-le at h (x ∷ []) (let less = get_within h at e.item e.here in omega (arith, less)))) e.passes;
  }

  -- the last item happens now
  pub happened : (h : List Item) (x : Item) (P : Plain → Item → Type 0) → P (after c key h) x → Happened c key (h ++ x ∷ []) (length h) x.moment P
  happened h x P e = record {
    item = x;
    here = get_last h x;
    moment_is = refl;
    passes = subst (λ t. P (after c key t) x) (sym (take_at h (x ∷ []) (length h) refl)) e;
  }

  pub before : (h : List Item) (at moment : ℕ) (P : Plain → Item → Type 0) → Happened c key h at moment P → at < length h
  before h at moment P e = get_within h at e.item e.here

-- The order of keys: what is below, above and equal.
use Rattle.std.proofs.Common.{◌≡◌, true, false, refl, sym, ap, ◌∙◌}
use Rattle.std.specs.declared.cmp.Ordering.{Ordering}
use Rattle.std.specs.declared.cmp.Ordering.TheVariants.{Less, Equal, Greater}
use Rattle.std.specs.Ordering.{is_lt, is_eq, eq_by_cmp, ordering_reverse}
use Rattle.std.specs.Cmp.{tied_itself}
use Rattle.std.specs.Prelude.{◌↔◌}
use Rattle.std.specs.Str.{bytes_eq}
use Rattle.std.proofs.lemmas.Map.Text.{is_eq-slice_cmp}
use Rattle.std.proofs.lemmas.Slice.Eq.{bytes_eq-Decides}
use Rattle.ml_base.specs.Bytes.{Text}
use Rattle.ml_base.specs.Address.{key}
use Rattle.ml_base.specs.Keys.{is_below}
use Rattle.ml_base.specs.Sorted.{byte_cmp}
use Rattle.ml_base.proofs.SortedLaws.{bytes_total, same_bytes}

pub less : (r : Ordering) → is_lt r ≡ true → r ≡ Less
less Less e = refl
less Equal e = cc
less Greater e = cc

pub same_key : (a b : Text) → eq_by_cmp byte_cmp a b ≡ bytes_eq a b
same_key a b = is_eq-slice_cmp a b

pub not_lt : (a b : Text) → bytes_eq b a ≡ true → byte_cmp a b ≡ Equal
not_lt a b e = ap (byte_cmp a) ((bytes_eq-Decides b a).0 e) ∙ tied_itself bytes_total a

pub below_then : (a b c : Text) → is_below a b ≡ true → is_below b c ≡ true → is_below a c ≡ true
below_then a b c e f = ap is_lt (bytes_total.trans (key a) (key b) (key c) (less _ e) (less _ f))

-- an address that isn't below another, and has another key, is above it
pub above_else : (a b : Text) → is_below a b ≡ false → (key a ≡ key b → ⊥) → is_below b a ≡ true
above_else a b e apart = go (byte_cmp (key a) (key b)) refl
  where
    go : (r : Ordering) → byte_cmp (key a) (key b) ≡ r → is_below b a ≡ true
    go Less is = let bad : false ≡ true = sym e ∙ ap is_lt is in cc
    go Equal is = absurd (apart (same_bytes (key a) (key b) is))
    go Greater is = ap is_lt (bytes_total.antisymm (key b) (key a) ∙ ap ordering_reverse is)

pub not_equal : (a b : Text) → is_below a b ≡ true → eq_by_cmp byte_cmp (key a) (key b) ≡ false
not_equal a b e = ap is_eq (less _ e)

pub not_equal_back : (a b : Text) → is_below a b ≡ true → eq_by_cmp byte_cmp (key b) (key a) ≡ false
not_equal_back a b e = ap is_eq (bytes_total.antisymm (key b) (key a) ∙ ap ordering_reverse (less _ e))

pub greater : (a b : Text) → is_below a b ≡ true → byte_cmp (key b) (key a) ≡ Greater
greater a b e = bytes_total.antisymm (key b) (key a) ∙ ap ordering_reverse (less _ e)

-- two addresses compare as equal exactly if their keys are equal
pub keys_agree : (a b : Text) → (byte_cmp (key a) (key b) ≡ Equal) ↔ (key a ≡ key b)
keys_agree a b = (same_bytes (key a) (key b), λ same. ap (byte_cmp (key a)) (sym same) ∙ tied_itself bytes_total (key a))

-- The file of the floor is read.
use Rattle.std.proofs.Common.{◌≡◌, ◌<◌, ◌≤◌, ℕ, Bool, true, false, cond, leb, [], ◌∷◌, ◌++◌, Option, Some, None, refl, sym, ap, ◌∙◌, arith}
use Rattle.std.proofs.lemmas.Bool.{leb-false, lt-leb}
use Rattle.std.proofs.lemmas.List.{append_cancel_right}
use Rattle.std.specs.Fmt.{decimal}
use Rattle.std.proofs.lemmas.Option.{same_Some}
use Rattle.ml_base.specs.Bytes.{Text}
use Rattle.ml_base.specs.Numbers.{number_within}
use Rattle.ml_base.proofs.NumberLaws.{number_read, number_spelled}
use Rattle.ml_plain.specs.KeptFiles.{IsFloorFile, floor_file}
use Rattle.ml_plain.proofs.StateFiles.{none_some}

floor_by : (n : ℕ) (t : Bool) → leb n 1 ≡ t → floor_file n ≡ cond t None (Some (decimal n ++ 10 ∷ []))
floor_by n t e = ap (λ (t : Bool). cond t None (Some (decimal n ++ 10 ∷ []))) e

pub floor_file_is : (n : ℕ) → 1 < n → floor_file n ≡ Some (decimal n ++ 10 ∷ [])
floor_file_is n up = floor_by n false (lt-leb n 1 up)

pub floor_read : (file : Option Text) (text digits : Text) (n : ℕ) → file ≡ Some text → text ≡ digits ++ 10 ∷ [] → number_within 999_999_999_999 digits ≡ Some n → 2 ≤ n → IsFloorFile file n
floor_read file text digits n is whole read up =
    let spelled = number_spelled 999_999_999_999 digits n (omega arith) read in
    let fits = spelled.0 in record {
      least = omega (arith, up);
      most = fits;
      text = is ∙ ap (λ (t : Text). Some t) (whole ∙ ap (λ (t : Text). t ++ 10 ∷ []) spelled.1) ∙ sym (floor_file_is n (omega (arith, up)));
    }

-- the digits of a floor's file
pub floor_digits : (file : Option Text) (text digits : Text) (floor : ℕ) → file ≡ Some text → text ≡ digits ++ 10 ∷ [] → IsFloorFile file floor
    → (2 ≤ floor) × (number_within 999_999_999_999 digits ≡ Some floor)
floor_digits file text digits floor is whole h = go (leb floor 1) refl
  where
    there : Some text ≡ floor_file floor
    there = sym is ∙ h.text

    go : (t : Bool) → leb floor 1 ≡ t → (2 ≤ floor) × (number_within 999_999_999_999 digits ≡ Some floor)
    go true e = absurd (none_some text (sym (there ∙ floor_by floor true e)))
    go false e =
        let low = leb-false floor 1 e in
        let same : digits ≡ decimal floor = append_cancel_right digits (decimal floor) (10 ∷ []) (sym whole ∙ same_Some text _ (there ∙ floor_by floor false e)) in
        let fits = h.most in
        (omega (arith, low), ap (number_within 999_999_999_999) same ∙ number_read 999_999_999_999 floor (omega arith) fits)

pub floor_none : (file : Option Text) (text digits : Text) → file ≡ Some text → text ≡ digits ++ 10 ∷ [] → number_within 999_999_999_999 digits ≡ None → (floor : ℕ) → IsFloorFile file floor → ⊥
floor_none file text digits is whole none floor h =
    let d = floor_digits file text digits floor is whole h in no_some (sym none ∙ d.1)
  where
    no_some : {n : ℕ} → None ≡ Some n → ⊥
    no_some e = cc

pub floor_low : (file : Option Text) (text digits : Text) (n : ℕ) → file ≡ Some text → text ≡ digits ++ 10 ∷ [] → number_within 999_999_999_999 digits ≡ Some n → n < 2 → (floor : ℕ) → IsFloorFile file floor → ⊥
floor_low file text digits n is whole read low floor h =
    let d = floor_digits file text digits floor is whole h in
    let up = d.0 in
    let same : n ≡ floor = one n floor (sym read ∙ d.1) in
    omega (arith, same, low, up)
  where
    one : (a b : ℕ) → Some a ≡ Some b → a ≡ b
    one a b e = cc

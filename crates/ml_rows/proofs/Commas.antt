-- Numbers joined by commas can be read one after another: this gives what the whole text spells.
use Rattle.std.proofs.Common.{◌≡◌, ◌<◌, ℕ, Bool, true, false, cond, ◌==◌, List, [], ◌∷◌, ◌++◌, length, Option, Some, None, refl, sym, ap, ◌∙◌, arith, append_assoc, option_map}
use Rattle.std.specs.Option.{option_and_then}
use Rattle.ml_base.specs.Bytes.{Text}
use Rattle.ml_base.specs.Numbers.{number_within}
use Rattle.ml_base.specs.Splits.{split_first, onto_first, onto_line}
use Rattle.ml_base.proofs.Cuts.{two}
use Rattle.ml_rows.specs.Rows.{onto}
use Rattle.ml_rows.specs.Values.{all_numbers, split_all, comma_numbers}

module _ {A : Type 0} where
  -- a value put before those that are there
  pub onto_more : (out : List A) (a : A) (o : Option (List A)) → option_map (λ more. out ++ more) (onto a o) ≡ option_map (λ more. (out ++ a ∷ []) ++ more) o
  onto_more out a None = refl
  onto_more out a (Some more) = ap Some (sym (append_assoc out (a ∷ []) more))

  -- one more was read
  pub one_more : (whole : Option (List A)) (out : List A) (a : A) (here more : Option (List A)) → whole ≡ option_map (λ xs. out ++ xs) here → here ≡ onto a more → whole ≡ option_map (λ xs. (out ++ a ∷ []) ++ xs) more
  one_more whole out a here more e f = e ∙ ap (option_map (λ xs. out ++ xs)) f ∙ onto_more out a more

-- the texts that a text is split into, by its first comma
abbrev pub parts_by : Option (Text × Text) → Text → List Text
parts_by None text = text ∷ []
parts_by (Some p) text = p.0 ∷ split_all 44 p.1

split_parts : (text : Text) → split_all 44 text ≡ parts_by (split_first 44 text) text
split_parts [] = refl
split_parts (x ∷ xs) = go (x == 44) (split_first 44 xs) (split_parts xs)
  where
    go : (t : Bool) (o : Option (Text × Text)) → split_all 44 xs ≡ parts_by o xs → cond t ([] ∷ split_all 44 xs) (onto_line x (split_all 44 xs)) ≡ parts_by (cond t (Some ([], xs)) (onto_first x o)) (x ∷ xs)
    go true o e = refl
    go false None e = ap (onto_line x) e
    go false (Some p) e = ap (onto_line x) e

abbrev numbers_in : Text → Option (List ℕ)
numbers_in text = all_numbers 99_999_999 (split_all 44 text)

pub comma_some : (text : Text) → 0 < length text → comma_numbers 99_999_999 text ≡ numbers_in text
comma_some [] lt = absurd (omega arith)
comma_some (b ∷ bs) lt = refl

-- a number followed by a comma
pub number_more : (text digits more : Text) (n : ℕ) → two digits more ≡ split_first 44 text → Some n ≡ number_within 99_999_999 digits → numbers_in text ≡ onto n (numbers_in more)
number_more text digits more n cut is =
    ap (all_numbers 99_999_999) (split_parts text ∙ ap (λ o. parts_by o text) (sym cut)) ∙ ap (option_and_then (λ m. onto m (numbers_in more))) (sym is)

pub number_not : (text digits more : Text) → two digits more ≡ split_first 44 text → None ≡ number_within 99_999_999 digits → numbers_in text ≡ None
number_not text digits more cut is =
    ap (all_numbers 99_999_999) (split_parts text ∙ ap (λ o. parts_by o text) (sym cut)) ∙ ap (option_and_then (λ m. onto m (numbers_in more))) (sym is)

-- the last number
pub last_number : (text : Text) (n : ℕ) → None ≡ split_first 44 text → Some n ≡ number_within 99_999_999 text → numbers_in text ≡ Some (n ∷ [])
last_number text n cut is = ap (all_numbers 99_999_999) (split_parts text ∙ ap (λ o. parts_by o text) (sym cut)) ∙ ap (option_and_then (λ m. onto m (Some []))) (sym is)

pub last_not : (text : Text) → None ≡ split_first 44 text → None ≡ number_within 99_999_999 text → numbers_in text ≡ None
last_not text cut is = ap (all_numbers 99_999_999) (split_parts text ∙ ap (λ o. parts_by o text) (sym cut)) ∙ ap (option_and_then (λ m. onto m (Some []))) (sym is)

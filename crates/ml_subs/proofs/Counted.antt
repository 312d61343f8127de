-- How a count is written and read.
use Rattle.std.proofs.Common.{◌≡◌, ℕ, ◌≤◌, ◌<◌, [], ◌∷◌, ◌++◌, Option, Some, None, sym, ap, ◌∙◌, arith}
use Rattle.std.proofs.lemmas.List.{append_cancel_right}
use Rattle.std.specs.Fmt.{decimal, digits}
use Rattle.ml_base.specs.Bytes.{Text}
use Rattle.ml_base.specs.Numbers.{number_within}
use Rattle.ml_base.proofs.NumberLaws.{number_read, number_spelled}
use Rattle.ml_subs.specs.Subscribers.{count_text}
use Rattle.ml_subs.proofs.Spelled.{decimal_one}

-- a count is written in one way
pub count_one : (m n : ℕ) → m ≤ 100_000 → n ≤ 100_000 → count_text m ≡ count_text n → m ≡ n
count_one m n small fits e = decimal_one m n (omega arith) (omega arith) (append_cancel_right (decimal m) (decimal n) (10 ∷ []) e)

-- a count is read from its text
pub count_read : (file : Option Text) (text digits : Text) (n : ℕ) → file ≡ Some text → text ≡ digits ++ 10 ∷ [] → number_within 100_000 digits ≡ Some n → (n ≤ 100_000) × (file ≡ Some (count_text n))
count_read file text digits n is whole e =
    let spelled = number_spelled 100_000 digits n (omega arith) e in
    (spelled.0, is ∙ ap Some (whole ∙ ap (λ t. t ++ 10 ∷ []) spelled.1))

-- and from no other
pub count_unread : (file : Option Text) (text digits : Text) → file ≡ Some text → text ≡ digits ++ 10 ∷ [] → number_within 100_000 digits ≡ None → (n : ℕ) → n ≤ 100_000 → file ≡ Some (count_text n) → ⊥
count_unread file text digits is whole none n fits e =
    let texts : Some text ≡ Some (count_text n) = sym is ∙ e in
    let same : text ≡ count_text n = cc in
    let own : digits ≡ decimal n = append_cancel_right digits (decimal n) (10 ∷ []) (sym whole ∙ same) in
    let bad : None ≡ Some n = sym none ∙ ap (number_within 100_000) own ∙ number_read 100_000 n (omega arith) fits in
    cc

pub some_one : (a b : Text) → Some a ≡ Some b → a ≡ b
some_one a b e = cc

pub count_low : (file : Option Text) (count least n : ℕ) → count ≤ 100_000 → file ≡ Some (count_text count) → count < least → least ≤ n → n ≤ 100_000 → file ≡ Some (count_text n) → ⊥
count_low file count least n small is low high fits e =
    let texts : Some (count_text count) ≡ Some (count_text n) = sym is ∙ e in
    let same = count_one count n small fits (some_one (count_text count) (count_text n) texts) in
    omega (arith, same)

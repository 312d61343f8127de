-- Numbers are read from the digits that are printed of them, and from no others.
use Rattle.std.proofs.Common.{◌≡◌, ℕ, suc, ◌+◌, ◌-◌, ◌*◌, ◌<◌, ◌≤◌, ◌^◌, Bool, true, false, not, ◌&&◌, List, [], ◌∷◌, length, get_or, Some, None, refl, ap, sym, ◌∙◌, arith, rules, eqb, leb, subst}
use Rattle.std.specs.Str.{all_ascii_digits}
use Rattle.std.specs.Char.{is_ascii_digit}
use Rattle.std.specs.Fmt.{decimal}
use Rattle.std.proofs.lemmas.Str.Parse.{IsNumeralModel, numerals_by_fold}
use Rattle.std.proofs.lemmas.Fmt.{decimal-digits_value, digits_value-decimal, decimal_is_IsNumeral, first_decimal, decimal_digit}
use Rattle.std.proofs.lemmas.Bool.{ne_eqb, eqb-true, eqb-false, leb-true, le-leb}
use Rattle.ml_base.specs.Numbers.{digits_from, number_within, is_next_digit}

abbrev value : ℕ → List ℕ → ℕ
value n [] = n
value n (b ∷ bs) = value (10 * n + (b - 48)) bs

own : IsNumeralModel (λ ds. all_ascii_digits ds ≡ true) (value 0)
own = numerals_by_fold _ (search rules) value (search rules)

-- a number is written in digits
pub all_digits : (n : ℕ) → n < 2 ^ 64 → all_ascii_digits (decimal n) ≡ true
all_digits n small = own.from (decimal n) ((decimal_is_IsNumeral n small).0).1

record Spelled (limit count n : ℕ) (bytes : List ℕ) (m : ℕ) : Type 0 where
  digits : all_ascii_digits bytes ≡ true
  value_is : value n bytes ≡ m
  below : m ≤ limit
  some : count ≡ 0 → 0 < length bytes
  lead : count ≡ 0 → get_or bytes 0 0 ≡ 48 → length bytes ≡ 1
  alone : count ≡ 1 → n ≡ 0 → bytes ≡ []

pub and_left : (a b : Bool) → (a && b) ≡ true → a ≡ true
and_left true b e = refl
and_left false b e = e

and_right : (a b : Bool) → (a && b) ≡ true → b ≡ true
and_right true b e = e
and_right false b e = cc

not_is : (a : Bool) → not a ≡ true → a ≡ false
not_is true e = cc
not_is false e = refl

spelled : (limit count n : ℕ) (bytes : List ℕ) (m : ℕ) → n ≤ limit → (count ≡ 0 → n ≡ 0) → digits_from limit count n bytes ≡ Some m → Spelled limit count n bytes m
spelled limit count n [] m fits start e = go (eqb count 0) refl
  where
    go : (t : Bool) → eqb count 0 ≡ t → Spelled limit count n [] m
    go true is = let bad : None ≡ Some m = rw is at e in cc
    go false is =
        let same : n ≡ m = let found : Some n ≡ Some m = rw is at e in cc in
        record {
          digits = refl;
          value_is = same;
          below = omega arith;
          some = λ z. absurd (eqb-false count 0 is z);
          lead = λ z h. absurd (eqb-false count 0 is z);
          alone = λ one z. refl;
        }
spelled limit count n (b ∷ bs) m fits start e =
    go (is_next_digit limit count n b) refl (λ up next. spelled limit (suc count) (10 * n + (b - 48)) bs m up (λ z. absurd (omega arith)) next)
  where
    go : (t : Bool) → is_next_digit limit count n b ≡ t → (10 * n + (b - 48) ≤ limit → digits_from limit (suc count) (10 * n + (b - 48)) bs ≡ Some m → Spelled limit (suc count) (10 * n + (b - 48)) bs m)
        → Spelled limit count n (b ∷ bs) m
    go false is more = let bad : None ≡ Some m = rw (is, digits_from) at e in cc
    go true is more =
        let next : digits_from limit (suc count) (10 * n + (b - 48)) bs ≡ Some m = rw (is, digits_from) at e in
        let digit : is_ascii_digit b ≡ true = and_left _ _ (and_left _ _ is) in
        let zero_ends : (eqb count 1 && eqb n 0) ≡ false = not_is _ (and_right _ _ (and_left _ _ is)) in
        let up : 10 * n + (b - 48) ≤ limit = leb-true _ _ (and_right _ _ is) in
        let rest = more up next in
        record {
          digits = rw (digit, rest.digits);
          value_is = rest.value_is;
          below = rest.below;
          some = λ z. omega arith;
          lead = λ z h. ap (λ (t : List ℕ). suc (length t)) (rest.alone (omega arith) (let n_zero : n ≡ 0 = start z in omega (arith, n_zero, h)));
          alone = λ one z. let bad : true ≡ false = rw (one, z) at zero_ends in cc;
        }

and_both : (a b : Bool) → a ≡ true → b ≡ true → (a && b) ≡ true
and_both a b p q = rw p q

value-up : (n : ℕ) (bs : List ℕ) → n ≤ value n bs
value-up n [] = omega arith
value-up n (b ∷ bs) = let up = value-up (10 * n + (b - 48)) bs in omega arith

-- the first digit is no zero, unless it stands alone
NoLead : ℕ → ℕ → List ℕ → Type 0
NoLead count n bytes = (count ≡ 1 → n ≡ 0 → bytes ≡ []) × (count ≡ 0 → (n ≡ 0) × (get_or bytes 0 0 ≡ 48 → length bytes ≡ 1))

short : (b : ℕ) (bs : List ℕ) → length (b ∷ bs) ≡ 1 → bs ≡ []
short b [] e = refl
short b (c ∷ cs) e = absurd (omega arith)

reads : (limit count n : ℕ) (bytes : List ℕ) → all_ascii_digits bytes ≡ true → value n bytes ≤ limit → (count ≡ 0 → 0 < length bytes) → NoLead count n bytes
    → digits_from limit count n bytes ≡ Some (value n bytes)
unfolding NoLead
reads limit count n [] digits below some lead = rw (ne_eqb count 0 (λ z. absurd (let bad : 0 < 0 = some z in omega arith)))
reads limit count n (b ∷ bs) digits below some lead =
    let digit : is_ascii_digit b ≡ true = and_left _ _ digits in
    let others : all_ascii_digits bs ≡ true = and_right _ _ digits in
    let up = value-up (10 * n + (b - 48)) bs in
    let fits : leb (10 * n + (b - 48)) limit ≡ true = le-leb _ _ (omega arith) in
    let no_zero : not (eqb count 1 && eqb n 0) ≡ true = apart (eqb count 1) (eqb n 0) refl refl in
    let is : is_next_digit limit count n b ≡ true = and_both _ _ (and_both _ _ digit no_zero) fits in
    rw (is, digits_from) (reads limit (suc count) (10 * n + (b - 48)) bs others below (λ z. absurd (omega arith)) (next (is_range b digit), λ z. absurd (omega arith)))
  where
    apart : (s t : Bool) → eqb count 1 ≡ s → eqb n 0 ≡ t → not (eqb count 1 && eqb n 0) ≡ true
    apart true true p q = let bad : b ∷ bs ≡ [] = lead.0 (eqb-true count 1 p) (eqb-true n 0 q) in cc
    apart true false p q = rw (p, q)
    apart false t p q = rw p

    is_range : (b : ℕ) → is_ascii_digit b ≡ true → 48 ≤ b
    is_range b e = leb-true _ _ (and_left _ _ e)

    next : 48 ≤ b → suc count ≡ 1 → 10 * n + (b - 48) ≡ 0 → bs ≡ []
    next low one z = short b bs ((lead.1 (omega arith)).1 (let p : b ≡ 48 = omega arith in p))

pub number_spelled : (limit : ℕ) (text : List ℕ) (n : ℕ) → limit < 2 ^ 64 → number_within limit text ≡ Some n → (n ≤ limit) × (text ≡ decimal n)
number_spelled limit text n small e =
    let s = spelled limit 0 0 text n (omega arith) (λ z. refl) e in
    (s.below, sym (subst (λ (v : ℕ). decimal v ≡ text) s.value_is (decimal-digits_value own text s.digits (s.some refl) (s.lead refl) (omega (arith, s.value_is, s.below)))))

pub number_read : (limit n : ℕ) → limit < 2 ^ 64 → n ≤ limit → number_within limit (decimal n) ≡ Some n
unfolding NoLead
number_read limit n small fits =
    let num = decimal_is_IsNumeral n (omega arith) in
    let is : value 0 (decimal n) ≡ n = digits_value-decimal own n (omega arith) in
    reads limit 0 0 (decimal n) (own.from (decimal n) (num.0).1) (omega (arith, is)) (λ z. (num.0).0) (λ one z. absurd (omega arith), λ z. (refl, first (eqb n 0) refl))
    ∙ ap Some is
  where
    first : (t : Bool) → eqb n 0 ≡ t → get_or (decimal n) 0 0 ≡ 48 → length (decimal n) ≡ 1
    first true e h = ap length (decimal_digit n (let z : n ≡ 0 = eqb-true n 0 e in omega arith))
    first false e h = absurd (let some : 0 < n = pos_of (eqb-false n 0 e) in omega (arith, first_decimal n some (omega arith)))
      where
        pos_of : (n ≡ 0 → ⊥) → 0 < n
        pos_of h = omega arith

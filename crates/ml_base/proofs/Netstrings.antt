-- Netstrings are read as they are written.
use Rattle.std.proofs.Common.{◌≡◌, ℕ, suc, ◌+◌, ◌-◌, ◌*◌, ◌<◌, ◌^◌, Bool, true, false, [], ◌∷◌, ◌++◌, length, take, drop, Some, None, Option, refl, ap, ap₂, sym, ◌∙◌, arith, eqb, ltb, append_assoc, length-append}
use Rattle.std.specs.Option.{option_and_then}
use Rattle.std.specs.Char.{is_ascii_digit}
use Rattle.std.specs.Fmt.{decimal}
use Rattle.std.proofs.lemmas.Bool.{eqb-true, le-ltb, ltb-false}
use Rattle.std.proofs.lemmas.List.{take_at, drop_at, take-append-drop, length-take-le}
use Rattle.ml_base.specs.Bytes.{Text}
use Rattle.ml_base.specs.Numbers.{digits_from, is_next_digit}
use Rattle.ml_base.specs.Netstrings.{length_from, before_comma, content_of, netstring_at, ns}
use Rattle.ml_base.proofs.NumberLaws.{number_spelled, number_read, and_left}

-- a digit is no colon
pub no_colon : (limit count n b : ℕ) → is_next_digit limit count n b ≡ true → eqb b 58 ≡ false
no_colon limit count n b is = go (eqb b 58) refl
  where
    go : (t : Bool) → eqb b 58 ≡ t → eqb b 58 ≡ false
    go false e = e
    go true e = let digit : is_ascii_digit b ≡ true = and_left _ _ (and_left _ _ is) in
        let bad : is_ascii_digit 58 ≡ true = ap is_ascii_digit (sym (eqb-true b 58 e)) ∙ digit in cc

abbrev found : ℕ → Text → Option (ℕ × Text)
found m rest = Some (m, rest)

abbrev nothing : Option (ℕ × Text)
nothing = None

-- digits before a colon are read as their number
lengths : (limit count n : ℕ) (ds rest : Text) (m : ℕ) → digits_from limit count n ds ≡ Some m → length_from limit count n (ds ++ 58 ∷ rest) ≡ found m rest
lengths limit count n [] rest m e = go (eqb count 0) refl
  where
    go : (t : Bool) → eqb count 0 ≡ t → length_from limit count n (58 ∷ rest) ≡ found m rest
    go true is = let bad : None ≡ Some m = rw is at e in cc
    go false is = let same : n ≡ m = let is_some : Some n ≡ Some m = rw is at e in cc in rw (is, same)
lengths limit count n (b ∷ bs) rest m e = go (is_next_digit limit count n b) refl (lengths limit (suc count) (10 * n + (b - 48)) bs rest m)
  where
    go : (t : Bool) → is_next_digit limit count n b ≡ t → (digits_from limit (suc count) (10 * n + (b - 48)) bs ≡ Some m → length_from limit (suc count) (10 * n + (b - 48)) (bs ++ 58 ∷ rest) ≡ found m rest)
        → length_from limit count n (b ∷ (bs ++ 58 ∷ rest)) ≡ found m rest
    go false is more = let bad : None ≡ Some m = rw (is, digits_from) at e in cc
    go true is more = rw (no_colon limit count n b is, is, length_from) (more (rw (is, digits_from) at e))

-- a length that was read, and its digits
record Digits (limit count n : ℕ) (bytes : Text) (m : ℕ) (rest : Text) : Type 0 where
  ds : Text
  cuts : bytes ≡ ds ++ 58 ∷ rest
  are : digits_from limit count n ds ≡ Some m

number_part : Option (ℕ × Text) → ℕ
number_part (Some p) = p.0
number_part None = 0

text_part : Option (ℕ × Text) → Text
text_part (Some p) = p.1
text_part None = []

digits : (limit count n : ℕ) (bytes : Text) (m : ℕ) (rest : Text) → length_from limit count n bytes ≡ found m rest → Digits limit count n bytes m rest
unfolding number_part text_part
digits limit count n [] m rest e = let bad : nothing ≡ found m rest = e in cc
digits limit count n (b ∷ bs) m rest e = go (eqb b 58) refl (is_next_digit limit count n b) refl (digits limit (suc count) (10 * n + (b - 48)) bs m rest)
  where
    ends : (t : Bool) → eqb count 0 ≡ t → eqb b 58 ≡ true → Digits limit count n (b ∷ bs) m rest
    ends true z is = let bad : nothing ≡ found m rest = rw (is, z, length_from) at e in cc
    ends false z is =
        let same : found n bs ≡ found m rest = rw (is, z, length_from) at e in
        record { ds = []; cuts = ap₂ (λ x t. x ∷ t) (eqb-true b 58 is) (ap text_part same); are = rw z (ap Some (ap number_part same)) }

    go : (t : Bool) → eqb b 58 ≡ t → (u : Bool) → is_next_digit limit count n b ≡ u
        → (length_from limit (suc count) (10 * n + (b - 48)) bs ≡ found m rest → Digits limit (suc count) (10 * n + (b - 48)) bs m rest) → Digits limit count n (b ∷ bs) m rest
    go true is u e' more = ends (eqb count 0) refl is
    go false is false e' more = let bad : nothing ≡ found m rest = rw (is, e', length_from) at e in cc
    go false is true e' more =
        let d = more (rw (is, e', length_from) at e) in
        record { ds = b ∷ d.ds; cuts = ap (λ t. b ∷ t) d.cuts; are = rw (e', digits_from) d.are }

abbrev read : Text → Text → Option (Text × Text)
read x rest = Some (x, rest)

abbrev unread : Option (Text × Text)
unread = None

first : Option (Text × Text) → Text
first (Some p) = p.0
first None = []

second : Option (Text × Text) → Text
second (Some p) = p.1
second None = []

contents : (n : ℕ) (x rest : Text) → n ≡ length x → content_of n (x ++ 44 ∷ rest) ≡ read x rest
contents n x rest e =
    let long : ltb (length (x ++ 44 ∷ rest)) n ≡ false = le-ltb _ _ (omega (arith, length-append x (44 ∷ rest))) in
    rw (long, take_at x (44 ∷ rest) n (sym e), drop_at x (44 ∷ rest) n (sym e)) refl

-- a netstring's parts, each joined to all that follows it
pub regroup : (d x rest : Text) → ((d ++ (58 ∷ x)) ++ (44 ∷ [])) ++ rest ≡ d ++ (58 ∷ (x ++ (44 ∷ rest)))
regroup d x rest = append_assoc (d ++ (58 ∷ x)) (44 ∷ []) rest ∙ append_assoc d (58 ∷ x) (44 ∷ rest)

pub netstring_written : (x rest : Text) → length x < 10 ^ 18 → netstring_at (ns x ++ rest) ≡ Some (x, rest)
netstring_written x rest small =
    ap netstring_at (regroup (decimal (length x)) x rest)
    ∙ ap (option_and_then (λ (f : ℕ × Text). content_of f.0 f.1)) (lengths 999_999_999_999_999_999 0 0 (decimal (length x)) (x ++ 44 ∷ rest) (length x) (number_read 999_999_999_999_999_999 (length x) (omega arith) (omega arith)))
    ∙ contents (length x) x rest refl

-- a content of a length, its comma, and what follows
record Comma (n : ℕ) (t x rest : Text) : Type 0 where
  long : length x ≡ n
  cuts : t ≡ x ++ 44 ∷ rest

commas : (x t : Text) (y rest : Text) → before_comma x t ≡ read y rest → (x ≡ y) × (t ≡ 44 ∷ rest)
unfolding first second
commas x [] y rest e = let bad : unread ≡ read y rest = e in cc
commas x (b ∷ bs) y rest e = go (eqb b 44) refl
  where
    go : (t : Bool) → eqb b 44 ≡ t → (x ≡ y) × (b ∷ bs ≡ 44 ∷ rest)
    go false is = let bad : unread ≡ read y rest = rw is at e in cc
    go true is = let same : read x bs ≡ read y rest = rw is at e in (ap first same, ap₂ (λ c t. c ∷ t) (eqb-true b 44 is) (ap second same))

ends_at : (n : ℕ) (t x rest : Text) → content_of n t ≡ read x rest → Comma n t x rest
ends_at n t x rest e = go (ltb (length t) n) refl
  where
    go : (b : Bool) → ltb (length t) n ≡ b → Comma n t x rest
    go true is = let bad : unread ≡ read x rest = rw is at e in cc
    go false is =
        let same = commas (take n t) (drop n t) x rest (rw is at e) in
        let fits = ltb-false (length t) n is in
        record {
          long = sym (ap length same.0) ∙ length-take-le n t fits;
          cuts = sym (take-append-drop n t) ∙ ap₂ (λ a b. a ++ b) same.0 same.1;
        }

pub netstring_read : (bytes x rest : Text) → netstring_at bytes ≡ Some (x, rest) → (length x < 10 ^ 18) × (bytes ≡ ns x ++ rest)
netstring_read bytes x rest e = go (length_from 999_999_999_999_999_999 0 0 bytes) refl
  where
    go : (r : Option (ℕ × Text)) → length_from 999_999_999_999_999_999 0 0 bytes ≡ r → (length x < 10 ^ 18) × (bytes ≡ ns x ++ rest)
    go None is = let bad : unread ≡ read x rest = rw is at e in cc
    go (Some p) is =
        let at : content_of p.0 p.1 ≡ read x rest = rw is at e in
        let c = ends_at p.0 p.1 x rest at in
        let d = digits 999_999_999_999_999_999 0 0 bytes p.0 p.1 is in
        let n = number_spelled 999_999_999_999_999_999 d.ds p.0 (omega arith) d.are in (
          omega (arith, n.0, c.long),
          d.cuts ∙ ap₂ (λ a t. a ++ 58 ∷ t) (n.1 ∙ ap decimal (sym c.long)) c.cuts ∙ sym (regroup (decimal (length x)) x rest),
        )

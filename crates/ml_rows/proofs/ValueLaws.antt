-- Values are read as exactly what their texts spell: moments, addresses, numbers on a line, and numbers joined by commas.
use Rattle.std.proofs.Common.{◌≡◌, ◌↔◌, ℕ, ◌*◌, ◌<◌, ◌≤◌, ◌^◌, Bool, true, false, cond, ◌==◌, ◌||◌, ◌&&◌, List, [], ◌∷◌, ◌++◌, length, map, Option, Some, None, refl, sym, ap, ap₂, ◌∙◌, subst, arith, length-append, append-nil}
use Rattle.std.specs.Prelude.{Result, Ok, Err, is_ok}
use Rattle.std.specs.Char.{is_ascii_digit}
use Rattle.std.specs.Fmt.{decimal}
use Rattle.std.specs.List.{AllByRecursion, flat_map}
use Rattle.std.specs.Option.{option_and_then}
use Rattle.std.specs.Str.{all_ascii_digits, bytes_eq}
use Rattle.std.proofs.lemmas.Slice.Eq.{bytes_eq-Decides}
use Rattle.std.proofs.lemmas.Bool.{eqb-true, false≢true}
use Rattle.std.proofs.lemmas.Fmt.{decimal_nonempty, length-decimal-le}
use Rattle.ml_base.specs.Address.{IsAddress, address_check, as_address}
use Rattle.ml_base.specs.declared.address.AddressFault.{AddressFault}
use Rattle.ml_base.specs.Bytes.{Text, is_empty}
use Rattle.ml_base.specs.Numbers.{moment_in, number_within}
use Rattle.ml_base.specs.Splits.{has_byte, split_first, onto_line}
use Rattle.ml_base.proofs.Bools.{both, neither}
use Rattle.ml_base.proofs.NumberLaws.{all_digits, number_spelled, number_read}
use Rattle.ml_base.proofs.SplitLaws.{first_read, first_written}
use Rattle.ml_rows.specs.Rows.{onto}
use Rattle.ml_rows.specs.Values.{address_in, number_line, line_number, comma_text, split_all, all_numbers, comma_numbers}
use Rattle.ml_rows.proofs.RowLaws.{one_some, none_some, onto_some}

-- digits contain no byte that is no digit
digits_without : (byte : ℕ) → is_ascii_digit byte ≡ false → (bytes : Text) → all_ascii_digits bytes ≡ true → has_byte byte bytes ≡ false
digits_without byte none [] e = refl
digits_without byte none (b ∷ bs) e =
    let parts = both (is_ascii_digit b) (all_ascii_digits bs) e in ap₂ (λ s t. s || t) (other (b == byte) refl parts.0) (digits_without byte none bs parts.1)
  where
    other : (t : Bool) → (b == byte) ≡ t → is_ascii_digit b ≡ true → (b == byte) ≡ false
    other false is digit = is
    other true is digit = absurd (let bad : true ≡ false = sym digit ∙ ap is_ascii_digit (eqb-true b byte is) ∙ none in cc)

-- a number in decimal has neither a comma, nor an LF, nor a colon
pub decimal_without : (byte n : ℕ) → is_ascii_digit byte ≡ false → n < 2 ^ 64 → has_byte byte (decimal n) ≡ false
decimal_without byte n none small = digits_without byte none (decimal n) (all_digits n small)

abbrev if_last : ℕ → Text × Text → Option ℕ
if_last limit parts = cond (is_empty parts.1) (number_within limit parts.0) None

-- a moment
pub moment_read : (text : Text) (t : ℕ) → moment_in text ≡ Some t → (t < 253_402_300_800) × (text ≡ decimal t)
moment_read text t e = let is = number_spelled 253_402_300_799 text t (omega arith) e in let le = is.0 in (omega (arith, le), is.1)

pub moment_written : (t : ℕ) → t < 253_402_300_800 → moment_in (decimal t) ≡ Some t
moment_written t less = number_read 253_402_300_799 t (omega arith) (omega (arith, less))

-- an address
sound : (r : Result (Unit {0}) AddressFault) → is_ok r ≡ true → r ≡ Ok tt
sound (Ok u) e = refl
sound (Err f) e = absurd (false≢true e)

abbrev if_address : Bool → Text → Option Text
if_address is text = cond is (Some text) None

pub address_is : (text address : Text) → address_in text ≡ Some address → (address ≡ text) × IsAddress text
address_is text address e = go (is_ok (address_check text) && bytes_eq (as_address text) text) refl
  where
    go : (t : Bool) → (is_ok (address_check text) && bytes_eq (as_address text) text) ≡ t → (address ≡ text) × IsAddress text
    go false is = absurd (none_some address (sym (ap (λ b. if_address b text) is) ∙ e))
    go true is =
        let parts = both (is_ok (address_check text)) (bytes_eq (as_address text) text) is in
        let same = one_some text address (sym (ap (λ b. if_address b text) is) ∙ e) in
        (sym same, record { checks = sound (address_check text) parts.0; kept = (bytes_eq-Decides (as_address text) text).0 parts.1 })

pub address_there : (address : Text) → IsAddress address → address_in address ≡ Some address
address_there address is =
    ap₂ (λ (r : Result (Unit {0}) AddressFault) b. if_address (is_ok r && b) address) is.checks ((bytes_eq-Decides (as_address address) address).1 is.kept)

-- a number on a line
pub line_read : (limit : ℕ) (text : Text) (n : ℕ) → limit < 2 ^ 64 → line_number limit text ≡ Some n → (n ≤ limit) × (text ≡ number_line n)
line_read limit text n small e = go (split_first 10 text) refl
  where
    after : (before rest : Text) → split_first 10 text ≡ Some (before, rest) → if_last limit (before, rest) ≡ Some n → (n ≤ limit) × (text ≡ number_line n)
    after before [] split is =
        let number = number_spelled limit before n small is in
        (number.0, (first_read 10 text before [] split).0 ∙ ap (λ (t : Text). t ++ 10 ∷ []) number.1)
    after before (b ∷ bs) split is = absurd (none_some n is)

    go : (o : Option (Text × Text)) → split_first 10 text ≡ o → (n ≤ limit) × (text ≡ number_line n)
    go None split = absurd (none_some n (sym (ap (option_and_then (if_last limit)) split) ∙ e))
    go (Some p) split = after p.0 p.1 split (sym (ap (option_and_then (if_last limit)) split) ∙ e)

pub line_written : (limit n : ℕ) → limit < 2 ^ 64 → n ≤ limit → line_number limit (number_line n) ≡ Some n
line_written limit n small le =
    ap (option_and_then (if_last limit)) (first_written 10 (decimal n) [] (decimal_without 10 n refl (omega (arith, small, le)))) ∙ number_read limit n small le

-- numbers with a comma before each
abbrev commas : List ℕ → Text
commas numbers = flat_map (λ (n : ℕ). (44 ∷ []) ++ decimal n) numbers

abbrev AreAtMost : ℕ → List ℕ → Type 0
AreAtMost limit numbers = AllByRecursion (λ n. n ≤ limit) numbers

-- texts with a comma before each, and texts joined by commas
abbrev after_commas : List Text → Text
after_commas texts = flat_map (λ (t : Text). 44 ∷ t) texts

abbrev comma_joined : List Text → Text
comma_joined [] = []
comma_joined (t ∷ ts) = t ++ after_commas ts

onto_joined : (b : ℕ) (ts : List Text) → 0 < length ts → comma_joined (onto_line b ts) ≡ b ∷ comma_joined ts
onto_joined b [] lt = absurd (omega arith)
onto_joined b (t ∷ ts) lt = refl

abbrev split_at : Bool → ℕ → List Text → List Text
split_at is b more = cond is ([] ∷ more) (onto_line b more)

onto_some_line : (b : ℕ) (ts : List Text) → 0 < length (onto_line b ts)
onto_some_line b [] = omega arith
onto_some_line b (t ∷ ts) = omega arith

some_text : (text : Text) → 0 < length (split_all 44 text)
some_text [] = omega arith
some_text (b ∷ bs) = go (b == 44)
  where
    go : (t : Bool) → 0 < length (split_at t b (split_all 44 bs))
    go true = omega arith
    go false = onto_some_line b (split_all 44 bs)

empty_joined : (ts : List Text) → 0 < length ts → comma_joined ([] ∷ ts) ≡ 44 ∷ comma_joined ts
empty_joined [] lt = absurd (omega arith)
empty_joined (t ∷ ts) lt = refl

-- what is split is joined again
split_joined : (text : Text) → comma_joined (split_all 44 text) ≡ text
split_joined [] = refl
split_joined (b ∷ bs) = go (b == 44) refl (split_joined bs)
  where
    go : (t : Bool) → (b == 44) ≡ t → comma_joined (split_all 44 bs) ≡ bs → comma_joined (split_at t b (split_all 44 bs)) ≡ b ∷ bs
    go true is more = empty_joined (split_all 44 bs) (some_text bs) ∙ ap₂ (λ (x : ℕ) (t : Text). x ∷ t) (sym (eqb-true b 44 is)) more
    go false is more = onto_joined b (split_all 44 bs) (some_text bs) ∙ ap (λ t. b ∷ t) more

-- a text without a comma is split off at the comma after it
split_after : (text rest : Text) → has_byte 44 text ≡ false → split_all 44 (text ++ 44 ∷ rest) ≡ text ∷ split_all 44 rest
split_after [] rest e = refl
split_after (b ∷ bs) rest e = let parts = neither (b == 44) (has_byte 44 bs) e in ap₂ (λ t more. split_at t b more) parts.0 (split_after bs rest parts.1)

split_alone : (text : Text) → has_byte 44 text ≡ false → split_all 44 text ≡ text ∷ []
split_alone [] e = refl
split_alone (b ∷ bs) e = let parts = neither (b == 44) (has_byte 44 bs) e in ap₂ (λ t more. split_at t b more) parts.0 (split_alone bs parts.1)

abbrev decimals : List ℕ → List Text
decimals numbers = map decimal numbers

spelled_after : (numbers : List ℕ) → after_commas (decimals numbers) ≡ commas numbers
spelled_after [] = refl
spelled_after (n ∷ ns) = ap (λ t. (44 ∷ decimal n) ++ t) (spelled_after ns)

spelled_joined : (numbers : List ℕ) → comma_joined (decimals numbers) ≡ comma_text numbers
spelled_joined [] = refl
spelled_joined (n ∷ ns) = ap (λ t. decimal n ++ t) (spelled_after ns)

split_numbers : (limit n : ℕ) (ns : List ℕ) → limit < 2 ^ 64 → AreAtMost limit (n ∷ ns) → split_all 44 (comma_text (n ∷ ns)) ≡ decimals (n ∷ ns)
split_numbers limit n [] small each =
    let le = each.0 in
    ap (split_all 44) (append-nil (decimal n)) ∙ split_alone (decimal n) (decimal_without 44 n refl (omega (arith, small, le)))
split_numbers limit n (m ∷ ms) small each =
    let le = each.0 in
    split_after (decimal n) (comma_text (m ∷ ms)) (decimal_without 44 n refl (omega (arith, small, le))) ∙ ap (λ ts. decimal n ∷ ts) (split_numbers limit m ms small each.1)

-- numbers are read as they are spelled
all_written : (limit : ℕ) (numbers : List ℕ) → limit < 2 ^ 64 → AreAtMost limit numbers → all_numbers limit (decimals numbers) ≡ Some numbers
all_written limit [] small each = refl
all_written limit (n ∷ ns) small each =
    ap (option_and_then (λ m. onto m (all_numbers limit (decimals ns)))) (number_read limit n small each.0) ∙ ap (onto n) (all_written limit ns small each.1)

all_read : (limit : ℕ) (texts : List Text) (numbers : List ℕ) → limit < 2 ^ 64 → all_numbers limit texts ≡ Some numbers → AreAtMost limit numbers × (texts ≡ decimals numbers)
all_read limit [] [] small e = (tt, refl)
all_read limit [] (n ∷ ns) small e = absurd (let one = ap length (one_some [] (n ∷ ns) e) in omega (arith, one))
all_read limit (t ∷ ts) numbers small e = go (number_within limit t) refl (λ more is. all_read limit ts more small is)
  where
    go : (o : Option ℕ) → number_within limit t ≡ o → ((more : List ℕ) → all_numbers limit ts ≡ Some more → AreAtMost limit more × (ts ≡ decimals more)) → AreAtMost limit numbers × (t ∷ ts ≡ decimals numbers)
    go None found later = absurd (none_some numbers (sym (ap (option_and_then (λ m. onto m (all_numbers limit ts))) found) ∙ e))
    go (Some n) found later =
        let parts = onto_some n (all_numbers limit ts) numbers (sym (ap (option_and_then (λ m. onto m (all_numbers limit ts))) found) ∙ e) in
        let rest = later parts.0 parts.1 in
        let first = number_spelled limit t n small found in
        let each : AreAtMost limit (n ∷ parts.0) = (first.0, rest.0) in
        (subst (λ all. AreAtMost limit all) (sym parts.2) each, ap₂ (λ (x : Text) (xs : List Text). x ∷ xs) first.1 rest.1 ∙ sym (ap decimals parts.2))

pub commas_read : (limit : ℕ) (text : Text) (numbers : List ℕ) → limit < 2 ^ 64 → comma_numbers limit text ≡ Some numbers → AllByRecursion (λ n. n ≤ limit) numbers × (text ≡ comma_text numbers)
commas_read limit [] [] small e = (tt, refl)
commas_read limit [] (n ∷ ns) small e = absurd (let one = ap length (one_some [] (n ∷ ns) e) in omega (arith, one))
commas_read limit (b ∷ bs) numbers small e =
    let all = all_read limit (split_all 44 (b ∷ bs)) numbers small e in
    (all.0, sym (split_joined (b ∷ bs)) ∙ ap comma_joined all.1 ∙ spelled_joined numbers)

-- a text that isn't empty
comma_some : (limit : ℕ) (text : Text) → 0 < length text → comma_numbers limit text ≡ all_numbers limit (split_all 44 text)
comma_some limit [] lt = absurd (omega arith)
comma_some limit (b ∷ bs) lt = refl

pub commas_written : (limit : ℕ) (numbers : List ℕ) → limit < 2 ^ 64 → AllByRecursion (λ n. n ≤ limit) numbers → comma_numbers limit (comma_text numbers) ≡ Some numbers
commas_written limit [] small each = refl
commas_written limit (n ∷ ns) small each =
    let le = each.0 in
    let some = decimal_nonempty n (omega (arith, small, le)) in
    comma_some limit (comma_text (n ∷ ns)) (omega (arith, some, length-append (decimal n) (commas ns)))
    ∙ ap (all_numbers limit) (split_numbers limit n ns small each) ∙ all_written limit (n ∷ ns) small each

commas_length : (numbers : List ℕ) → AreAtMost 99_999_999 numbers → length (commas numbers) ≤ 9 * length numbers
commas_length [] p = omega arith
commas_length (n ∷ ns) p =
    let more = commas_length ns p.1 in
    let small = p.0 in
    let digits = length-decimal-le 8 n (omega arith) (omega (arith, small)) (omega (arith, small)) in
    omega (arith, more, digits, length-append (decimal n) (commas ns))

-- numbers of posts take at most nine bytes each
pub comma_length : (numbers : List ℕ) → AllByRecursion (λ n. n ≤ 99_999_999) numbers → length (comma_text numbers) ≤ 9 * length numbers
comma_length [] p = omega arith
comma_length (n ∷ ns) p =
    let more = commas_length ns p.1 in
    let small = p.0 in
    let digits = length-decimal-le 8 n (omega arith) (omega (arith, small)) (omega (arith, small)) in
    omega (arith, more, digits, length-append (decimal n) (commas ns))

-- both directions in one
pub moment_exact : (t : ℕ) (text : Text) → (moment_in text ≡ Some t) ↔ ((t < 253_402_300_800) × (text ≡ decimal t))
moment_exact t text = (moment_read text t, λ is. ap moment_in is.1 ∙ moment_written t is.0)

pub address_exact : (a text : Text) → (address_in text ≡ Some a) ↔ (IsAddress a × (text ≡ a))
address_exact a text =
    (λ e. let is = address_is text a e in (subst (λ (t : Text). IsAddress t) (sym is.0) is.1, sym is.0), λ is. ap address_in is.1 ∙ address_there a is.0)

pub line_exact : (limit n : ℕ) (text : Text) → limit < 2 ^ 64 → (line_number limit text ≡ Some n) ↔ ((n ≤ limit) × (text ≡ number_line n))
line_exact limit n text small = (line_read limit text n small, λ is. ap (line_number limit) is.1 ∙ line_written limit n small is.0)

pub commas_exact : (limit : ℕ) (numbers : List ℕ) (text : Text) → limit < 2 ^ 64 → (comma_numbers limit text ≡ Some numbers) ↔ (AllByRecursion (λ n. n ≤ limit) numbers × (text ≡ comma_text numbers))
commas_exact limit numbers text small = (commas_read limit text numbers small, λ is. ap (comma_numbers limit) is.1 ∙ commas_written limit numbers small is.0)

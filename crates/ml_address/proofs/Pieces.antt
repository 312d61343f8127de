-- Each piece of a request (number, letters, address, word) is read back from its spelling.
use Rattle.std.proofs.Common.{◌≡◌, ℕ, ◌<◌, ◌≤◌, ◌^◌, Bool, true, false, cond, ◌==◌, nat_lt, nat_le, ◌||◌, [], ◌∷◌, ◌++◌, length, take, drop, Option, Some, None, refl, ap, ap₂, sym, ◌∙◌, arith, length-append, append_assoc, append-nil}
use Rattle.std.specs.Option.{option_map, option_and_then}
use Rattle.std.specs.List.{list_all}
use Rattle.std.specs.Str.{str_eq_ignore_ascii_case, all_ascii_digits}
use Rattle.std.specs.Char.{is_ascii_digit}
use Rattle.std.specs.Cmp.Lexicographic.{bytes_decides}
use Rattle.std.specs.Fmt.{decimal}
use Rattle.std.proofs.lemmas.Bool.{eqb-true, ltb-true, leb-true, le-ltb}
use Rattle.std.proofs.lemmas.Bool.Decides.{nat_tests}
use Rattle.std.proofs.lemmas.List.{take_at, drop_at}
use Rattle.ml_base.specs.Bytes.{Text, lower}
use Rattle.ml_base.specs.Address.{is_host_byte}
use Rattle.ml_base.specs.Numbers.{moment_in}
use Rattle.ml_base.specs.Ranges.{is_moment, is_post_number, is_drawn}
use Rattle.ml_base.specs.Splits.{has_byte, split_first}
use Rattle.ml_base.proofs.Bools.{both as parts_of}
use Rattle.ml_base.proofs.NumberLaws.{all_digits, number_read}
use Rattle.ml_base.proofs.SplitLaws.{first_written, first_absent, last_written}
use Rattle.ml_address.specs.Requests.{PlainWho, Signed, PlainRequest, Get, is_who, is_cookie, is_signed, if_post_number}
use Rattle.ml_address.specs.Reading.{only_if, both, read_both, post_number, ticket_number, cookie_letters, who_of, who_after, signature, signed_of, after_word, get_of, answer_of}
use Rattle.ml_address.specs.Writing.{who_text, ticket_text, signed_text, after_underscore}
use Rattle.ml_address.proofs.Tables.{length-lower}
use Rattle.ml_base.proofs.AddressParts.{who_parts}

-- a word in any case of letters, with anything after it
pub word_alike : (word spelled rest : Text) → lower spelled ≡ lower word → after_word word (spelled ++ rest) ≡ Some rest
word_alike word spelled rest e =
    let same : length spelled ≡ length word = sym (length-lower spelled) ∙ ap length e ∙ length-lower word in
    let long : nat_lt (length (spelled ++ rest)) (length word) ≡ false = le-ltb (length (spelled ++ rest)) (length word) (omega (arith, same, length-append spelled rest)) in
    let front : take (length word) (spelled ++ rest) ≡ spelled = take_at spelled rest (length word) same in
    let alike : str_eq_ignore_ascii_case spelled word ≡ true = (bytes_decides _ _).1 e in
    let after : drop (length word) (spelled ++ rest) ≡ rest = drop_at spelled rest (length word) same in
    rw (long, front, alike, after)

passes : {A : Type 0} (test : A → Bool) (a : A) → test a ≡ true → only_if test a ≡ Some a
passes test a e = ap (λ t. cond t (Some a) None) e

pub post_number_read : (n : ℕ) → is_post_number n ≡ true → post_number (decimal n) ≡ Some n
post_number_read n e =
    let high : n ≤ 99_999_999 = leb-true n 99_999_999 (parts_of (nat_le 1 n) (nat_le n 99_999_999) e).1 in
    ap (option_and_then (only_if is_post_number)) (number_read 99_999_999 n (omega arith) high) ∙ passes is_post_number n e

pub ticket_read : (n : ℕ) → is_drawn n ≡ true → ticket_number (decimal n) ≡ Some n
ticket_read n e =
    let high : n ≤ 1_000_000_000_000_000 = leb-true n 1_000_000_000_000_000 (parts_of (nat_le 1 n) (nat_le n 1_000_000_000_000_000) e).1 in
    ap (option_and_then (only_if is_drawn)) (number_read 1_000_000_000_000_000 n (omega arith) high) ∙ passes is_drawn n e

pub moment_read : (n : ℕ) → is_moment n ≡ true → moment_in (decimal n) ≡ Some n
moment_read n e = let low = ltb-true n 253_402_300_800 e in number_read 253_402_300_799 n (omega arith) (omega arith)

-- a byte that isn't a digit isn't in a number
not_digit : (b x : ℕ) → is_ascii_digit b ≡ true → is_ascii_digit x ≡ false → (b == x) ≡ false
not_digit b x digit other = go (b == x) refl
  where
    go : (t : Bool) → (b == x) ≡ t → (b == x) ≡ false
    go false e = e
    go true e = let bad : true ≡ false = sym digit ∙ ap is_ascii_digit (eqb-true b x e) ∙ other in cc

no_byte : (x : ℕ) (digits : Text) → is_ascii_digit x ≡ false → all_ascii_digits digits ≡ true → has_byte x digits ≡ false
no_byte x [] other e = refl
no_byte x (b ∷ bs) other e =
    let parts = parts_of (is_ascii_digit b) (all_ascii_digits bs) e in
    ap₂ (λ s t. s || t) (not_digit b x parts.0 other) (no_byte x bs other parts.1)

pub no_byte_of : (x n : ℕ) → is_ascii_digit x ≡ false → n < 2 ^ 64 → has_byte x (decimal n) ≡ false
no_byte_of x n other small = no_byte x (decimal n) other (all_digits n small)

below : (n limit : ℕ) → n ≤ limit → limit < 2 ^ 64 → n < 2 ^ 64
below n limit h l = omega arith

pub post_number_small : (n : ℕ) → is_post_number n ≡ true → n < 2 ^ 64
post_number_small n e = below n 99_999_999 (leb-true n 99_999_999 (parts_of (nat_le 1 n) (nat_le n 99_999_999) e).1) (omega arith)

ticket_small : (n : ℕ) → is_drawn n ≡ true → n < 2 ^ 64
ticket_small n e = below n 1_000_000_000_000_000 (leb-true n 1_000_000_000_000_000 (parts_of (nat_le 1 n) (nat_le n 1_000_000_000_000_000) e).1) (omega arith)

moment_small : (n : ℕ) → is_moment n ≡ true → n < 2 ^ 64
moment_small n e = let low = ltb-true n 253_402_300_800 e in below n 253_402_300_799 (omega arith) (omega arith)

pub letters_read : (text : Text) → is_cookie text ≡ true → cookie_letters text ≡ Some text
letters_read text e = passes is_cookie text e

no_equals : (b : ℕ) → is_host_byte b ≡ true → (b == 61) ≡ false
no_equals b h = grind (arith, nat_tests)

-- a host has no `=`
pub host_clean : (host : Text) → list_all is_host_byte host ≡ true → has_byte 61 host ≡ false
host_clean [] e = refl
host_clean (b ∷ bs) e =
    let parts = parts_of (is_host_byte b) (list_all is_host_byte bs) e in
    ap₂ (λ s t. s || t) (no_equals b parts.0) (host_clean bs parts.1)

pub who_host : (w : PlainWho) → is_who w ≡ true → list_all is_host_byte w.host ≡ true
who_host w e = (parts_of _ (list_all is_host_byte w.host) (sym (who_parts w.local w.host) ∙ e)).1

pub who_read : (w : PlainWho) → is_who w ≡ true → who_of (who_text w) ≡ Some w
who_read w e =
    ap (option_and_then (λ parts. only_if is_who (record { local = parts.0; host = parts.1 }))) (last_written 61 w.local w.host (host_clean w.host (who_host w e)))
    ∙ passes is_who w e

pub signed_read : (s : Signed) → is_signed s ≡ true → signed_of (signed_text s) ≡ Some s
signed_read s e =
    let two = parts_of _ (is_who s.who) e in
    let one = parts_of (is_moment s.time) (is_cookie s.cookie) two.0 in
    let tail = 45 ∷ who_text s.who in
    let twenty : length s.cookie ≡ 20 = eqb-true (length s.cookie) 20 (parts_of (length s.cookie == 20) _ one.1).0 in
    let front : take 20 (s.cookie ++ tail) ≡ s.cookie = take_at s.cookie tail 20 twenty in
    let after : drop 20 (s.cookie ++ tail) ≡ tail = drop_at s.cookie tail 20 twenty in
    ap signed_of (append_assoc (decimal s.time) (46 ∷ s.cookie) tail)
    ∙ ap (option_and_then (λ (parts : Text × Text). option_and_then (λ time. signature time parts.1) (moment_in parts.0)))
    (first_written 46 (decimal s.time) (s.cookie ++ tail) (no_byte_of 46 s.time refl (moment_small s.time one.0)))
    ∙ ap (option_and_then (λ time. signature time (s.cookie ++ tail))) (moment_read s.time one.0)
    ∙ ap₂ (λ c w. both (λ cookie who. record { time = s.time; cookie = cookie; who = who }) (cookie_letters c) (who_after w)) front after
    ∙ ap₂ (λ c w. both (λ cookie who. record { time = s.time; cookie = cookie; who = who }) c w) (letters_read s.cookie one.1) (who_read s.who two.1)

pub answer_read : (f : ℕ → Text → PlainRequest) (ticket : ℕ) (cookie : Text) → is_drawn ticket ≡ true → is_cookie cookie ≡ true → answer_of f (ticket_text ticket cookie) ≡ Some (f ticket cookie)
answer_read f ticket cookie t c =
    ap (read_both f ticket_number cookie_letters) (first_written 46 (decimal ticket) cookie (no_byte_of 46 ticket refl (ticket_small ticket t)))
    ∙ ap₂ (λ a b. both f a b) (ticket_read ticket t) (letters_read cookie c)

pub get_read : (from : ℕ) (to : Option ℕ) → is_post_number from ≡ true → if_post_number to ≡ true
    → get_of (decimal from ++ after_underscore to) (split_first 95 (decimal from ++ after_underscore to)) ≡ Some (Get from to)
get_read from None f t =
    let whole = append-nil (decimal from) in
    ap (λ text. get_of text (split_first 95 text)) whole
    ∙ ap (get_of (decimal from)) (first_absent 95 (decimal from) (no_byte_of 95 from refl (post_number_small from f)))
    ∙ ap (option_map (λ n. Get n None)) (post_number_read from f)
get_read from (Some to) f t =
    ap (get_of (decimal from ++ 95 ∷ decimal to)) (first_written 95 (decimal from) (decimal to) (no_byte_of 95 from refl (post_number_small from f)))
    ∙ ap₂ (λ a b. both (λ from to. Get from (Some to)) a b) (post_number_read from f) (post_number_read to t)

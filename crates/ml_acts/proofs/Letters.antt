-- The letters of cookies, and the parts of the list's addresses.
use Rattle.std.proofs.Common.{◌≡◌, ◌<◌, ℕ, suc, zero, ◌+◌, ◌/◌, ◌%◌, ◌^◌, Bool, true, false, List, [], ◌∷◌, length, take, refl, sym, ap, ◌∙◌, arith}
use Rattle.std.proofs.lemmas.Bool.{and_from, and_parts, eq-eqb}
use Rattle.std.proofs.lemmas.List.Folds.{list_all-append}
use Rattle.std.proofs.lemmas.Nat.{mod_below}
use Rattle.std.specs.Prelude.{nat_lt, is_ok, slice_index}
use Rattle.std.specs.Int.{byte_at, bytes_high_first}
use Rattle.std.specs.List.{flat_map, list_all}
use Rattle.sha2.specs.Sha256.{sha256, digest_bytes}
use Rattle.ml_address.specs.Cookies.{cookie, letters, cookie_message}
use Rattle.ml_address.specs.Hmac.{hmac}
use Rattle.ml_address.specs.Requests.{is_cookie, is_letter, is_who}
use Rattle.ml_base.specs.Bytes.{Text}
use Rattle.ml_base.specs.Address.{IsAddress, is_host_byte, are_parts, address_check}
use Rattle.ml_base.specs.Splits.{has_byte}
use Rattle.ml_base.proofs.Bools.{both}
use Rattle.ml_base.proofs.AddressParts.{no_at, who_parts}
use Rattle.ml_base.proofs.Addresses.{address_parts}
use Rattle.ml_config.specs.Configuration.{IsConfig}
use Rattle.ml_config.specs.declared.configuration.Config.{Config}
use Rattle.ml_plain.specs.Mailing.{parts}

abbrev is_byte : ℕ → Bool
is_byte b = nat_lt b 256

byte_is : (k n : ℕ) → is_byte (byte_at k n) ≡ true
byte_is zero n = lt_is (n % 256) (mod_below n 256 (omega arith))
  where
    lt_is : (b : ℕ) → b < 256 → is_byte b ≡ true
    lt_is b h = grind arith
byte_is (suc k) n = lt_is (n / 256 ^ suc k % 256) (mod_below (n / 256 ^ suc k) 256 (omega arith))
  where
    lt_is : (b : ℕ) → b < 256 → is_byte b ≡ true
    lt_is b h = grind arith

bytes_are : (k n : ℕ) → list_all is_byte (bytes_high_first k n) ≡ true
bytes_are zero n = refl
bytes_are (suc k) n = and_from _ _ (byte_is k n) (bytes_are k n)

digest_is : (h : List ℕ) (n : ℕ) → list_all is_byte (digest_bytes h n) ≡ true
unfolding digest_bytes
digest_is h zero = refl
digest_is h (suc n) = list_all-append is_byte (digest_bytes h n) _ ∙ and_from _ _ (digest_is h n) (bytes_are 4 (slice_index h n))

sha_is : (m : List ℕ) → list_all is_byte (sha256 m) ≡ true
unfolding sha256
sha_is m = digest_is _ 8

taken : (n : ℕ) (text : Text) → list_all is_byte text ≡ true → list_all is_byte (take n text) ≡ true
taken zero text e = refl
taken (suc n) [] e = refl
taken (suc n) (b ∷ bs) e = let parts = and_parts (is_byte b) (list_all is_byte bs) e in and_from _ _ parts.0 (taken n bs parts.1)

high : (b : ℕ) → is_byte b ≡ true → is_letter (97 + b / 16) ≡ true
high b e = grind arith

low : (b : ℕ) → is_letter (97 + b % 16) ≡ true
low b = let less = mod_below b 16 (omega arith) in grind arith

lettered : (text : Text) → list_all is_byte text ≡ true → list_all is_letter (flat_map letters text) ≡ true
lettered [] e = refl
lettered (b ∷ bs) e =
    let parts = and_parts (is_byte b) (list_all is_byte bs) e in
    and_from _ _ (high b parts.0) (and_from _ _ (low b) (lettered bs parts.1))

-- 20 bytes that are a cookie are its letters
pub cookie_is : (found key kind set : Text) (moment : ℕ) (what : Text) → length found ≡ 20 → found ≡ cookie key kind set moment what → is_cookie found ≡ true
unfolding cookie
cookie_is found key kind set moment what size e =
    and_from _ _ (eq-eqb (length found) 20 size)
    (ap (list_all is_letter) e ∙ lettered (take 10 (hmac key (cookie_message kind set moment what))) (taken 10 (hmac key (cookie_message kind set moment what)) (sha_is _)))

-- the host of a list has no `@`
pub host_clean : (c : Config) → IsConfig c → has_byte 64 c.host ≡ false
host_clean c is =
    let fits : are_parts c.local c.host ≡ true = sym (who_parts c.local c.host) ∙ ap is_ok is.list.checks in
    no_at c.host (both _ (list_all is_host_byte c.host) fits).1

-- the parts of an address make one
pub parts_are : (x : Text) → IsAddress x → is_who (parts x) ≡ true
parts_are x is = ap (λ t. is_ok (address_check t)) (sym (address_parts x is).0) ∙ ap is_ok is.checks

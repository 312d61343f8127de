-- The people in an exercise have valid addresses.
use Rattle.std.proofs.Common.{◌≡◌, ℕ, suc, ◌+◌, ◌%◌, ◌^◌, ◌<◌, ◌≤◌, List, [], ◌∷◌, ◌++◌, ◌&&◌, true, length, Result, Ok, Err, is_ok, ap, ap₂, sym, refl, ◌∙◌, arith, codes, nat_lt}
use Rattle.std.proofs.lemmas.Bool.Decides.{nat_tests}
use Rattle.std.proofs.lemmas.Fmt.{decimal_by_steps}
use Rattle.std.proofs.lemmas.List.Folds.{list_all-append}
use Rattle.std.specs.Fmt.{decimal}
use Rattle.std.specs.List.{list_all}
use Rattle.ml_base.specs.Address.{IsAddress, address_check, are_parts, is_local_byte}
use Rattle.ml_base.specs.Bytes.{Text}
use Rattle.ml_base.specs.declared.address.AddressFault.{AddressFault}
use Rattle.ml_base.proofs.AddressParts.{who_parts}
use Rattle.ml_base.proofs.KeptAddresses.{kept_if}
use Rattle.ml_base.proofs.SplitLaws.{last_written}
use Rattle.ml_generated.specs.Texts.{address, person}
use Rattle.ml_generated.proofs.Sizes.{digits_short}

digit_local : (m : ℕ) → m < 10 → is_local_byte (48 + m) ≡ true
digit_local m small = grind (arith, nat_tests)

one_digit : (m : ℕ) → m < 10 → list_all is_local_byte ((48 + m) ∷ []) ≡ true
one_digit m small = ap (λ b. b && true) (digit_local m small)

one_more : (m : ℕ) (ds : List ℕ) → 10 ≤ m → list_all is_local_byte ds ≡ true → list_all is_local_byte (ds ++ (48 + m % 10) ∷ []) ≡ true
one_more m ds ten before = list_all-append is_local_byte ds ((48 + m % 10) ∷ []) ∙ ap₂ (λ a b. a && b) before (one_digit (m % 10) (omega arith))

digits_local : (n : ℕ) → n < 2 ^ 64 → list_all is_local_byte (decimal n) ≡ true
digits_local n fits = decimal_by_steps (λ m ds. list_all is_local_byte ds ≡ true) one_digit one_more n fits

checked : (r : Result (Unit {0}) AddressFault) → is_ok r ≡ true → r ≡ Ok tt
checked (Ok tt) is = refl
checked (Err e) is = cc

fits : (n : ℕ) → n ≤ 20 → nat_lt (suc n + 6) 400 ≡ true
fits n few = grind (arith, nat_tests)

pub is_address : (i : ℕ) → IsAddress (address i)
is_address i =
    let k = person i in
    let local : Text = codes "u" ++ decimal k in
    let host : Text = codes "ex.com" in
    let low : k < 2 ^ 64 = omega arith in
    let digits = digits_short k low in
    let short : nat_lt (length local + length host) 400 ≡ true = fits (length (decimal k)) digits in
    let parts : are_parts local host ≡ true = ap₂ (λ a b. a && true && b && true) short (digits_local k low) in
    kept_if (address i) local host (checked (address_check (address i)) (who_parts local host ∙ parts)) (sym (last_written 64 local host refl)) refl

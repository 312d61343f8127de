-- LOCAL@HOST as an address: it is split at its one `@`, and its host may be put into lower case.
use Rattle.std.proofs.Common.{◌≡◌, ◌∙◌, ℕ, ◌&&◌, ◌||◌, ◌==◌, Bool, true, false, nat_lt, cond, [], ◌∷◌, ◌++◌, length, Option, Some, None, Result, Ok, Err, is_ok, refl, sym, ap, ap₂, subst}
use Rattle.std.proofs.lemmas.Bool.{eq-eqb}
use Rattle.std.proofs.lemmas.Bool.Decides.{nat_tests}
use Rattle.std.proofs.Common.{arith}
use Rattle.std.specs.List.{list_all}
use Rattle.ml_base.specs.Bytes.{Text, is_empty, lower, split_last}
use Rattle.ml_base.specs.Address.{IsAddress, address_check, address_of, as_address, check_bytes, check_parts, past_at, before_at, host_of, is_host_byte, is_local_byte}
use Rattle.ml_base.specs.Splits.{has_byte}
use Rattle.ml_base.specs.declared.address.AddressFault.{AddressFault}
use Rattle.ml_base.specs.declared.address.AddressFault.TheVariants.{TooLong, NoAt, EmptyPart, BadByte}
use Rattle.ml_base.proofs.Bools.{both, neither}
use Rattle.ml_base.proofs.Addresses.{address_parts, address_read}
use Rattle.ml_base.proofs.SplitLaws.{last_read}

-- bytes that pass a test which one byte fails don't have that byte
pub lacks : (p : ℕ → Bool) (c : ℕ) → ((b : ℕ) → p b ≡ true → (b == c) ≡ false) → (text : Text) → list_all p text ≡ true → has_byte c text ≡ false
lacks p c h [] e = refl
lacks p c h (b ∷ bs) e =
    let parts = both (p b) (list_all p bs) e in
    ap₂ (λ x y. x || y) (h b parts.0) (lacks p c h bs parts.1)

pub has_append : (c : ℕ) (xs ys : Text) → has_byte c (xs ++ ys) ≡ (has_byte c xs || has_byte c ys)
has_append c [] ys = refl
has_append c (x ∷ xs) ys = go (x == c) (has_append c xs ys)
  where
    go : (t : Bool) → has_byte c (xs ++ ys) ≡ (has_byte c xs || has_byte c ys) → (t || has_byte c (xs ++ ys)) ≡ ((t || has_byte c xs) || has_byte c ys)
    go true more = refl
    go false more = more

has_itself : (c : ℕ) (xs ys : Text) → has_byte c (xs ++ c ∷ ys) ≡ true
has_itself c [] ys = ap (λ t. t || has_byte c ys) (eq-eqb c c refl)
has_itself c (x ∷ xs) ys = go (x == c) (has_itself c xs ys)
  where
    go : (t : Bool) → has_byte c (xs ++ c ∷ ys) ≡ true → (t || has_byte c (xs ++ c ∷ ys)) ≡ true
    go true more = refl
    go false more = more

-- if one cut is at the only place of a byte, so is every other
one_cut : (c : ℕ) (x y b h : Text) → has_byte c b ≡ false → has_byte c h ≡ false → x ++ c ∷ y ≡ b ++ c ∷ h → (x ≡ b) × (y ≡ h)
one_cut c [] y [] h p q e = (refl, cc)
one_cut c [] y (d ∷ b) h p q e =
    let parts = neither (d == c) (has_byte c b) p in
    let same : d ≡ c = cc in
    absurd (let bad : true ≡ false = sym (eq-eqb d c same) ∙ parts.0 in cc)
one_cut c (d ∷ x) y [] h p q e =
    let rest : x ++ c ∷ y ≡ h = cc in
    absurd (let bad : true ≡ false = sym (has_itself c x y) ∙ (ap (has_byte c) rest ∙ q) in cc)
one_cut c (d ∷ x) y (f ∷ b) h p q e =
    let parts = neither (f == c) (has_byte c b) p in
    let head : d ≡ f = cc in
    let rest : x ++ c ∷ y ≡ b ++ c ∷ h = cc in
    let more = one_cut c x y b h parts.1 q rest in
    (ap₂ (λ u v. u ∷ v) head more.0, more.1)

abbrev pub Checked : Type 0
Checked = Result (Unit {0}) AddressFault

no_sign : (b : ℕ) → is_local_byte b ≡ true → (b == 64) ≡ false
no_sign b h = grind (arith, nat_tests)

abbrev pub AreBytes : Text → Text → Type 0
AreBytes local host = (list_all is_local_byte local ≡ true) × (list_all is_host_byte host ≡ true)

bytes_ok : (local host : Text) → check_bytes local host ≡ Ok tt → AreBytes local host
bytes_ok local host e = both _ (list_all is_host_byte host) (go (list_all is_local_byte local && list_all is_host_byte host) e)
  where
    go : (t : Bool) → ◌≡◌ {A = Checked} (cond t (Ok tt) (Err BadByte)) (Ok tt) → t ≡ true
    go true f = refl
    go false f = absurd cc

pub parts_ok : (local host : Text) → check_parts (Some (local, host)) ≡ Ok tt → AreBytes local host
parts_ok local host e = bytes_ok local host (go (is_empty local || is_empty host) e)
  where
    go : (t : Bool) → ◌≡◌ {A = Checked} (cond t (Err EmptyPart) (check_bytes local host)) (Ok tt) → check_bytes local host ≡ Ok tt
    go true f = absurd cc
    go false f = f

pub not_long : (t : Bool) (r : Checked) → ◌≡◌ {A = Checked} (cond t (Err TooLong) r) (Ok tt) → r ≡ Ok tt
not_long true r e = absurd cc
not_long false r e = e

-- if LOCAL@HOST is an address, it is split into LOCAL and HOST
pub cut_there : (local host : Text) → address_check (local ++ 64 ∷ host) ≡ Ok tt → split_last 64 (local ++ 64 ∷ host) ≡ Some (local, host)
cut_there local host e = go (split_last 64 (local ++ 64 ∷ host)) refl (not_long (nat_lt 400 (length (local ++ 64 ∷ host))) _ e)
  where
    go : (o : Option (Text × Text)) → split_last 64 (local ++ 64 ∷ host) ≡ o → check_parts o ≡ Ok tt → o ≡ Some (local, host)
    go None is f = absurd (let bad : ◌≡◌ {A = Checked} (Err NoAt) (Ok tt) = f in cc)
    go (Some p) is f =
        let read = last_read 64 (local ++ 64 ∷ host) p.0 p.1 is in
        let clean = lacks is_local_byte 64 no_sign p.0 (parts_ok p.0 p.1 f).0 in
        let same = one_cut 64 local host p.0 p.1 clean read.1 read.0 in
        ap₂ (λ (a b : Text). Some (a, b)) (sym same.0) (sym same.1)

pub is_ok_checks : (r : Checked) → is_ok r ≡ true → r ≡ Ok tt
is_ok_checks (Ok tt) e = refl
is_ok_checks (Err f) e = absurd cc

-- with its host in lower case, it is an address as it is kept
pub list_kept : (local host : Text) → address_check (local ++ 64 ∷ host) ≡ Ok tt → IsAddress (local ++ 64 ∷ lower host)
list_kept local host e =
    let text = local ++ 64 ∷ host in
    let cut = cut_there local host e in
    let kept : as_address text ≡ local ++ 64 ∷ lower host = ap (λ (o : Option (Text × Text)). before_at o ++ 64 ∷ lower (past_at o)) cut in
    let found : address_of text ≡ Some (as_address text) = ap (λ (r : Checked). cond (is_ok r) (Some (as_address text)) None) e in
    subst IsAddress kept (address_read text (as_address text) found)

-- if it is one as it is kept, its host is in lower case
pub host_lower : (local host : Text) → IsAddress (local ++ 64 ∷ host) → lower host ≡ host
host_lower local host is =
    let host_is : host_of (local ++ 64 ∷ host) ≡ host = ap past_at (cut_there local host is.checks) in
    ap lower (sym host_is) ∙ (address_parts (local ++ 64 ∷ host) is).1 ∙ host_is

-- When two parts make an address with an `@` between them.
use Rattle.std.proofs.Common.{◌≡◌, ℕ, ◌+◌, Bool, true, false, not, nat_lt, ◌&&◌, ◌||◌, [], ◌∷◌, ◌++◌, length, Option, Some, None, is_ok, refl, ap, ap₂, sym, ◌∙◌, subst, arith, length-append}
use Rattle.std.proofs.lemmas.Bool.{ltb-true, ltb-false, lt-ltb, le-ltb}
use Rattle.std.specs.List.{list_all}
use Rattle.ml_base.specs.Bytes.{Text, is_empty, split_last}
use Rattle.ml_base.specs.Address.{is_local_byte, is_host_byte, address_check, make_address, are_parts}
use Rattle.ml_base.specs.Splits.{has_byte}
use Rattle.ml_base.proofs.Bools.{both, not_true}
use Rattle.ml_base.proofs.SplitLaws.{last_written, last_read}
use Rattle.ml_base.proofs.Addresses.{no_sign}

-- a host has no `@`
pub no_at : (host : Text) → list_all is_host_byte host ≡ true → has_byte 64 host ≡ false
no_at [] e = refl
no_at (b ∷ bs) e =
    let parts = both (is_host_byte b) (list_all is_host_byte bs) e in
    ap₂ (λ s t. s || t) (no_sign b parts.0) (no_at bs parts.1)

at_inside : (l h : Text) → list_all is_host_byte (l ++ 64 ∷ h) ≡ true → ⊥
at_inside [] h e = let bad : false ≡ true = e in cc
at_inside (b ∷ l) h e = at_inside l h (both (is_host_byte b) (list_all is_host_byte (l ++ 64 ∷ h)) e).1

-- parts that are allowed are cut at the only `@`
same_cut : (a l b h : Text) → list_all is_local_byte a ≡ true → list_all is_host_byte b ≡ true → a ++ 64 ∷ b ≡ l ++ 64 ∷ h → b ≡ h
same_cut [] [] b h locals hosts e = cc
same_cut [] (x ∷ l) b h locals hosts e = let same : b ≡ l ++ 64 ∷ h = cc in absurd (at_inside l h (subst (λ (t : Text). list_all is_host_byte t ≡ true) same hosts))
same_cut (x ∷ a) [] b h locals hosts e =
    let first : x ≡ 64 = cc in
    let bad : false ≡ true = subst (λ (n : ℕ). is_local_byte n ≡ true) first (both (is_local_byte x) (list_all is_local_byte a) locals).0 in
    absurd (cc)
same_cut (x ∷ a) (y ∷ l) b h locals hosts e =
    let rest : a ++ 64 ∷ b ≡ l ++ 64 ∷ h = cc in
    same_cut a l b h (both (is_local_byte x) (list_all is_local_byte a) locals).1 hosts rest

-- a text that is split so is an address if its parts are
tested : (text l h : Text) → split_last 64 text ≡ Some (l, h) → length text ≡ length l + length h + 1 → is_ok (address_check text) ≡ are_parts l h
tested text l h cut len = go (nat_lt 400 (length text)) refl (is_empty l || is_empty h) refl (list_all is_local_byte l) refl (list_all is_host_byte h) refl
  where
    few : (a : Bool) → nat_lt 400 (length text) ≡ a → nat_lt (length l + length h) 400 ≡ not a
    few true p = let more = ltb-true 400 (length text) p in le-ltb (length l + length h) 400 (omega (arith, len))
    few false p = let more = ltb-false 400 (length text) p in lt-ltb (length l + length h) 400 (omega (arith, len))

    go : (a : Bool) → nat_lt 400 (length text) ≡ a → (b : Bool) → (is_empty l || is_empty h) ≡ b → (c : Bool) → list_all is_local_byte l ≡ c → (d : Bool) → list_all is_host_byte h ≡ d
        → is_ok (address_check text) ≡ are_parts l h
    go true p b q c r d t = rw (p, few true p)
    go false p true q c r d t = rw (p, few false p, cut, q)
    go false p false q false r d t = rw (p, few false p, cut, q, r)
    go false p false q true r false t = rw (p, few false p, cut, q, r, t)
    go false p false q true r true t = rw (p, few false p, cut, q, r, t)

len_of : (l h : Text) → length (l ++ 64 ∷ h) ≡ length l + length h + 1
len_of l h = omega (arith, length-append l (64 ∷ h))

-- parts that pass the test are allowed
allowed : (l h : Text) → are_parts l h ≡ true → (list_all is_local_byte l ≡ true) × (list_all is_host_byte h ≡ true)
allowed l h e =
    let last = both _ (list_all is_host_byte h) e in
    let before = both _ (list_all is_local_byte l) last.0 in
    (before.1, last.1)

and_false : (a : Bool) → (a && false) ≡ false
and_false true = refl
and_false false = refl

-- the two tests agree
pub who_parts : (l h : Text) → make_address l h ≡ are_parts l h
who_parts l h = go (list_all is_host_byte h) refl
  where
    other : list_all is_host_byte h ≡ false → (found : Option (Text × Text)) → split_last 64 (l ++ 64 ∷ h) ≡ found → is_ok (address_check (l ++ 64 ∷ h)) ≡ true → ⊥
    other t None cut e = over (nat_lt 400 (length (l ++ 64 ∷ h))) refl
      where
        over : (a : Bool) → nat_lt 400 (length (l ++ 64 ∷ h)) ≡ a → ⊥
        over true p = let bad : false ≡ true = rw p at e in cc
        over false p = let bad : false ≡ true = rw (p, cut) at e in cc
    other t (Some p) cut e =
        let read = last_read 64 (l ++ 64 ∷ h) p.0 p.1 cut in
        let fit : are_parts p.0 p.1 ≡ true = sym (tested (l ++ 64 ∷ h) p.0 p.1 cut (ap length read.0 ∙ len_of p.0 p.1)) ∙ e in
        let parts = allowed p.0 p.1 fit in
        let same = same_cut p.0 l p.1 h parts.0 parts.1 (sym read.0) in
        let bad : true ≡ false = sym parts.1 ∙ ap (list_all is_host_byte) same ∙ t in
        cc

    go : (d : Bool) → list_all is_host_byte h ≡ d → make_address l h ≡ are_parts l h
    go true t = tested (l ++ 64 ∷ h) l h (last_written 64 l h (no_at h t)) (len_of l h)
    go false t =
        not_true _ (other t (split_last 64 (l ++ 64 ∷ h)) refl)
        ∙ sym (ap (λ d. (nat_lt (length l + length h) 400 && not (is_empty l || is_empty h) && list_all is_local_byte l) && d) t ∙ and_false _)

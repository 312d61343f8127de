-- The parts of an address, and the spelling that is kept.
use Rattle.std.proofs.Common.{◌≡◌, ℕ, suc, ◌+◌, ◌≤◌, Bool, true, false, ◌==◌, ◌&&◌, ◌||◌, nat_lt, Some, None, Ok, Err, Option, Result, is_ok, [], ◌∷◌, ◌++◌, length, take, drop, refl, ap, ap₂, sym, ◌∙◌, subst, cond, arith, append_assoc, length-append}
use Rattle.std.proofs.lemmas.Bool.{eqb-true, ltb-false}
use Rattle.std.proofs.lemmas.Bool.Decides.{nat_tests}
use Rattle.std.proofs.lemmas.List.{length-map, map-append, append_cancel_left, take_at, drop_at}
use Rattle.std.specs.List.{list_all, list_any}
use Rattle.std.specs.Char.{to_ascii_lowercase}
use Rattle.ml_base.specs.Bytes.{Text, lower, is_empty, split_last, onto_split, is_nul}
use Rattle.ml_base.specs.declared.address.AddressFault.{AddressFault}
use Rattle.ml_base.specs.declared.address.AddressFault.TheVariants.{TooLong, NoAt, EmptyPart, BadByte}
use Rattle.ml_base.specs.Address.{is_local_byte, is_host_byte, address_check, address_of, as_address, local_of, host_of, before_at, past_at, IsAddress, IsAddressAt, key}
use Rattle.ml_base.proofs.Bools.{both, neither}

-- lower case keeps every byte that a host may have
lower_host : (b : ℕ) → is_host_byte b ≡ true → is_host_byte (to_ascii_lowercase b) ≡ true
lower_host b h = grind (arith, nat_tests)

lower_twice : (b : ℕ) → to_ascii_lowercase (to_ascii_lowercase b) ≡ to_ascii_lowercase b
lower_twice b = grind (arith, nat_tests)

pub lower_again : (bs : Text) → lower (lower bs) ≡ lower bs
lower_again [] = refl
lower_again (b ∷ bs) = ap₂ (λ c cs. c ∷ cs) (lower_twice b) (lower_again bs)

-- and every byte that a local part may have
lower_local : (b : ℕ) → is_local_byte b ≡ true → is_local_byte (to_ascii_lowercase b) ≡ true
lower_local b h = grind (arith, nat_tests)

lower_all : (p : ℕ → Bool) → ((b : ℕ) → p b ≡ true → p (to_ascii_lowercase b) ≡ true) → (bs : Text) → list_all p bs ≡ true → list_all p (lower bs) ≡ true
lower_all p h [] e = refl
lower_all p h (b ∷ bs) e =
    let parts = both (p b) (list_all p bs) e in
    ap₂ (λ s t. s && t) (h b parts.0) (lower_all p h bs parts.1)

lower_empty : (bs : Text) → is_empty (lower bs) ≡ is_empty bs
lower_empty [] = refl
lower_empty (b ∷ bs) = refl

pub no_sign : (b : ℕ) → is_host_byte b ≡ true → (b == 64) ≡ false
no_sign b h = grind (arith, nat_tests)

-- a host has no `@`
no_split : (host : Text) → list_all is_host_byte host ≡ true → split_last 64 host ≡ None
no_split [] e = refl
no_split (b ∷ bs) e =
    let parts = both (is_host_byte b) (list_all is_host_byte bs) e in
    ap₂ (λ is found. onto_split b is bs found) (no_sign b parts.0) (no_split bs parts.1)

-- a text whose host is one is split there
split_there : (local host : Text) → list_all is_host_byte host ≡ true → split_last 64 (local ++ 64 ∷ host) ≡ Some (local, host)
split_there [] host e = ap (λ found. onto_split 64 true host found) (no_split host e)
split_there (b ∷ bs) host e = ap (λ found. onto_split b (b == 64) (bs ++ 64 ∷ host) found) (split_there bs host e)

abbrev cut : Text → Text → Option (Text × Text)
cut local host = Some (local, host)

abbrev uncut : Option (Text × Text)
uncut = None

-- what is split was put together from its parts
cut_whole : (text local host : Text) → split_last 64 text ≡ Some (local, host) → text ≡ local ++ 64 ∷ host
cut_whole [] local host e = let bad : uncut ≡ cut local host = e in cc
cut_whole (b ∷ bs) local host e = go (cut_whole bs) (split_last 64 bs) refl (b == 64) refl
  where
    go : ((l h : Text) → split_last 64 bs ≡ Some (l, h) → bs ≡ l ++ 64 ∷ h) → (found : Option (Text × Text)) → split_last 64 bs ≡ found → (is : Bool) → (b == 64) ≡ is → b ∷ bs ≡ local ++ 64 ∷ host
    go more (Some p) f is h =
        let same : Some (b ∷ p.0, p.1) ≡ Some (local, host) = ap (λ q. onto_split b (b == 64) bs q) (sym f) ∙ e in
        let rest = more p.0 p.1 f in
        ap (λ t. b ∷ t) rest ∙ ap (λ (q : Option (Text × Text)). before_at q ++ 64 ∷ past_at q) same
    go more None f true h =
        let same : Some ([], bs) ≡ Some (local, host) = ap₂ (λ is q. onto_split b is bs q) (sym h) (sym f) ∙ e in
        ap (λ c. c ∷ bs) (eqb-true b 64 h) ∙ ap (λ (q : Option (Text × Text)). before_at q ++ 64 ∷ past_at q) same
    go more None f false h = let bad : uncut ≡ cut local host = ap₂ (λ is q. onto_split b is bs q) (sym h) (sym f) ∙ e in cc

-- what a checked text consists of
record Parted (text local host : Text) : Type 0 where
  cut : split_last 64 text ≡ Some (local, host)
  short : nat_lt 400 (length text) ≡ false
  some : (is_empty local || is_empty host) ≡ false
  locals : list_all is_local_byte local ≡ true
  hosts : list_all is_host_byte host ≡ true

abbrev sound : Result (Unit {0}) AddressFault
sound = Ok tt

abbrev faulty : AddressFault → Result (Unit {0}) AddressFault
faulty f = Err f

tested : (text local host : Text) → split_last 64 text ≡ Some (local, host) → address_check text ≡ Ok tt → Parted text local host
tested text local host cut e = go (nat_lt 400 (length text)) refl (is_empty local || is_empty host) refl (list_all is_local_byte local && list_all is_host_byte host) refl
  where
    go : (a : Bool) → nat_lt 400 (length text) ≡ a → (b : Bool) → (is_empty local || is_empty host) ≡ b → (c : Bool) → (list_all is_local_byte local && list_all is_host_byte host) ≡ c
        → Parted text local host
    go true p b q c r = let bad : faulty TooLong ≡ sound = rw p at e in cc
    go false p true q c r = let bad : faulty EmptyPart ≡ sound = rw (p, cut, q) at e in cc
    go false p false q false r = let bad : faulty BadByte ≡ sound = rw (p, cut, q, r) at e in cc
    go false p false q true r =
        let bytes = both (list_all is_local_byte local) (list_all is_host_byte host) r in
        record { cut = cut; short = p; some = q; locals = bytes.0; hosts = bytes.1 }

-- parts that are allowed make an address
checked : (text local host : Text) → Parted text local host → address_check text ≡ Ok tt
checked text local host p =
    let short = p.short in
    let cut = p.cut in
    let some = p.some in
    let locals = p.locals in
    let hosts = p.hosts in
    rw (short, cut, some, locals, hosts)

-- the parts with the host in lower case
kept_parts : (text local host : Text) → Parted text local host → Parted (local ++ 64 ∷ lower host) local (lower host)
kept_parts text local host p =
    let whole = cut_whole text local host p.cut in
    let same : length (local ++ 64 ∷ lower host) ≡ length text =
    length-append local (64 ∷ lower host) ∙ ap (λ n. length local + suc n) (length-map host to_ascii_lowercase) ∙ sym (length-append local (64 ∷ host)) ∙ ap length (sym whole) in
    record {
      cut = split_there local (lower host) (lower_all is_host_byte lower_host host p.hosts);
      short = ap (nat_lt 400) same ∙ p.short;
      some = ap (λ b. is_empty local || b) (lower_empty host) ∙ p.some;
      locals = p.locals;
      hosts = lower_all is_host_byte lower_host host p.hosts;
    }

-- they make an address, with its `@` after the local part
kept_is : (text local host : Text) → Parted text local host → IsAddressAt (local ++ 64 ∷ lower host) (length local)
kept_is text local host p =
    let kept = kept_parts text local host p in
    let all = local ++ 64 ∷ lower host in
    let cut = kept.cut in
    record {
      is = record {
        checks = checked all local (lower host) kept;
        kept = ap (λ (q : Option (Text × Text)). before_at q ++ 64 ∷ lower (past_at q)) cut ∙ ap (λ h. local ++ 64 ∷ h) (lower_again host);
      };
      within = omega (arith, length-append local (64 ∷ lower host));
      parts = cut ∙ ap₂ (λ l h. Some (l, h)) (sym (take_at local (64 ∷ lower host) (length local) refl))
          (sym (ap (drop (length local + 1)) (sym (append_assoc local (64 ∷ []) (lower host))) ∙ drop_at (local ++ 64 ∷ []) (lower host) (length local + 1) (length-append local (64 ∷ []))));
    }

spelled : (text local host : Text) → Parted text local host → address_of text ≡ Some (local ++ 64 ∷ lower host)
spelled text local host p =
    ap (λ r. cond (is_ok r) (Some (as_address text)) None) (checked text local host p) ∙ ap (λ (q : Option (Text × Text)). Some (before_at q ++ 64 ∷ lower (past_at q))) (p.cut)

-- the text up to its last `@`, and the rest in lower case, is the spelling that is kept
pub kept_text : (text local host front out : Text) → address_check text ≡ Ok tt → Some (local, host) ≡ split_last 64 text → front ≡ take (length local + 1) text → out ≡ front ++ lower host
    → IsAddressAt out (length local) × (address_of text ≡ Some out)
kept_text text local host front out e cut first whole =
    let p = tested text local host (sym cut) e in
    let up : take (length local + 1) text ≡ local ++ 64 ∷ [] =
    ap (take (length local + 1)) (cut_whole text local host p.cut ∙ sym (append_assoc local (64 ∷ []) host)) ∙ take_at (local ++ 64 ∷ []) host (length local + 1) (length-append local (64 ∷ [])) in
    let all : out ≡ local ++ 64 ∷ lower host = whole ∙ ap (λ t. t ++ lower host) (first ∙ up) ∙ append_assoc local (64 ∷ []) (lower host) in
    (subst (λ (t : Text). IsAddressAt t (length local)) (sym all) (kept_is text local host p), spelled text local host p ∙ ap Some (sym all))

-- a checked text has parts
parts_of : (text : Text) → address_check text ≡ Ok tt → (local : Text) × (host : Text) × Parted text local host
parts_of text e = go (split_last 64 text) refl
  where
    go : (found : Option (Text × Text)) → split_last 64 text ≡ found → (local : Text) × (host : Text) × Parted text local host
    go (Some p) f = (p.0, p.1, tested text p.0 p.1 f e)
    go None f = absurd (none (nat_lt 400 (length text)) refl)
      where
        none : (a : Bool) → nat_lt 400 (length text) ≡ a → ⊥
        none true h = let bad : faulty TooLong ≡ sound = rw h at e in cc
        none false h = let bad : faulty NoAt ≡ sound = rw (h, f) at e in cc

-- an address has an `@`
pub address_splits : (text : Text) → IsAddress text → split_last 64 text ≡ None → ⊥
address_splits text is none = let p = parts_of text is.checks in absurd (cc (p.2.cut, none))

-- what is read is an address
pub address_read : (text address : Text) → address_of text ≡ Some address → IsAddress address
address_read text address e = go (address_check text) refl
  where
    go : (r : Result (Unit {0}) AddressFault) → address_check text ≡ r → IsAddress address
    go (Err f) h = let bad : None ≡ Some address = ap (λ (q : Result (Unit {0}) AddressFault). cond (is_ok q) (Some (as_address text)) None) (sym h) ∙ e in absurd (cc)
    go (Ok u) h =
        let p = parts_of text h in
        let same : Some (p.0 ++ 64 ∷ lower p.1) ≡ Some address = sym (spelled text p.0 p.1 p.2) ∙ e in
        let this : p.0 ++ 64 ∷ lower p.1 ≡ address = cc in
        subst (λ (t : Text). IsAddress t) this (kept_is text p.0 p.1 p.2).is

-- an address is read as itself
pub address_kept : (address : Text) → IsAddress address → address_of address ≡ Some address
address_kept address a =
    ap (λ (r : Result (Unit {0}) AddressFault). cond (is_ok r) (Some (as_address address)) None) a.checks ∙ ap Some a.kept

none_append : (xs ys : Text) → list_any is_nul xs ≡ false → list_any is_nul ys ≡ false → list_any is_nul (xs ++ ys) ≡ false
none_append [] ys e f = f
none_append (x ∷ xs) ys e f =
    let parts = neither (is_nul x) (list_any is_nul xs) e in
    ap (λ t. t || list_any is_nul (xs ++ ys)) parts.0 ∙ none_append xs ys parts.1 f

local_byte : (b : ℕ) → is_local_byte b ≡ true → is_nul b ≡ false
local_byte b h = grind (arith, nat_tests)

host_byte : (b : ℕ) → is_host_byte b ≡ true → is_nul b ≡ false
host_byte b h = grind (arith, nat_tests)

none_of : (p : ℕ → Bool) → ((b : ℕ) → p b ≡ true → is_nul b ≡ false) → (bs : Text) → list_all p bs ≡ true → list_any is_nul bs ≡ false
none_of p h [] e = refl
none_of p h (b ∷ bs) e =
    let parts = both (p b) (list_all p bs) e in
    ap (λ t. t || list_any is_nul bs) (h b parts.0) ∙ none_of p h bs parts.1

-- an address that is kept has its `@` after its local part
pub kept_at : (text local host : Text) → IsAddress text → Some (local, host) ≡ split_last 64 text → IsAddressAt text (length local)
kept_at text local host is cut =
    let both = kept_text text local host (take (length local + 1) text) (take (length local + 1) text ++ lower host) is.checks cut refl refl in
    let e : Some text ≡ Some (take (length local + 1) text ++ lower host) = sym (address_kept text is) ∙ both.1 in
    let same : take (length local + 1) text ++ lower host ≡ text = cc in
    subst (λ (t : Text). IsAddressAt t (length local)) same both.0

-- an address is its parts round the `@`, and its host is in lower case
pub address_parts : (address : Text) → IsAddress address → (address ≡ local_of address ++ 64 ∷ host_of address) × (lower (host_of address) ≡ host_of address)
address_parts address a =
    let p = parts_of address a.checks in
    let local = p.0 in
    let host = p.1 in
    let whole = cut_whole address local host (p.2).cut in
    let first : local_of address ≡ local = ap before_at (p.2).cut in
    let last : host_of address ≡ host = ap past_at (p.2).cut in
    let same : local ++ 64 ∷ lower host ≡ local ++ 64 ∷ host = sym (ap₂ (λ l h. l ++ 64 ∷ lower h) first last) ∙ a.kept ∙ whole in
    let rests : 64 ∷ lower host ≡ 64 ∷ host = append_cancel_left local (64 ∷ lower host) (64 ∷ host) same in
    let lowered : lower host ≡ host = cc in
    (whole ∙ sym (ap₂ (λ l h. l ++ 64 ∷ h) first last), ap lower last ∙ lowered ∙ sym last)

-- the whole in lower case, and its parts
key_parts : (text local host : Text) → Parted text local host → Parted (lower text) (lower local) (lower host)
key_parts text local host p =
    let whole : lower text ≡ lower local ++ 64 ∷ lower host = ap lower (cut_whole text local host p.cut) ∙ map-append to_ascii_lowercase local (64 ∷ host) in
    let hosts = lower_all is_host_byte lower_host host p.hosts in
    record {
      cut = ap (split_last 64) whole ∙ split_there (lower local) (lower host) hosts;
      short = ap (nat_lt 400) (length-map text to_ascii_lowercase) ∙ p.short;
      some = ap₂ (λ a b. a || b) (lower_empty local) (lower_empty host) ∙ p.some;
      locals = lower_all is_local_byte lower_local local p.locals;
      hosts = hosts;
    }

-- the key of an address is an address
pub address_key : (address : Text) → IsAddress address → IsAddress (key address)
address_key address a =
    let p = parts_of address a.checks in
    let k = key_parts address p.0 p.1 p.2 in
    record {
      checks = checked (lower address) (lower p.0) (lower p.1) k;
      kept = ap (λ (q : Option (Text × Text)). before_at q ++ 64 ∷ lower (past_at q)) k.cut ∙ ap (λ h. lower p.0 ++ 64 ∷ h) (lower_again p.1) ∙ sym (cut_whole (lower address) (lower p.0) (lower p.1) k.cut);
    }

-- no byte of an address is zero
pub address_clean : (address : Text) → IsAddress address → list_any is_nul address ≡ false
address_clean address a =
    let p = parts_of address a.checks in
    let whole = cut_whole address p.0 p.1 (p.2).cut in
    ap (list_any is_nul) whole ∙ none_append p.0 (64 ∷ p.1) (none_of is_local_byte local_byte p.0 (p.2).locals) (none_of is_host_byte host_byte p.1 (p.2).hosts)

-- an address has 400 bytes at most
pub address_short : (address : Text) → IsAddress address → length address ≤ 400
address_short address a = let p = parts_of address a.checks in ltb-false 400 (length address) (p.2).short

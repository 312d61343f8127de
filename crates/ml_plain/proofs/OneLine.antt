-- Which texts have no LF: addresses, cookies, and the list's own addresses.
use Rattle.std.proofs.Common.{◌≡◌, ℕ, zero, suc, ◌+◌, ◌/◌, ◌%◌, ◌<◌, Bool, true, false, cond, is_ok, ◌==◌, ◌||◌, List, [], ◌∷◌, ◌++◌, take, codes, Option, Some, None, refl, sym, ap, ap₂, ◌∙◌, arith}
use Rattle.std.specs.Fmt.{decimal, digits, digits_onto, digit_glyph}
use Rattle.std.specs.List.{list_all, flat_map}
use Rattle.std.specs.Char.{to_ascii_lowercase}
use Rattle.std.proofs.lemmas.Bool.{eqb-true}
use Rattle.std.proofs.lemmas.Bool.Decides.{nat_tests}
use Rattle.ml_base.specs.Address.{IsAddress, address_check, as_address, make_address, are_parts, is_local_byte, is_host_byte, local_of, host_of, before_at, past_at}
use Rattle.ml_base.specs.Bytes.{Text, lower, split_last, onto_split}
use Rattle.ml_base.specs.Name.{set_word}
use Rattle.ml_base.specs.Splits.{has_byte}
use Rattle.ml_base.specs.Texts.{list_address}
use Rattle.ml_base.specs.declared.names.Set.{Set}
use Rattle.ml_base.specs.declared.names.Set.TheVariants as sets
use Rattle.ml_base.proofs.Addresses.{address_parts, address_read}
use Rattle.ml_base.proofs.AddressParts.{who_parts}
use Rattle.ml_base.proofs.Bools.{both, neither, not_true}
use Rattle.ml_config.proofs.ListAddress.{has_append, lacks}
use Rattle.ml_address.specs.declared.Word.{Word}
use Rattle.ml_address.specs.declared.Word.TheVariants as words
use Rattle.ml_address.specs.Cookies.{cookie, cookie_message, letters}
use Rattle.ml_address.specs.Hmac.{hmac}
use Rattle.ml_address.specs.Requests.{PlainWho, PlainRequest, Confirm, Accept, set_front, word_text, is_who}
use Rattle.ml_address.specs.Writing.{request_text, rest_text, signed_text, ticket_text}
use Rattle.ml_digest.proofs.Apart.{local_byte, host_byte}
use Rattle.ml_plain.specs.Bouncing.{address_named}

abbrev pub Clean : Text → Type 0
Clean text = has_byte 10 text ≡ false

pub clean_both : (a b : Text) → Clean a → Clean b → Clean (a ++ b)
clean_both a b x y = has_append 10 a b ∙ ap₂ (λ s t. s || t) x y

other : (b : ℕ) → 10 < b → (b == 10) ≡ false
other b more = not_true (b == 10) (λ e. let same = eqb-true b 10 e in omega arith)

pub one_more : (b : ℕ) (text : Text) → 10 < b → Clean text → Clean (b ∷ text)
one_more b text more clean = ap₂ (λ s t. s || t) (other b more) clean

glyph : (d : ℕ) → 10 < digit_glyph false d
glyph d = grind arith

digits_clean : (k n : ℕ) (acc : Text) → Clean acc → Clean (digits_onto k 10 false n acc)
digits_clean zero n acc clean = clean
digits_clean (suc k) n acc clean =
    let more = one_more (digit_glyph false (n % 10)) acc (glyph (n % 10)) clean in
    go (n / 10 == 0) more (digits_clean k (n / 10) (digit_glyph false (n % 10) ∷ acc) more)
  where
    go : (t : Bool) → Clean (digit_glyph false (n % 10) ∷ acc) → Clean (digits_onto k 10 false (n / 10) (digit_glyph false (n % 10) ∷ acc))
        → Clean (cond t (digit_glyph false (n % 10) ∷ acc) (digits_onto k 10 false (n / 10) (digit_glyph false (n % 10) ∷ acc)))
    go true one all = one
    go false one all = all

pub decimal_clean : (n : ℕ) → Clean (decimal n)
unfolding digits
decimal_clean n = digits_clean 64 n [] refl

pub own_clean : (local host rest : Text) → Clean local → Clean host → Clean rest → Clean (list_address local host rest)
own_clean local host rest l h r = clean_both (local ++ 45 ∷ rest) (64 ∷ host) (clean_both local (45 ∷ rest) l r) h

pub set_clean : (set : Set) → Clean (set_word set)
set_clean sets.List = refl
set_clean sets.Digest = refl
set_clean sets.Allow = refl
set_clean sets.Deny = refl
set_clean sets.Moderators = refl

-- addresses

-- parts of an address
pub parts_allowed : (l h : Text) → make_address l h ≡ true → Clean l × Clean h
parts_allowed l h e =
    let fit : are_parts l h ≡ true = sym (who_parts l h) ∙ e in
    let last = both _ (list_all is_host_byte h) fit in
    let before = both _ (list_all is_local_byte l) last.0 in
    (lacks is_local_byte 10 local_byte l before.1, lacks is_host_byte 10 host_byte h last.1)

pub address_line : (x : Text) → IsAddress x → Clean x
address_line x is =
    let whole = (address_parts x is).0 in
    let fits : make_address (local_of x) (host_of x) ≡ true = ap (λ t. is_ok (address_check t)) (sym whole) ∙ ap is_ok is.checks in
    let parts = parts_allowed (local_of x) (host_of x) fits in
    ap (has_byte 10) whole ∙ clean_both (local_of x) (64 ∷ host_of x) parts.0 parts.1

-- the address of a sender
pub sender_line : (sender : Text) → is_ok (address_check sender) ≡ true → Clean (as_address sender)
sender_line sender e = address_line (as_address sender) (address_read sender (as_address sender) (ap (λ t. some_if t (as_address sender)) e))
  where
    some_if : Bool → Text → Option Text
    some_if t x = cond t (Some x) None

-- the address that a request names
lower_byte : (b : ℕ) → is_host_byte b ≡ true → (to_ascii_lowercase b == 10) ≡ false
lower_byte b h = grind (arith, nat_tests)

lower_line : (host : Text) → list_all is_host_byte host ≡ true → Clean (lower host)
lower_line [] e = refl
lower_line (b ∷ bs) e =
    let parts = both (is_host_byte b) (list_all is_host_byte bs) e in
    ap₂ (λ s t. s || t) (lower_byte b parts.0) (lower_line bs parts.1)

pub named_line : (w : PlainWho) → is_who w ≡ true → Clean (address_named w)
named_line w e =
    let fit : are_parts w.local w.host ≡ true = sym (who_parts w.local w.host) ∙ e in
    let hosts = (both _ (list_all is_host_byte w.host) fit).1 in
    clean_both w.local (64 ∷ lower w.host) (parts_allowed w.local w.host e).0 (lower_line w.host hosts)

-- the parts of a text before and after its last `@`
split_line : (text : Text) → Clean text → Clean (before_at (split_last 64 text)) × Clean (past_at (split_last 64 text))
split_line [] e = (refl, refl)
split_line (x ∷ xs) e = let parts = neither (x == 10) (has_byte 10 xs) e in go (x == 64) (split_last 64 xs) parts.0 parts.1 (split_line xs parts.1)
  where
    go : (t : Bool) (o : Option (Text × Text)) → (x == 10) ≡ false → Clean xs → Clean (before_at o) × Clean (past_at o)
        → Clean (before_at (onto_split x t xs o)) × Clean (past_at (onto_split x t xs o))
    go t (Some p) is rest both = (ap₂ (λ s t. s || t) is both.0, both.1)
    go true None is rest both = (refl, rest)
    go false None is rest both = (refl, refl)

-- cookies
letters_line : (bytes : List ℕ) → Clean (flat_map letters bytes)
letters_line [] = refl
letters_line (b ∷ bs) =
    one_more (97 + b / 16) ((97 + b % 16) ∷ flat_map letters bs) (omega arith) (one_more (97 + b % 16) (flat_map letters bs) (omega arith) (letters_line bs))

cookie_line : (key kind set : Text) (moment : ℕ) (what : Text) → Clean (cookie key kind set moment what)
unfolding cookie
cookie_line key kind set moment what = letters_line (take 10 (hmac key (cookie_message kind set moment what)))

front_line : (set : Set) → Clean (set_front set)
front_line sets.List = refl
front_line sets.Digest = refl
front_line sets.Allow = refl
front_line sets.Deny = refl
front_line sets.Moderators = refl

word_line : (word : Word) → Clean (word_text word)
word_line words.Sc = refl
word_line words.Tc = refl
word_line words.Uc = refl

ticket_line : (n : ℕ) (letters : Text) → Clean letters → Clean (ticket_text n letters)
ticket_line n letters clean = clean_both (decimal n) (46 ∷ letters) (decimal_clean n) clean

-- the list's own addresses that confirm
module _ (local host : Text) (l : Clean local) (h : Clean host) where
  around : (request : PlainRequest) → Clean (rest_text request) → Clean (request_text local host request)
  unfolding request_text
  around request clean = clean_both (local ++ rest_text request) (64 ∷ host) (clean_both local (rest_text request) l clean) h

  pub confirm_line : (word : Word) (set : Set) (time : ℕ) (key kind name : Text) (moment : ℕ) (what x : Text) → Clean x
      → Clean (request_text local host (Confirm word set (record { time = time; cookie = cookie key kind name moment what; who = record { local = local_of x; host = host_of x } })))
  confirm_line word set time key kind name moment what x clean =
      let c = cookie key kind name moment what in
      let parts = split_line x clean in
      let who : Clean (local_of x ++ 61 ∷ host_of x) = clean_both (local_of x) (61 ∷ host_of x) parts.0 parts.1 in
      let signed : Clean (ticket_text time c ++ 45 ∷ (local_of x ++ 61 ∷ host_of x)) =
      clean_both (ticket_text time c) (45 ∷ (local_of x ++ 61 ∷ host_of x)) (ticket_line time c (cookie_line key kind name moment what)) who in
      let front : Clean (codes "-" ++ set_front set) = front_line set in
      let word_there = clean_both (codes "-" ++ set_front set) (word_text word) front (word_line word) in
      let dot = clean_both (codes "-" ++ set_front set ++ word_text word) (codes ".") word_there refl in
      around (Confirm word set (record { time = time; cookie = c; who = record { local = local_of x; host = host_of x } }))
      (clean_both (codes "-" ++ set_front set ++ word_text word ++ codes ".") (signed_text (record { time = time; cookie = c; who = record { local = local_of x; host = host_of x } })) dot signed)

  pub accept_line : (ticket : ℕ) (key kind name : Text) (moment : ℕ) (what : Text) → Clean (request_text local host (Accept ticket (cookie key kind name moment what)))
  accept_line ticket key kind name moment what =
      let c = cookie key kind name moment what in
      around (Accept ticket c) (clean_both (codes "-accept-") (ticket_text ticket c) refl (ticket_line ticket c (cookie_line key kind name moment what)))

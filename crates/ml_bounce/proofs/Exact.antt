-- A file of a ledger is read as exactly the entries that it spells.
use Rattle.std.proofs.Common.{◌≡◌, ◌↔◌, ◌<◌, ◌≤◌, ◌^◌, ◌+◌, ℕ, Bool, true, false, cond, not, ◌==◌, ◌||◌, List, [], ◌∷◌, ◌++◌, length, Option, Some, None, refl, sym, ap, ap₂, ◌∙◌, subst, arith, append_assoc, append-nil, length-append, option_map}
use Rattle.std.specs.Prelude.{unwrap_or}
use Rattle.std.specs.Fmt.{decimal}
use Rattle.std.specs.Option.{option_and_then}
use Rattle.std.specs.Str.{bytes_eq}
use Rattle.std.proofs.lemmas.Bool.{eqb-true, eq-eqb, ltb-true, lt-ltb, leb-true, le-leb, false≢true, and_parts, and_from}
use Rattle.std.proofs.lemmas.Fmt.{length-decimal-le}
use Rattle.std.proofs.lemmas.Slice.Eq.{bytes_eq-Decides}
use Rattle.ml_base.specs.Address.{IsAddress}
use Rattle.ml_base.specs.Bytes.{Text, lower, is_empty}
use Rattle.ml_base.specs.Dir.{Dir}
use Rattle.ml_base.specs.declared.names.Name.{Name}
use Rattle.ml_base.specs.Netstrings.{ns, netstring_at}
use Rattle.ml_base.specs.Numbers.{moment_in}
use Rattle.ml_base.specs.Splits.{ns_row, AreShort}
use Rattle.ml_base.proofs.Addresses.{address_short}
use Rattle.ml_base.proofs.Netstrings.{netstring_written, netstring_read}
use Rattle.ml_rows.specs.Rows.{both_of, netstrings_at}
use Rattle.ml_rows.specs.Values.{address_in, comma_text, comma_numbers}
use Rattle.ml_rows.proofs.RowLaws.{one_some, none_some, only_read, only_there, made_read, both_read, both_there, netstrings_read, netstrings_written, four}
use Rattle.ml_rows.proofs.ValueLaws.{moment_read, moment_written, address_is, address_there, commas_read, commas_written, comma_length}
use Rattle.ml_bounce.specs.Files.{IsLedgerFile, IsEntry, bucket_of, content_text, entry_text, stage_text, is_stage, are_distinct}
use Rattle.ml_bounce.specs.Ledger.{Ledger, LedgerEntry, Stage, Unwarned, Warned, WarnFailed, Probed, entry_key, is_blank_at}
use Rattle.ml_keyed.proofs.Exact as keyed
use Rattle.ml_bounce.specs.Reading.{stage_of, key_in, entry_with, fits, entry_of_fields, entry_of_content, entry_at, ledger_of}

-- a stage is read as it is spelled
moment_range : (t : ℕ) → is_stage (Warned t) ≡ true → t < 253_402_300_800
moment_range t e = ltb-true t 253_402_300_800 e

ranged : (t : ℕ) → t < 253_402_300_800 → is_stage (Warned t) ≡ true
ranged t less = lt-ltb t 253_402_300_800 less

abbrev timed : (ℕ → Stage) → Text → Option Stage
timed make text = option_map make (moment_in text)

timed_read : (make : ℕ → Stage) (text : Text) (s : Stage) → timed make text ≡ Some s → (t : ℕ) × (t < 253_402_300_800) × (text ≡ decimal t) × (make t ≡ s)
timed_read make text s e =
    let made = made_read make (moment_in text) s e in
    let is = moment_read text made.0 made.1 in
    (made.0, is.0, is.1, made.2)

abbrev chosen : Text → Bool → Bool → Bool → Bool → Option Stage
chosen text a b c d =
    cond a (cond (is_empty text) (Some Unwarned) None) (cond b (timed (λ t. Warned t) text) (cond c (timed (λ t. WarnFailed t) text) (cond d (timed (λ t. Probed t) text) None)))

pub stage_read : (text : Text) (s : Stage) → stage_of text ≡ Some s → (is_stage s ≡ true) × (text ≡ stage_text s)
stage_read [] s e = absurd (none_some s e)
stage_read (letter ∷ text) s e = go (letter == 110) refl (letter == 119) refl (letter == 102) refl (letter == 112) refl e
  where
    first : (x : ℕ) → (letter == x) ≡ true → (rest : Text) → text ≡ rest → letter ∷ text ≡ x ∷ rest
    first x is rest same = ap₂ (λ (y : ℕ) (ys : Text). y ∷ ys) (eqb-true letter x is) same

    unwarned : (letter == 110) ≡ true → (t : Text) → text ≡ t → cond (is_empty t) (Some Unwarned) None ≡ Some s → (is_stage s ≡ true) × (letter ∷ text ≡ stage_text s)
    unwarned is [] same h = let this = one_some Unwarned s h in (ap is_stage (sym this), first 110 is [] same ∙ ap stage_text this)
    unwarned is (b ∷ bs) same h = absurd (none_some s h)

    go : (a : Bool) → (letter == 110) ≡ a → (b : Bool) → (letter == 119) ≡ b → (c : Bool) → (letter == 102) ≡ c → (d : Bool) → (letter == 112) ≡ d
        → stage_of (letter ∷ text) ≡ Some s → (is_stage s ≡ true) × (letter ∷ text ≡ stage_text s)
    go true i b j c k d l h = unwarned i text refl (sym (ap (λ x. chosen text x (letter == 119) (letter == 102) (letter == 112)) i) ∙ h)
    go false i true j c k d l h =
        let r = timed_read (λ t. Warned t) text s (sym (ap₂ (λ x y. chosen text x y (letter == 102) (letter == 112)) i j) ∙ h) in
        (ap is_stage (sym r.3) ∙ ranged r.0 r.1, first 119 j (decimal r.0) r.2 ∙ ap stage_text r.3)
    go false i false j true k d l h =
        let r = timed_read (λ t. WarnFailed t) text s (sym (ap₂ (λ x y. chosen text x y (letter == 102) (letter == 112)) i j ∙ ap (λ z. chosen text false false z (letter == 112)) k) ∙ h) in
        (ap is_stage (sym r.3) ∙ ranged r.0 r.1, first 102 k (decimal r.0) r.2 ∙ ap stage_text r.3)
    go false i false j false k true l h =
        let r = timed_read (λ t. Probed t) text s (sym (ap₂ (λ x y. chosen text x y (letter == 102) (letter == 112)) i j ∙ ap₂ (λ z w. chosen text false false z w) k l) ∙ h) in
        (ap is_stage (sym r.3) ∙ ranged r.0 r.1, first 112 l (decimal r.0) r.2 ∙ ap stage_text r.3)
    go false i false j false k false l h = absurd (none_some s (sym (ap₂ (λ x y. chosen text x y (letter == 102) (letter == 112)) i j ∙ ap₂ (λ z w. chosen text false false z w) k l) ∙ h))

pub stage_written : (s : Stage) → is_stage s ≡ true → stage_of (stage_text s) ≡ Some s
stage_written Unwarned e = refl
stage_written (Warned t) e = ap (option_map (λ t. Warned t)) (moment_written t (moment_range t e))
stage_written (WarnFailed t) e = ap (option_map (λ t. WarnFailed t)) (moment_written t (moment_range t e))
stage_written (Probed t) e = ap (option_map (λ t. Probed t)) (moment_written t (moment_range t e))

-- a key is read as it is spelled
pub key_read : (text k : Text) → key_in text ≡ Some k → (k ≡ text) × IsAddress k × (lower k ≡ k)
key_read text k e =
    let o = only_read (λ k. bytes_eq (lower k) k) (address_in text) k e in
    let is = address_is text k o.0 in
    (is.0, subst (λ (t : Text). IsAddress t) (sym is.0) is.1, (bytes_eq-Decides (lower k) k).0 o.1)

pub key_written : (k : Text) → IsAddress k → lower k ≡ k → key_in k ≡ Some k
key_written k is low = only_there (λ k. bytes_eq (lower k) k) (address_in k) k (address_there k is) ((bytes_eq-Decides (lower k) k).1 low)

-- how the values of an entry fit each other
first_test : (none zeroed : Bool) → (not none || zeroed) ≡ true → none ≡ true → zeroed ≡ true
first_test true zeroed e h = e
first_test false zeroed e h = absurd (false≢true h)

first_told : (none zeroed : Bool) → (none ≡ true → zeroed ≡ true) → (not none || zeroed) ≡ true
first_told true zeroed h = h refl
first_told false zeroed h = refl

pub not_false : (b : Bool) → not b ≡ true → b ≡ false
not_false true e = absurd (false≢true e)
not_false false e = refl

pub record Fits (n : ℕ) (e : LedgerEntry) : Type 0 where
  pub few : length e.missed ≤ 100
  pub distinct : are_distinct e.missed ≡ true
  pub no_first : is_empty e.missed ≡ true → e.first ≡ 0
  pub remembers : is_blank_at e.stage e.missed ≡ false
  pub hashed : bucket_of e.key ≡ n

fits_read : (n : ℕ) (e : LedgerEntry) → fits n e ≡ true → Fits n e
fits_read n e h =
    let a = and_parts _ _ h in
    let b = and_parts _ _ a.0 in
    let c = and_parts _ _ b.0 in
    let d = and_parts _ _ c.0 in
    record {
      few = leb-true (length e.missed) 100 d.0;
      distinct = d.1;
      no_first = λ none. eqb-true e.first 0 (first_test (is_empty e.missed) (e.first == 0) c.1 none);
      remembers = not_false (is_blank_at e.stage e.missed) b.1;
      hashed = eqb-true (bucket_of e.key) n a.1;
    }

fits_told : (n : ℕ) (e : LedgerEntry) → Fits n e → fits n e ≡ true
fits_told n e is =
    and_from _ _
    (and_from _ _ (and_from _ _ (and_from _ _ (le-leb (length e.missed) 100 is.few) is.distinct) (first_told (is_empty e.missed) (e.first == 0) (λ none. eq-eqb e.first 0 (is.no_first none)))) (ap not is.remembers))
    (eq-eqb (bucket_of e.key) n is.hashed)

-- the four texts of an entry
abbrev pub fields : LedgerEntry → List Text
fields e = e.key ∷ decimal e.first ∷ stage_text e.stage ∷ comma_text e.missed ∷ []

abbrev Values : Type 0
Values = Text × (ℕ × (Stage × List ℕ))

abbrev IsRead : ℕ → List Text → LedgerEntry → Type 0
IsRead n texts e = IsEntry n e × (texts ≡ fields e)

pub fields_read : (n : ℕ) (texts : List Text) (e : LedgerEntry) → entry_of_fields n texts ≡ Some e → IsEntry n e × (texts ≡ fields e)
fields_read n [] e h = absurd (none_some e h)
fields_read n (a ∷ []) e h = absurd (none_some e h)
fields_read n (a ∷ b ∷ []) e h = absurd (none_some e h)
fields_read n (a ∷ b ∷ c ∷ []) e h = absurd (none_some e h)
fields_read n (a ∷ b ∷ c ∷ d ∷ x ∷ xs) e h = absurd (none_some e h)
fields_read n (key ∷ first ∷ stage ∷ missed ∷ []) e h =
    let o = only_read (fits n) (option_map entry_with (both_of (key_in key) (both_of (moment_in first) (both_of (stage_of stage) (comma_numbers 99_999_999 missed))))) e h in
    let made = made_read entry_with (both_of (key_in key) (both_of (moment_in first) (both_of (stage_of stage) (comma_numbers 99_999_999 missed)))) e o.0 in
    let v : Values = made.0 in
    let p = both_read (key_in key) (both_of (moment_in first) (both_of (stage_of stage) (comma_numbers 99_999_999 missed))) v.0 v.1 made.1 in
    let q = both_read (moment_in first) (both_of (stage_of stage) (comma_numbers 99_999_999 missed)) (v.1).0 (v.1).1 p.1 in
    let r = both_read (stage_of stage) (comma_numbers 99_999_999 missed) ((v.1).1).0 ((v.1).1).1 q.1 in
    subst (λ x. IsRead n (key ∷ first ∷ stage ∷ missed ∷ []) x) made.2 (whole v p.0 q.0 r.0 r.1 (fits_read n (entry_with v) (ap (fits n) made.2 ∙ o.1)))
  where
    whole : (v : Values) → key_in key ≡ Some v.0 → moment_in first ≡ Some (v.1).0 → stage_of stage ≡ Some ((v.1).1).0 → comma_numbers 99_999_999 missed ≡ Some ((v.1).1).1 → Fits n (entry_with v)
        → IsRead n (key ∷ first ∷ stage ∷ missed ∷ []) (entry_with v)
    whole v p q r s is =
        let k = key_read key v.0 p in
        let m = moment_read first (v.1).0 q in
        let g = stage_read stage ((v.1).1).0 r in
        let c = commas_read 99_999_999 missed ((v.1).1).1 (omega arith) s in
        let entry : IsEntry n (entry_with v) = record {
          address = k.1;
          lowered = k.2;
          hashed = is.hashed;
          first = ranged (v.1).0 m.0;
          stage = g.0;
          few = is.few;
          missed = c.0;
          distinct = is.distinct;
          no_first = is.no_first;
          remembers = is.remembers;
        } in
        (entry, four key first stage missed v.0 (decimal (v.1).0) (stage_text ((v.1).1).0) (comma_text ((v.1).1).1) (sym k.0) m.1 g.1 c.1)

fits_entry : (n : ℕ) (e : LedgerEntry) → IsEntry n e → Fits n e
fits_entry n e is = record { few = is.few; distinct = is.distinct; no_first = is.no_first; remembers = is.remembers; hashed = is.hashed }

pub fields_written : (n : ℕ) (e : LedgerEntry) → IsEntry n e → entry_of_fields n (fields e) ≡ Some e
fields_written n e is =
    let values : both_of (key_in e.key) (both_of (moment_in (decimal e.first)) (both_of (stage_of (stage_text e.stage)) (comma_numbers 99_999_999 (comma_text e.missed)))) ≡ Some (e.key, (e.first, (e.stage, e.missed))) =
    both_there _ _ e.key (e.first, (e.stage, e.missed)) (key_written e.key is.address is.lowered)
    (both_there _ _ e.first (e.stage, e.missed) (moment_written e.first (moment_range e.first is.first))
    (both_there _ _ e.stage e.missed (stage_written e.stage is.stage) (commas_written 99_999_999 e.missed (omega arith) is.missed))) in
    only_there (fits n) (option_map entry_with (both_of (key_in e.key) (both_of (moment_in (decimal e.first)) (both_of (stage_of (stage_text e.stage)) (comma_numbers 99_999_999 (comma_text e.missed)))))) e
    (ap (option_map entry_with) values) (fits_told n e (fits_entry n e is))

-- how long these texts are
moment_length : (t : ℕ) → is_stage (Warned t) ≡ true → length (decimal t) ≤ 12
moment_length t e = let m = moment_range t e in length-decimal-le 12 t (omega arith) (omega (arith, m)) (omega (arith, m))

stage_length : (s : Stage) → is_stage s ≡ true → length (stage_text s) ≤ 13
stage_length Unwarned e = omega arith
stage_length (Warned t) e = let m = moment_length t e in omega (arith, m)
stage_length (WarnFailed t) e = let m = moment_length t e in omega (arith, m)
stage_length (Probed t) e = let m = moment_length t e in omega (arith, m)

pub record AreBounded (e : LedgerEntry) : Type 0 where
  pub key : length e.key ≤ 400
  pub first : length (decimal e.first) ≤ 12
  pub stage : length (stage_text e.stage) ≤ 13
  pub missed : length (comma_text e.missed) ≤ 900

pub bounded : (n : ℕ) (e : LedgerEntry) → IsEntry n e → AreBounded e
bounded n e is = record {
  key = address_short e.key is.address;
  first = moment_length e.first is.first;
  stage = stage_length e.stage is.stage;
  missed = let l = comma_length e.missed is.missed in let few = is.few in omega (arith, l, few);
}

ns_length : (x : Text) → length x < 10 ^ 6 → length (ns x) ≤ length x + 8
ns_length x small =
    let digits = length-decimal-le 6 (length x) (omega arith) small (omega (arith, small)) in
    omega (arith, digits, length-append (decimal (length x) ++ (58 ∷ x)) (44 ∷ []), length-append (decimal (length x)) (58 ∷ x))

-- an entry is short enough for a netstring
pub content_short : (n : ℕ) (e : LedgerEntry) → IsEntry n e → length (content_text e) < 10 ^ 18
content_short n e is =
    let b = bounded n e is in
    let k = b.key in let f = b.first in let s = b.stage in let m = b.missed in
    let one = ns_length e.key (omega (arith, k)) in
    let two = ns_length (decimal e.first) (omega (arith, f)) in
    let three = ns_length (stage_text e.stage) (omega (arith, s)) in
    let four = ns_length (comma_text e.missed) (omega (arith, m)) in
    omega (
      arith,
      one,
      two,
      three,
      four,
      k,
      f,
      s,
      m,
      length-append ((ns e.key ++ ns (decimal e.first)) ++ ns (stage_text e.stage)) (ns (comma_text e.missed)),
      length-append (ns e.key ++ ns (decimal e.first)) (ns (stage_text e.stage)),
      length-append (ns e.key) (ns (decimal e.first)),
    )

fields_short : (n : ℕ) (e : LedgerEntry) → IsEntry n e → AreShort (fields e)
fields_short n e is =
    let b = bounded n e is in
    let k = b.key in let f = b.first in let s = b.stage in let m = b.missed in
    (omega (arith, k), (omega (arith, f), (omega (arith, s), (omega (arith, m), tt))))

-- the content of an entry is the row of these texts
content_row : (e : LedgerEntry) → content_text e ≡ ns_row (fields e) ++ []
content_row e =
    let a = ns e.key in let b = ns (decimal e.first) in let c = ns (stage_text e.stage) in let d = ns (comma_text e.missed) in
    append_assoc (a ++ b) c d ∙ append_assoc a b (c ++ d) ∙ ap (λ t. a ++ (b ++ (c ++ t))) (sym (append-nil d)) ∙ sym (append-nil (ns_row (fields e)))

abbrev pub ended : ℕ → List Text × Text → Option LedgerEntry
ended n found = cond (is_empty found.1) (entry_of_fields n found.0) None

pub content_written : (n : ℕ) (e : LedgerEntry) → IsEntry n e → entry_of_content n (content_text e) ≡ Some e
content_written n e is =
    ap (λ t. option_and_then (ended n) (netstrings_at 4 t)) (content_row e)
    ∙ ap (option_and_then (ended n)) (netstrings_written (fields e) [] (fields_short n e is)) ∙ fields_written n e is

pub content_read : (n : ℕ) (text : Text) (e : LedgerEntry) → entry_of_content n text ≡ Some e → IsEntry n e × (text ≡ content_text e)
content_read n text e h = go (netstrings_at 4 text) refl
  where
    after : (texts : List Text) (rest : Text) → netstrings_at 4 text ≡ Some (texts, rest) → ended n (texts, rest) ≡ Some e → IsEntry n e × (text ≡ content_text e)
    after texts (b ∷ bs) found is = absurd (none_some e is)
    after texts [] found is =
        let entry = fields_read n texts e is in
        (entry.0, (netstrings_read 4 text texts [] found).2 ∙ ap (λ ts. ns_row ts ++ []) entry.1 ∙ sym (content_row e))

    go : (o : Option (List Text × Text)) → netstrings_at 4 text ≡ o → IsEntry n e × (text ≡ content_text e)
    go None found = absurd (none_some e (sym (ap (option_and_then (ended n)) found) ∙ h))
    go (Some p) found = after p.0 p.1 found (sym (ap (option_and_then (ended n)) found) ∙ h)

-- an entry at the beginning of a text
abbrev pub with_rest : ℕ → Text × Text → Option (LedgerEntry × Text)
with_rest n found = option_map (λ e. (e, found.1)) (entry_of_content n found.0)

abbrev found_entry : LedgerEntry → Text → LedgerEntry × Text
found_entry e rest = (e, rest)

pub entry_written : (n place : ℕ) (e : LedgerEntry) (rest : Text) → IsEntry n e → entry_at n place (entry_text e ++ rest) ≡ Some (e, rest)
entry_written n place e rest is =
    ap (option_and_then (with_rest n)) (netstring_written (content_text e) rest (content_short n e is)) ∙ ap (option_map (λ e. found_entry e rest)) (content_written n e is)

pub entry_read : (n place : ℕ) (text : Text) (e : LedgerEntry) (rest : Text) → entry_at n place text ≡ Some (e, rest) → IsEntry n e × (text ≡ entry_text e ++ rest)
entry_read n place text e rest h = go (netstring_at text) refl
  where
    beyond : (x after : Text) → netstring_at text ≡ Some (x, after) → with_rest n (x, after) ≡ Some (e, rest) → IsEntry n e × (text ≡ entry_text e ++ rest)
    beyond x after found is =
        let made = made_read (λ e. found_entry e after) (entry_of_content n x) (e, rest) is in
        let entry = content_read n x made.0 made.1 in
        let whole = (netstring_read text x after found).1 in
        let same : made.0 ≡ e = ap (λ (p : LedgerEntry × Text). p.0) made.2 in
        (subst (λ (a : LedgerEntry). IsEntry n a) same entry.0, whole ∙ ap (λ t. ns t ++ after) (entry.1 ∙ ap content_text same) ∙ ap (λ (p : LedgerEntry × Text). entry_text e ++ p.1) made.2)

    go : (o : Option (Text × Text)) → netstring_at text ≡ o → IsEntry n e × (text ≡ entry_text e ++ rest)
    go None found = absurd (none_some (found_entry e rest) (sym (ap (option_and_then (with_rest n)) found) ∙ h))
    go (Some p) found = beyond p.0 p.1 found (sym (ap (option_and_then (with_rest n)) found) ∙ h)

pub entry_some : (e : LedgerEntry) → 0 < length (entry_text e)
entry_some e = omega (arith, length-append (decimal (length (content_text e)) ++ (58 ∷ content_text e)) (44 ∷ []))

pub file_exact : (n : ℕ) (file : Option Text) (es : Ledger) → (ledger_of n (unwrap_or file []) ≡ Some es) ↔ IsLedgerFile n file es
file_exact = keyed.file_exact IsEntry entry_key entry_text entry_at entry_written entry_read entry_some

-- a file spells at most one row of entries
pub file_one : (n : ℕ) (file : Option Text) (es fs : Ledger) → IsLedgerFile n file es → IsLedgerFile n file fs → es ≡ fs
file_one = keyed.file_one IsEntry entry_key entry_text entry_at entry_written entry_read entry_some

-- a file that isn't read spells none
pub file_unread : (n : ℕ) (file : Option Text) (es : Ledger) → ledger_of n (unwrap_or file []) ≡ None → ¬ IsLedgerFile n file es
file_unread = keyed.file_unread IsEntry entry_key entry_text entry_at entry_written entry_read entry_some

-- a file of a directory that was read has these entries, and one that wasn't read has none
pub bucket_read : (dir : Dir) (name own : Name) (n : ℕ) (file : Option Text) (text : Text) (o : Option Ledger) (es : Ledger) → name ≡ own → file ≡ dir name → text ≡ unwrap_or file [] → o ≡ ledger_of n text → o ≡ Some es → IsLedgerFile n (dir own) es
bucket_read = keyed.there_read IsEntry entry_key entry_text entry_at entry_written entry_read entry_some

pub bucket_unread : (dir : Dir) (name own : Name) (n : ℕ) (file : Option Text) (text : Text) (o : Option Ledger) → name ≡ own → file ≡ dir name → text ≡ unwrap_or file [] → o ≡ ledger_of n text → o ≡ None → (es : Ledger) → ¬ IsLedgerFile n (dir own) es
bucket_unread = keyed.there_unread IsEntry entry_key entry_text entry_at entry_written entry_read entry_some

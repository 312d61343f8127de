-- How messages are rewritten, field by field, as the code does it.
use Rattle.std.proofs.Common.{◌≡◌, ℕ, zero, suc, ◌+◌, ◌-◌, ◌<◌, ◌≤◌, Bool, true, false, not, cond, ◌==◌, ◌&&◌, ◌||◌, nat_eq, List, [], ◌∷◌, ◌++◌, length, take, drop, Option, Some, None, is_some, codes, filter, find, unwrap_or, refl, sym, ap, ap₂, ◌∙◌, arith, append_assoc, length-append}
use Rattle.std.specs.List.{flat_map, ends_with}
use Rattle.std.specs.Option.{option_map, option_or}
use Rattle.std.specs.Str.{bytes_eq}
use Rattle.std.proofs.lemmas.Slice.Eq.{bytes_eq-Decides}
use Rattle.memchr.specs.Find.{OccursAt, FindsNeedle}
use Rattle.memchr.proofs.lemmas.MatchLemmas.{OccursAt-part, OccursAt-from_part}
use Rattle.ml_base.specs.Bytes.{Text, lower, is_empty}
use Rattle.ml_base.specs.Splits.{lines, split_first, onto_first}
use Rattle.ml_base.specs.Texts.{lf, with_line_end, with_last_line_end}
use Rattle.ml_base.proofs.Bools.{not_true}
use Rattle.ml_header.specs.Lines.{begins_with, begins_blank}
use Rattle.ml_header.specs.Fields.{FieldText, header_of, with_line, field_line, fields, field, body, has_name}
use Rattle.ml_header.specs.Unfolding.{unfolded_value}
use Rattle.ml_header.specs.Rewriting.{has_part, onto_names, names_from, all_names, names_of, is_among, spaced, with_prefix, prefix_first, prefixed, trailed, is_plain_text, is_base64}
use Rattle.ml_header.specs.Rewriting as words
use Rattle.ml_header.specs.Steps.{IsWhole, AreWhole, due_prefix, due_trailer, value_in, onto_value, with_due, here, later, with_first, sent_fields, with_trailer, kept_text}
use Rattle.ml_header.proofs.Headers.{field_line_is}
use Rattle.ml_base.proofs.SplitLaws.{first_read}

-- the names of a row, one by one
abbrev cut_names : Option (Text × Text) → Option (Text × List Text)
cut_names None = None
cut_names (Some parts) = Some (parts.0, names_of parts.1)

abbrev one_found : Text → List Text → Option (Text × List Text)
one_found name names = Some (name, names)

abbrev when_lf : ℕ → Text → Bool → Option (Text × Text) → Option (Text × Text)
when_lf x xs is found = cond is (Some ([], xs)) (onto_first x found)

abbrev when_name : ℕ → Bool → Option (Text × List Text) → Option (Text × List Text)
when_name b is None = cond is (Some ([], [])) None
when_name b is (Some found) = cond is (Some ([], found.0 ∷ found.1)) (Some (b ∷ found.0, found.1))

by_name : (b : ℕ) (o : Option (Text × List Text)) → onto_names b o ≡ when_name b (b == 10) o
by_name b None = refl
by_name b (Some found) = refl

names_cut : (row : Text) → names_from row ≡ cut_names (split_first 10 row)
names_cut [] = refl
names_cut (b ∷ bs) = by_name b (names_from bs) ∙ go (b == 10) (names_from bs) refl (split_first 10 bs) refl (names_cut bs)
  where
    go : (t : Bool) (o : Option (Text × List Text)) → names_from bs ≡ o → (s : Option (Text × Text)) → split_first 10 bs ≡ s
        → names_from bs ≡ cut_names (split_first 10 bs) → when_name b t (names_from bs) ≡ cut_names (when_lf b bs t (split_first 10 bs))
    go true None is s cut more = ap (when_name b true) is ∙ ap (λ o. one_found [] (all_names o)) (sym is)
    go true (Some found) is s cut more = ap (when_name b true) is ∙ ap (λ o. one_found [] (all_names o)) (sym is)
    go false o is None cut more = ap (when_name b false) (more ∙ ap cut_names cut) ∙ ap (λ s. cut_names (when_lf b bs false s)) (sym cut)
    go false o is (Some parts) cut more = ap (when_name b false) (more ∙ ap cut_names cut) ∙ ap (λ s. cut_names (when_lf b bs false s)) (sym cut)

pub names_next : (row name more : Text) → Some (name, more) ≡ split_first 10 row → names_of row ≡ name ∷ names_of more
names_next row name more cut = ap all_names (names_cut row ∙ ap cut_names (sym cut))

pub no_names : (row : Text) → None ≡ split_first 10 row → names_of row ≡ []
no_names row cut = ap all_names (names_cut row ∙ ap cut_names (sym cut))

pub among_next : (row name more : Text) (f : FieldText) → Some (name, more) ≡ split_first 10 row → is_among (names_of row) f ≡ (has_name name f || is_among (names_of more) f)
among_next row name more f cut = ap (λ ns. is_among ns f) (names_next row name more cut)

pub among_none : (row : Text) (f : FieldText) → None ≡ split_first 10 row → is_among (names_of row) f ≡ false
among_none row f cut = ap (λ ns. is_among ns f) (no_names row cut)

-- where a part begins in a text
front_true : (part text : Text) → take (length part) text ≡ part → begins_with part text ≡ true
front_true part text e = (bytes_eq-Decides part (take (length part) text)).1 (sym e)

pub found_at : (part text : Text) (k : ℕ) → k + length part ≤ length text → take (length part) (drop k text) ≡ part → has_part part text ≡ true
found_at [] [] k fits e = refl
found_at (p ∷ ps) [] k fits e = absurd (omega arith)
found_at part (b ∷ bs) zero fits e = ap (λ t. t || has_part part bs) (front_true part (b ∷ bs) e)
found_at part (b ∷ bs) (suc k) fits e = ap (λ t. begins_with part (b ∷ bs) || t) (found_at part bs k (omega arith) e) ∙ go (begins_with part (b ∷ bs))
  where
    go : (t : Bool) → (t || true) ≡ true
    go true = refl
    go false = refl

abbrev pub Stands : Text → Text → Type 0
Stands part text = (k : ℕ) × (k + length part ≤ length text) × (take (length part) (drop k text) ≡ part)

long_enough : (part text : Text) → take (length part) text ≡ part → length part ≤ length text
long_enough [] text e = omega arith
long_enough (p ∷ ps) [] e = absurd (let l = ap length e in omega (arith, l))
long_enough (p ∷ ps) (b ∷ bs) e = let l = long_enough ps bs (ap (drop 1) e) in omega (arith, l)

pub stands : (part text : Text) → has_part part text ≡ true → Stands part text
stands [] [] e = (0, omega arith, refl)
stands (p ∷ ps) [] e = absurd (let bad : false ≡ true = e in cc)
stands part (b ∷ bs) e = go (begins_with part (b ∷ bs)) refl (stands part bs)
  where
    go : (t : Bool) → begins_with part (b ∷ bs) ≡ t → (has_part part bs ≡ true → Stands part bs) → Stands part (b ∷ bs)
    go true is more = let same = sym ((bytes_eq-Decides part (take (length part) (b ∷ bs))).0 is) in let long = long_enough part (b ∷ bs) same in (0, omega (arith, long), same)
    go false is more =
        let rest = more (sym (ap (λ t. t || has_part part bs) is) ∙ e) in
        (suc rest.0, omega (arith, rest.1), rest.2)

pub found_part : (part text : Text) (k : ℕ) → OccursAt text part k → has_part part text ≡ true
found_part part text k at = found_at part text k at.fits (OccursAt-part text part k at)

pub no_part : (part text : Text) → ((k : ℕ) → 0 ≤ k → k < length text + 1 → ¬ OccursAt text part k) → has_part part text ≡ false
no_part part text none = not_true (has_part part text) (λ e.
    let at = stands part text e in
    none at.0 (omega arith) (omega (arith, at.1)) (OccursAt-from_part text part at.0 at.1 at.2))

-- a field's lines with a prefix
pub prefixed_text : (old name prefix s : Text) → (((old ++ name) ++ 58 ∷ 32 ∷ []) ++ prefix) ++ s ≡ old ++ (name ++ 58 ∷ (32 ∷ prefix ++ s))
prefixed_text old name prefix s = simp append_assoc

-- the end of a text is that of its last part
drop_past : (a b : Text) (k : ℕ) → drop (length a + k) (a ++ b) ≡ drop k b
drop_past [] b k = let e : 0 + k ≡ k = omega arith in ap (λ n. drop n b) e
drop_past (x ∷ xs) b k = let e : length (x ∷ xs) + k ≡ suc (length xs + k) = omega arith in ap (λ n. drop n (x ∷ (xs ++ b))) e ∙ drop_past xs b k

pub ends_after : (a b : Text) → 0 < length b → ends_with nat_eq (a ++ b) lf ≡ ends_with nat_eq b lf
ends_after a b some =
    let n : length (a ++ b) - 1 ≡ length a + (length b - 1) = omega (arith, length-append a b) in
    ap (λ t. bytes_eq lf t) (ap (λ n. drop n (a ++ b)) n ∙ drop_past a b (length b - 1))

abbrev ended : Text → Bool → Text
ended text is = cond is text (text ++ lf)

pub line_end_after : (a b : Text) → 0 < length b → with_line_end (a ++ b) ≡ a ++ with_line_end b
line_end_after a b some = ap (ended (a ++ b)) (ends_after a b some) ∙ go (ends_with nat_eq b lf)
  where
    go : (t : Bool) → ended (a ++ b) t ≡ a ++ ended b t
    go true = refl
    go false = append_assoc a b lf

pub some_lines : (due : Option Text) (f : FieldText) → IsWhole f → 0 < length (with_due due f).lines
some_lines None f e = omega (arith, ap length e, length-append f.name (58 ∷ f.value))
some_lines (Some prefix) f e =
    omega (arith, length-append f.name (58 ∷ (32 ∷ prefix ++ spaced f.value)))

pub ended_body : (old body text new : Text) → (length body == 0) ≡ false → text ≡ old ++ body → new ≡ with_line_end text → new ≡ old ++ with_last_line_end body
ended_body old [] text new some e f = absurd (let bad : true ≡ false = some in cc)
ended_body old (b ∷ bs) text new some e f = f ∙ ap with_line_end e ∙ line_end_after old (b ∷ bs) (omega arith)

-- whether a search found a part
pub is_found : (part text : Text) (r : Option ℕ) → FindsNeedle text part 0 r → is_some r ≡ has_part part text
is_found part text None none = sym (no_part part text none)
is_found part text (Some k) found = sym (found_part part text k found.1)

-- one field, and those after it
abbrev subject : Text
subject = codes "subject"

same_among : (names : List Text) (due : Option Text) (f : FieldText) → is_among names (with_due due f) ≡ is_among names f
same_among names None f = refl
same_among names (Some prefix) f = refl

abbrev put_field : FieldText → Text
put_field f = with_line_end f.lines

abbrev is_kept : Text → FieldText → Bool
is_kept remove f = not (is_among (names_of remove) f)

kept_next : (remove : Text) (due : Option Text) (f : FieldText) (fs : List FieldText)
    → sent_fields remove (with_due due f ∷ fs) ≡ kept_text remove due f ++ sent_fields remove fs
kept_next remove due f fs = ap (λ t. flat_map put_field (cond (not t) (with_due due f ∷ filter (is_kept remove) fs) (filter (is_kept remove) fs))) (same_among (names_of remove) due f) ∙ go (is_among (names_of remove) f)
  where
    go : (t : Bool) → flat_map put_field (cond (not t) (with_due due f ∷ filter (is_kept remove) fs) (filter (is_kept remove) fs))
        ≡ cond t [] (with_line_end (with_due due f).lines) ++ sent_fields remove fs
    go true = refl
    go false = refl

pub sent_next : (remove : Text) (due : Option Text) (f : FieldText) (fs : List FieldText)
    → sent_fields remove (with_first due (f ∷ fs)) ≡ kept_text remove (here due f) f ++ sent_fields remove (with_first (later due f) fs)
sent_next remove due f fs = kept_next remove (here due f) f (with_first (later due f) fs)

-- a value that was found is kept, and a later one looked for only while none was
pub value_next : (name : Text) (found : Option Text) (f : FieldText) (fs : List FieldText)
    → option_or (onto_value name found f) (value_in name fs) ≡ option_or found (value_in name (f ∷ fs))
value_next name (Some value) f fs = refl
value_next name None f fs = go (has_name name f)
  where
    go : (t : Bool) → option_or (cond t (Some f.value) None) (value_in name fs) ≡ option_map (λ g. g.value) (cond t (Some f) (find (has_name name) fs))
    go true = refl
    go false = refl

-- one step over the fields
pub value_turn : (name : Text) (found next : Option Text) (f : FieldText) (fs all : List FieldText) (v : Option Text)
    → all ≡ f ∷ fs → next ≡ onto_value name found f → option_or found (value_in name all) ≡ v → option_or next (value_in name fs) ≡ v
value_turn name found next f fs all v is then e =
    ap (λ o. option_or o (value_in name fs)) then ∙ value_next name found f fs ∙ ap (λ l. option_or found (value_in name l)) (sym is) ∙ e

pub text_turn : (remove old new v : Text) (due rest : Option Text) (f : FieldText) (fs all : List FieldText)
    → all ≡ f ∷ fs → new ≡ old ++ kept_text remove (here due f) f → rest ≡ later due f → old ++ sent_fields remove (with_first due all) ≡ v
    → new ++ sent_fields remove (with_first rest fs) ≡ v
text_turn remove old new v due rest f fs all is put left e =
    ap₂ (λ t r. t ++ sent_fields remove (with_first r fs)) put left
    ∙ append_assoc old (kept_text remove (here due f) f) (sent_fields remove (with_first (later due f) fs))
    ∙ ap (λ t. old ++ t) (sym (sent_next remove due f fs))
    ∙ ap (λ l. old ++ sent_fields remove (with_first due l)) (sym is) ∙ e

-- the fields of a message are whole
whole_field : (line : Text) (parts : Text × Text) (loose : Text) → field_line line ≡ Some parts → line ++ loose ≡ parts.0 ++ 58 ∷ (parts.1 ++ loose)
whole_field line parts loose is =
    ap (λ l. l ++ loose) (first_read 58 line parts.0 parts.1 (field_line_is line parts.0 parts.1 is).0).0 ∙ append_assoc parts.0 (58 ∷ parts.1) loose

header_whole : (ls : List Text) → AreWhole (header_of ls).fields
header_whole [] = tt
header_whole (line ∷ more) = go (begins_blank line) (field_line line) refl (header_whole more)
  where
    go : (b : Bool) (o : Option (Text × Text)) → field_line line ≡ o → AreWhole (header_of more).fields → AreWhole (with_line line more b o (header_of more)).fields
    go true o is rest = rest
    go false (Some parts) is rest = (whole_field line parts (header_of more).loose is, rest)
    go false None is rest = tt

pub fields_whole : (m : Text) → AreWhole (fields m)
fields_whole m = go (is_empty (header_of (lines m)).loose)
  where
    go : (t : Bool) → AreWhole (cond t (header_of (lines m)).fields [])
    go true = header_whole (lines m)
    go false = tt

-- the steps together do the whole
none_first : (fs : List FieldText) → with_first None fs ≡ fs
none_first [] = refl
none_first (f ∷ fs) = ap (λ t. f ∷ t) (none_first fs)

-- the unfolded subject of fields, or nothing if there is none
abbrev subject_in : Option FieldText → Text
subject_in found = unwrap_or (option_map (λ f. unfolded_value f.value) found) []

abbrev by_subject : Bool → Text → List FieldText → List FieldText
by_subject has prefix fs = cond has fs (prefix_first subject prefix fs)

first_is : (prefix : Text) (fs : List FieldText) → with_first (Some prefix) fs ≡ by_subject (has_part (lower prefix) (lower (subject_in (find (has_name subject) fs)))) prefix fs
first_is prefix [] = go (has_part (lower prefix) [])
  where
    go : (t : Bool) → [] ≡ by_subject t prefix []
    go true = refl
    go false = refl
first_is prefix (f ∷ fs) = go (has_name subject f) (first_is prefix fs)
  where
    named : (h : Bool) → with_due (cond h None (Some prefix)) f ∷ with_first None fs ≡ cond h (f ∷ fs) (with_prefix prefix f ∷ fs)
    named true = ap (λ t. f ∷ t) (none_first fs)
    named false = ap (λ t. with_prefix prefix f ∷ t) (none_first fs)

    unnamed : (h : Bool) → with_first (Some prefix) fs ≡ by_subject h prefix fs → f ∷ with_first (Some prefix) fs ≡ cond h (f ∷ fs) (f ∷ prefix_first subject prefix fs)
    unnamed true more = ap (λ t. f ∷ t) more
    unnamed false more = ap (λ t. f ∷ t) more

    go : (t : Bool) → with_first (Some prefix) fs ≡ by_subject (has_part (lower prefix) (lower (subject_in (find (has_name subject) fs)))) prefix fs
        → with_due (cond t (due_prefix prefix f.value) None) f ∷ with_first (cond t None (Some prefix)) fs
        ≡ cond (has_part (lower prefix) (lower (subject_in (cond t (Some f) (find (has_name subject) fs))))) (f ∷ fs) (cond t (with_prefix prefix f ∷ fs) (f ∷ prefix_first subject prefix fs))
    go true more = named (has_part (lower prefix) (lower (unfolded_value f.value)))
    go false more = unnamed (has_part (lower prefix) (lower (subject_in (find (has_name subject) fs)))) more

due_fields : (prefix : Option Text) (m : Text) → with_first prefix (fields m) ≡ prefixed prefix m
due_fields None m = none_first (fields m)
due_fields (Some prefix) m = first_is prefix (fields m)

value_unfolded : (o : Option FieldText) → option_map unfolded_value (option_map (λ f. f.value) o) ≡ option_map (λ f. unfolded_value f.value) o
value_unfolded None = refl
value_unfolded (Some f) = refl

due_body : (trailer : Option Text) (m : Text) → with_trailer (due_trailer trailer (value_in (codes "content-type") (fields m)) (value_in (codes "content-transfer-encoding") (fields m))) (body m) ≡ trailed trailer m
due_body None m = refl
due_body (Some trailer) m =
    ap₂ (λ plain base64. with_trailer (cond (plain && not base64) (Some trailer) None) (body m))
    (ap (λ o. begins_with (codes "text/plain") (lower (unwrap_or o (codes "text/plain")))) (value_unfolded (field (codes "content-type") m)))
    (ap (λ o. bytes_eq (lower (unwrap_or o [])) (codes "base64")) (value_unfolded (field (codes "content-transfer-encoding") m)))
    ∙ go (is_plain_text m && not (is_base64 m))
  where
    go : (t : Bool) → with_trailer (cond t (Some trailer) None) (body m) ≡ cond t (with_last_line_end (body m) ++ trailer) (body m)
    go true = refl
    go false = refl

pub all_steps : (m remove add : Text) (prefix trailer kind encoding last : Option Text) (fs : List FieldText) (rest : Text)
    → fs ≡ fields m → kind ≡ value_in (codes "content-type") fs → encoding ≡ value_in (codes "content-transfer-encoding") fs
    → last ≡ due_trailer trailer kind encoding → rest ≡ body m
    → ((add ++ sent_fields remove (with_first prefix fs)) ++ 10 ∷ []) ++ with_trailer last rest ≡ words.rewritten m remove add prefix trailer
all_steps m remove add prefix trailer kind encoding last fs rest a b c d e =
    ap₂ (λ f t. ((add ++ sent_fields remove f) ++ 10 ∷ []) ++ t)
    (ap (with_first prefix) a ∙ due_fields prefix m)
    (ap₂ (λ t r. with_trailer t r) (d ∙ ap₂ (λ k n. due_trailer trailer k n) (b ∙ ap (value_in (codes "content-type")) a) (c ∙ ap (value_in (codes "content-transfer-encoding")) a)) e ∙ due_body trailer m)

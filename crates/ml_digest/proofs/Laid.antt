-- What a digest has of a message is whole lines, none of which is the rule after messages.
use Rattle.std.proofs.Common.{◌≡◌, ◌≢◌, ◌<◌, ℕ, Bool, true, false, cond, not, ◌==◌, ◌&&◌, ◌||◌, nat_eq, List, [], ◌∷◌, ◌++◌, length, filter, take, drop, get_or, refl, sym, ap, ap₂, ◌∙◌, subst, arith, append_assoc, append-nil, length-append, slice_index_or, codes, ◌⊎◌, inl, inr}
use Rattle.std.specs.Prelude.{replicate}
use Rattle.std.specs.Cmp.Lexicographic.{pointwise}
use Rattle.std.specs.List.{AllByRecursion, flat_map, ends_with, list_all}
use Rattle.std.specs.Char.{to_ascii_lowercase}
use Rattle.std.specs.Str.{bytes_eq}
use Rattle.std.proofs.lemmas.Bool.{eqb-true, eqb-false, ne_eqb}
use Rattle.std.proofs.lemmas.Bool.Decides.{nat_tests}
use Rattle.std.proofs.lemmas.Grind.{flat_map-append}
use Rattle.std.proofs.lemmas.Slice.Eq.{bytes_eq-Decides}
use Rattle.ml_base.specs.Bytes.{Text, lower, is_empty}
use Rattle.ml_base.specs.Splits.{has_byte, lines, onto_line}
use Rattle.ml_base.specs.Texts.{lf, lines_text, with_line_end, with_last_line_end}
use Rattle.ml_base.proofs.Bools.{both, neither}
use Rattle.ml_header.specs.Fields.{FieldText, fields, body, fields_named, has_name, is_printable, is_name}
use Rattle.ml_header.specs.Forms.{IsField, IsMadeOf, is_folded}
use Rattle.ml_header.specs.Lines.{begins_blank, begins_with}
use Rattle.ml_header.proofs.ReadForm.{read_all}
use Rattle.ml_header.proofs.Rewrites.{ends_after, line_end_after}
use Rattle.ml_header.proofs.SentLaw.{end_when}
use Rattle.ml_digest.specs.Burst.{IsLine, HaveNo, IsMessage}
use Rattle.ml_digest.specs.Digest.{message_rule, quoted_line, kept_names, kept_fields, message_text}

-- a text of whole lines, none of which is the rule
pub record Laid (text : Text) : Type 0 where
  pub rows : List Text
  pub each : AllByRecursion IsLine rows
  pub rule : HaveNo message_rule rows
  pub whole : text ≡ lines_text rows

pub all_both : (P : Text → Type 0) (xs ys : List Text) → AllByRecursion P xs → AllByRecursion P ys → AllByRecursion P (xs ++ ys)
all_both P [] ys a b = b
all_both P (x ∷ xs) ys a b = (a.0, all_both P xs ys a.1 b)

pub lines_both : (xs ys : List Text) → lines_text (xs ++ ys) ≡ lines_text xs ++ lines_text ys
lines_both xs ys = flat_map-append (λ (line : Text). line ++ lf) xs ys

laid_none : Laid []
laid_none = record { rows = []; each = tt; rule = tt; whole = refl }

laid_both : (a b : Text) → Laid a → Laid b → Laid (a ++ b)
laid_both a b is also = record {
  rows = is.rows ++ also.rows;
  each = all_both IsLine is.rows also.rows is.each also.each;
  rule = all_both (λ line. line ≢ message_rule) is.rows also.rows is.rule also.rule;
  whole = ap₂ (λ (s t : Text). s ++ t) is.whole also.whole ∙ sym (lines_both is.rows also.rows);
}

laid_line : (line : Text) → IsLine line → line ≢ message_rule → Laid (line ++ lf)
laid_line line is other = record { rows = line ∷ []; each = (is, tt); rule = (other, tt); whole = sym (append-nil (line ++ lf)) }

-- a line whose first byte is no hyphen isn't the rule
no_hyphen : (line : Text) → get_or line 0 0 ≢ 45 → line ≢ message_rule
no_hyphen line other same = other (ap (λ (t : Text). get_or t 0 0) same)

pub has_both : (byte : ℕ) (a b : Text) → has_byte byte a ≡ false → has_byte byte b ≡ false → has_byte byte (a ++ b) ≡ false
has_both byte [] b p q = q
has_both byte (x ∷ xs) b p q = let parts = neither (x == byte) (has_byte byte xs) p in ap₂ (λ s t. s || t) parts.0 (has_both byte xs b parts.1 q)

-- a text without an LF doesn't end in one
ends_not : (x : ℕ) (xs : Text) → has_byte 10 (x ∷ xs) ≡ false → ends_with nat_eq (x ∷ xs) lf ≡ false
ends_not x [] e = let parts = neither (x == 10) false e in go (x == 10) refl parts.0
  where
    go : (t : Bool) → (x == 10) ≡ t → (x == 10) ≡ false → ends_with nat_eq (x ∷ []) lf ≡ false
    go t is other = ap (λ b. b && true) (ne_eqb 10 x (λ same. eqb-false x 10 other (sym same)))
ends_not x (y ∷ ys) e = ends_after (x ∷ []) (y ∷ ys) (omega arith) ∙ ends_not y ys (neither (x == 10) (has_byte 10 (y ∷ ys)) e).1

pub ended_line : (x : ℕ) (xs : Text) → has_byte 10 (x ∷ xs) ≡ false → with_line_end (x ∷ xs) ≡ (x ∷ xs) ++ lf
ended_line x xs e = ap (end_when (x ∷ xs)) (ends_not x xs e)

ended_already : (t : Text) → with_line_end (t ++ lf) ≡ t ++ lf
ended_already t = line_end_after t lf (omega arith)

-- a line with a folded value after it
folded_laid : (x : ℕ) (xs v : Text) → x ≢ 45 → has_byte 10 (x ∷ xs) ≡ false → is_folded v ≡ true → Laid (with_line_end ((x ∷ xs) ++ v))
folded_laid x xs [] other line fold =
    subst (λ t. Laid t) (sym (ap with_line_end (append-nil (x ∷ xs)) ∙ ended_line x xs line)) (laid_line (x ∷ xs) line (no_hyphen (x ∷ xs) other))
folded_laid x xs (b ∷ []) other line fold = go (b == 10) refl
  where
    go : (t : Bool) → (b == 10) ≡ t → Laid (with_line_end ((x ∷ xs) ++ b ∷ []))
    go true is =
        let same : 10 ≡ b = sym (eqb-true b 10 is) in
        subst (λ (c : ℕ). Laid (with_line_end ((x ∷ xs) ++ c ∷ []))) same (subst (λ t. Laid t) (sym (ended_already (x ∷ xs))) (laid_line (x ∷ xs) line (no_hyphen (x ∷ xs) other)))
    go false is =
        let more : has_byte 10 ((x ∷ xs) ++ b ∷ []) ≡ false = has_both 10 (x ∷ xs) (b ∷ []) line (ap (λ t. t || false) is) in
        subst (λ t. Laid t) (sym (ended_line x (xs ++ b ∷ []) more)) (laid_line ((x ∷ xs) ++ b ∷ []) more (no_hyphen ((x ∷ xs) ++ b ∷ []) other))
folded_laid x xs (b ∷ y ∷ ys) other line fold =
    go (b == 10) refl (both (not (b == 10) || false || begins_blank (y ∷ ys)) (is_folded (y ∷ ys)) fold)
    (λ p q r. folded_laid y [] ys p q r) (λ p q. folded_laid x (xs ++ b ∷ []) (y ∷ ys) other p q)
  where
    blank : begins_blank (y ∷ ys) ≡ true → (y ≢ 45) × (has_byte 10 (y ∷ []) ≡ false)
    blank is = go (y == 32) refl (y == 9) refl
      where
        go : (s : Bool) → (y == 32) ≡ s → (t : Bool) → (y == 9) ≡ t → (y ≢ 45) × (has_byte 10 (y ∷ []) ≡ false)
        go true a t b = let e = eqb-true y 32 a in (λ f. omega (arith, e, f), ap (λ t. t || false) (ne_eqb y 10 (λ f. omega (arith, e, f))))
        go false a true b = let e = eqb-true y 9 b in (λ f. omega (arith, e, f), ap (λ t. t || false) (ne_eqb y 10 (λ f. omega (arith, e, f))))
        go false a false b = absurd (let one = ne_eqb 32 y (λ f. eqb-false y 32 a (sym f)) in let two = ne_eqb 9 y (λ f. eqb-false y 9 b (sym f)) in let bad : true ≡ false = sym is ∙ ap₂ (λ s t. (s && true) || (t && true)) one two in cc)

    rest_folded : is_folded (y ∷ ys) ≡ true → is_folded ys ≡ true
    rest_folded e = (both (not (y == 10) || is_empty ys || begins_blank ys) (is_folded ys) e).1

    go : (t : Bool) → (b == 10) ≡ t → ((not (b == 10) || false || begins_blank (y ∷ ys)) ≡ true) × (is_folded (y ∷ ys) ≡ true)
        → (y ≢ 45 → has_byte 10 (y ∷ []) ≡ false → is_folded ys ≡ true → Laid (with_line_end ((y ∷ []) ++ ys)))
        → (has_byte 10 (x ∷ (xs ++ b ∷ [])) ≡ false → is_folded (y ∷ ys) ≡ true → Laid (with_line_end ((x ∷ (xs ++ b ∷ [])) ++ y ∷ ys)))
        → Laid (with_line_end ((x ∷ xs) ++ b ∷ y ∷ ys))
    go true is parts next same_line =
        let after : begins_blank (y ∷ ys) ≡ true = sym (ap (λ t. not t || false || begins_blank (y ∷ ys)) is) ∙ parts.0 in
        let first = blank after in
        let second = next first.0 first.1 (rest_folded parts.1) in
        let ten : 10 ≡ b = sym (eqb-true b 10 is) in
        let split : with_line_end ((x ∷ xs) ++ 10 ∷ y ∷ ys) ≡ ((x ∷ xs) ++ lf) ++ with_line_end (y ∷ ys) =
        ap with_line_end (sym (append_assoc (x ∷ xs) lf (y ∷ ys))) ∙ line_end_after ((x ∷ xs) ++ lf) (y ∷ ys) (omega arith) in
        subst (λ (c : ℕ). Laid (with_line_end ((x ∷ xs) ++ c ∷ y ∷ ys))) ten
        (subst (λ t. Laid t) (sym split) (laid_both ((x ∷ xs) ++ lf) (with_line_end (y ∷ ys)) (laid_line (x ∷ xs) line (no_hyphen (x ∷ xs) other)) second))
    go false is parts next same_line =
        subst (λ t. Laid (with_line_end t)) (append_assoc (x ∷ xs) (b ∷ []) (y ∷ ys)) (same_line (has_both 10 (x ∷ xs) (b ∷ []) line (ap (λ t. t || false) is)) parts.1)

-- the names of fields have no LF
printable_no_lf : (name : Text) → list_all is_printable name ≡ true → has_byte 10 name ≡ false
printable_no_lf [] e = refl
printable_no_lf (b ∷ bs) e = let parts = both (is_printable b) (list_all is_printable bs) e in ap₂ (λ s t. s || t) (other parts.0) (printable_no_lf bs parts.1)
  where
    other : is_printable b ≡ true → (b == 10) ≡ false
    other h = grind (arith, nat_tests)

-- a name that begins with neither a hyphen nor an e, in lower case
abbrev is_apart : Text → Bool
is_apart name = not (get_or name 0 0 == 45) && not (get_or name 0 0 == 101)

not_hyphen : (x y : ℕ) → to_ascii_lowercase x ≡ y → (not (y == 45) && not (y == 101)) ≡ true → (x ≢ 45) × (x ≢ 69)
not_hyphen x y e h = (
  λ same. let is : 45 ≡ y = ap to_ascii_lowercase (sym same) ∙ e in let bad : false ≡ true = ap (λ z. not (z == 45) && not (z == 101)) is ∙ h in absurd (cc),
  λ same. let is : 101 ≡ y = ap to_ascii_lowercase (sym same) ∙ e in let bad : false ≡ true = ap (λ z. not (z == 45) && not (z == 101)) is ∙ h in absurd (cc),
)

-- the first byte of a field that a digest keeps
first_apart : (name : Text) (x : ℕ) (xs : Text) → lower name ≡ name → is_apart name ≡ true → bytes_eq (lower (x ∷ xs)) (lower name) ≡ true → (x ≢ 45) × (x ≢ 69)
first_apart name x xs low apart same =
    let is : to_ascii_lowercase x ∷ lower xs ≡ name = (bytes_eq-Decides (lower (x ∷ xs)) (lower name)).0 same ∙ low in
    not_hyphen x (get_or name 0 0) (ap (λ (t : Text). get_or t 0 0) is) apart

-- a text that is laid, and doesn't begin with an E
pub record Begun (text : Text) : Type 0 where
  pub laid : Laid text
  pub first : get_or text 0 0 ≢ 69

begun_none : Begun []
begun_none = record { laid = laid_none; first = λ e. omega (arith, e) }

begun_both : (a b : Text) → Begun a → Begun b → Begun (a ++ b)
begun_both [] b is also = also
begun_both (x ∷ xs) b is also = record { laid = laid_both (x ∷ xs) b is.laid also.laid; first = is.first }

first_kept : (t rest : Text) → 0 < length t → get_or (with_line_end t) 0 0 ≡ get_or t 0 0
first_kept [] rest some = absurd (omega (arith, some))
first_kept (x ∷ xs) rest some = go (ends_with nat_eq (x ∷ xs) lf)
  where
    go : (s : Bool) → get_or (end_when (x ∷ xs) s) 0 0 ≡ x
    go true = refl
    go false = refl

field_begun : (name : Text) (f : FieldText) → lower name ≡ name → is_apart name ≡ true → IsField f → has_name name f ≡ true → Begun (with_line_end f.lines)
field_begun name f low apart is named = go f.name refl
  where
    go : (n : Text) → f.name ≡ n → Begun (with_line_end f.lines)
    go [] e = absurd (let bad : false ≡ true = sym (ap (λ (n : Text). is_name n) e) ∙ is.named in cc)
    go (x ∷ xs) e =
        let printed = (both (not (is_empty f.name)) (list_all is_printable f.name) is.named).1 in
        let no_lf : has_byte 10 (x ∷ xs) ≡ false = printable_no_lf (x ∷ xs) (sym (ap (list_all is_printable) e) ∙ printed) in
        let first = first_apart name x xs low apart (sym (ap (λ (n : Text). bytes_eq (lower n) (lower name)) e) ∙ named) in
        let whole : f.lines ≡ ((x ∷ xs) ++ 58 ∷ []) ++ f.value = is.whole ∙ ap (λ (n : Text). n ++ 58 ∷ f.value) e ∙ sym (append_assoc (x ∷ xs) (58 ∷ []) f.value) in
        let laid = folded_laid x (xs ++ 58 ∷ []) f.value first.0 (has_both 10 (x ∷ xs) (58 ∷ []) no_lf refl) is.folded in
        record {
          laid = subst (λ t. Laid (with_line_end t)) (sym whole) laid;
          first = λ same. first.1 (sym (ap (λ t. get_or (with_line_end t) 0 0) whole ∙ first_kept (((x ∷ xs) ++ 58 ∷ []) ++ f.value) [] (omega arith)) ∙ same);
        }

named_begun : (name : Text) (fs : List FieldText) → lower name ≡ name → is_apart name ≡ true → AllByRecursion IsField fs → Begun (flat_map (λ (f : FieldText). with_line_end f.lines) (filter (has_name name) fs))
named_begun name [] low apart all = begun_none
named_begun name (f ∷ fs) low apart all = go (has_name name f) refl (named_begun name fs low apart all.1)
  where
    go : (t : Bool) → has_name name f ≡ t → Begun (flat_map (λ (f : FieldText). with_line_end f.lines) (filter (has_name name) fs))
        → Begun (flat_map (λ (f : FieldText). with_line_end f.lines) (cond t (f ∷ filter (has_name name) fs) (filter (has_name name) fs)))
    go true is more = begun_both (with_line_end f.lines) (flat_map (λ (f : FieldText). with_line_end f.lines) (filter (has_name name) fs)) (field_begun name f low apart all.0 is) more
    go false is more = more

message_fields : (m : Text) → AllByRecursion IsField (fields m)
message_fields m = go (read_all m)
  where
    none : (fs : List FieldText) → fs ≡ [] → AllByRecursion IsField fs
    none [] e = tt
    none (f ∷ fs) e = absurd (let n = ap length e in omega (arith, n))

    go : IsMadeOf m (fields m) (body m) → AllByRecursion IsField (fields m)
    go (inl made) = made.are_fields
    go (inr all) = none (fields m) all.no_fields

abbrev AreApart : List Text → Type 0
AreApart names = AllByRecursion (λ name. (lower name ≡ name) × (is_apart name ≡ true)) names

all_begun : (m : Text) (names : List Text) → AreApart names → Begun (flat_map (λ name. flat_map (λ f. with_line_end f.lines) (fields_named name m)) names)
all_begun m [] all = begun_none
all_begun m (name ∷ names) all =
    begun_both (flat_map (λ f. with_line_end f.lines) (fields_named name m)) (flat_map (λ name. flat_map (λ f. with_line_end f.lines) (fields_named name m)) names)
    (named_begun name (fields m) (all.0).0 (all.0).1 (message_fields m)) (all_begun m names all.1)

pub kept_begun : (m : Text) → Begun (kept_fields m)
kept_begun m = all_begun m kept_names ((refl, refl), ((refl, refl), ((refl, refl), ((refl, refl), ((refl, refl), ((refl, refl), ((refl, refl), ((refl, refl), tt))))))))

-- lines as a text is made of them: each ends in an LF, except for the last one, which isn't empty
abbrev Ended : Text → Type 0
Ended line = (text : Text) × IsLine text × (line ≡ text ++ lf)

abbrev Open : Text → Type 0
Open line = IsLine line × (0 < length line)

abbrev AreRows : List Text → Type 0
AreRows [] = Unit {0}
AreRows (line ∷ []) = Ended line ⊎ Open line
AreRows (line ∷ more ∷ others) = Ended line × AreRows (more ∷ others)

text_rows : (t : Text) → AreRows (lines t)
text_rows [] = tt
text_rows (b ∷ bs) = go (b == 10) refl (lines bs) (text_rows bs)
  where
    first : (b == 10) ≡ true → Ended (b ∷ [])
    first is = ([], refl, ap (λ (c : ℕ). c ∷ []) (eqb-true b 10 is))

    onto : (b == 10) ≡ false → (line : Text) → Ended line → Ended (b ∷ line)
    onto is line ended = (b ∷ ended.0, ap₂ (λ s t. s || t) is ended.1, ap (λ t. b ∷ t) ended.2)

    go : (t : Bool) → (b == 10) ≡ t → (ls : List Text) → AreRows ls → AreRows (cond t ((b ∷ []) ∷ ls) (onto_line b ls))
    go true is [] rows = inl (first is)
    go true is (l ∷ ls) rows = (first is, rows)
    go false is [] rows = inr (ap (λ t. t || false) is, omega arith)
    go false is (l ∷ []) (inl ended) = inl (onto is l ended)
    go false is (l ∷ []) (inr opened) = inr (ap₂ (λ s t. s || t) is opened.0, omega arith)
    go false is (l ∷ k ∷ ls) rows = (onto is l rows.0, rows.1)

-- a text that is one line, and not the rule
record Row (text : Text) : Type 0 where
  pub line : Text
  pub is : IsLine line
  pub other : line ≢ message_rule
  pub whole : text ≡ line ++ lf

row_laid : (text : Text) → Row text → Laid text
row_laid text row = subst (λ t. Laid t) (sym row.whole) (laid_line row.line row.is row.other)

has_lf : (t : Text) → has_byte 10 (t ++ lf) ≡ true
has_lf [] = refl
has_lf (x ∷ xs) = ap (λ b. (x == 10) || b) (has_lf xs) ∙ or_true (x == 10)
  where
    or_true : (b : Bool) → (b || true) ≡ true
    or_true true = refl
    or_true false = refl

abbrev quote_when : Text → Bool → Text
quote_when line is = cond is (32 ∷ drop 1 line) line

-- the rule with a space in place of its first hyphen
abbrev blunted : Text
blunted = 32 ∷ replicate 29 45

blunted_other : blunted ≢ message_rule
blunted_other = no_hyphen blunted (λ e. omega (arith, e))

-- a line that is quoted isn't the rule
quoted_ended : (line : Text) → Ended line → Row (quoted_line line)
quoted_ended line is = go (bytes_eq line message_rule) refl (bytes_eq line (message_rule ++ lf)) refl
  where
    go : (s : Bool) → bytes_eq line message_rule ≡ s → (t : Bool) → bytes_eq line (message_rule ++ lf) ≡ t → Row (quote_when line (bytes_eq line message_rule || bytes_eq line (message_rule ++ lf)))
    go true d t e =
        let same : is.0 ++ lf ≡ message_rule = sym is.2 ∙ (bytes_eq-Decides line message_rule).0 d in
        absurd (let bad : true ≡ false = sym (has_lf is.0) ∙ ap (has_byte 10) same in cc)
    go false d true e =
        let same : line ≡ message_rule ++ lf = (bytes_eq-Decides line (message_rule ++ lf)).0 e in
        record { line = blunted; is = refl; other = blunted_other; whole = ap₂ (λ a b. quote_when line (a || b)) d e ∙ ap (λ (t : Text). 32 ∷ drop 1 t) same }
    go false d false e = record {
      line = is.0;
      is = is.1;
      other = λ same. let bad : true ≡ false = sym ((bytes_eq-Decides line (message_rule ++ lf)).1 (is.2 ∙ ap (λ t. t ++ lf) same)) ∙ e in cc;
      whole = ap₂ (λ a b. quote_when line (a || b)) d e ∙ is.2;
    }

quoted_open : (line : Text) → Open line → Row (with_line_end (quoted_line line))
quoted_open [] is = absurd (let some = is.1 in omega (arith, some))
quoted_open (x ∷ xs) is = go (bytes_eq (x ∷ xs) message_rule) refl (bytes_eq (x ∷ xs) (message_rule ++ lf)) refl
  where
    go : (s : Bool) → bytes_eq (x ∷ xs) message_rule ≡ s → (t : Bool) → bytes_eq (x ∷ xs) (message_rule ++ lf) ≡ t
        → Row (with_line_end (quote_when (x ∷ xs) (bytes_eq (x ∷ xs) message_rule || bytes_eq (x ∷ xs) (message_rule ++ lf))))
    go true d t e =
        let same : x ∷ xs ≡ message_rule = (bytes_eq-Decides (x ∷ xs) message_rule).0 d in
        record {
          line = blunted;
          is = refl;
          other = blunted_other;
          whole = ap (λ a. with_line_end (quote_when (x ∷ xs) (a || bytes_eq (x ∷ xs) (message_rule ++ lf)))) d ∙ ap (λ (t : Text). with_line_end (32 ∷ drop 1 t)) same ∙ ended_line 32 (replicate 29 45) refl;
        }
    go false d true e =
        let same : x ∷ xs ≡ message_rule ++ lf = (bytes_eq-Decides (x ∷ xs) (message_rule ++ lf)).0 e in
        absurd (let bad : true ≡ false = sym (has_lf message_rule) ∙ ap (has_byte 10) (sym same) ∙ is.0 in cc)
    go false d false e = record {
      line = x ∷ xs;
      is = is.0;
      other = λ same. let bad : true ≡ false = sym ((bytes_eq-Decides (x ∷ xs) message_rule).1 same) ∙ d in cc;
      whole = ap₂ (λ a b. with_line_end (quote_when (x ∷ xs) (a || b))) d e ∙ ended_line x xs is.0;
    }

quoted_some : (line : Text) → 0 < length line → 0 < length (quoted_line line)
quoted_some line some = go (bytes_eq line message_rule || bytes_eq line (message_rule ++ lf))
  where
    go : (t : Bool) → 0 < length (quote_when line t)
    go true = omega arith
    go false = some

ended_some : (line : Text) → Ended line → 0 < length line
ended_some line is = let size = ap length is.2 ∙ length-append is.0 lf in omega (arith, size)

rows_some : (line : Text) (more : List Text) → AreRows (line ∷ more) → 0 < length (flat_map quoted_line (line ∷ more))
rows_some line [] (inl ended) = let one = quoted_some line (ended_some line ended) in omega (arith, one, length-append (quoted_line line) [])
rows_some line [] (inr opened) = let one = quoted_some line opened.1 in omega (arith, one, length-append (quoted_line line) [])
rows_some line (m ∷ ms) rows = let one = quoted_some line (ended_some line rows.0) in omega (arith, one, length-append (quoted_line line) (flat_map quoted_line (m ∷ ms)))

some_last : (t : Text) → 0 < length t → with_last_line_end t ≡ with_line_end t
some_last [] some = absurd (omega (arith, some))
some_last (x ∷ xs) some = refl

pub last_after : (a b : Text) → 0 < length b → with_last_line_end (a ++ b) ≡ a ++ with_last_line_end b
last_after a b some = some_last (a ++ b) (omega (arith, some, length-append a b)) ∙ line_end_after a b some ∙ ap (λ t. a ++ t) (sym (some_last b some))

rows_laid : (ls : List Text) → AreRows ls → Laid (with_last_line_end (flat_map quoted_line ls))
rows_laid [] rows = laid_none
rows_laid (l ∷ []) (inl ended) =
    let row = quoted_ended l ended in
    let whole : with_last_line_end (quoted_line l ++ []) ≡ row.line ++ lf =
    ap with_last_line_end (append-nil (quoted_line l) ∙ row.whole) ∙ some_last (row.line ++ lf) (omega (arith, length-append row.line lf)) ∙ ended_already row.line in
    subst (λ t. Laid t) (sym whole) (laid_line row.line row.is row.other)
rows_laid (l ∷ []) (inr opened) =
    let row = quoted_open l opened in
    let whole : with_last_line_end (quoted_line l ++ []) ≡ with_line_end (quoted_line l) = ap with_last_line_end (append-nil (quoted_line l)) ∙ some_last (quoted_line l) (quoted_some l opened.1) in
    subst (λ t. Laid t) (sym whole) (row_laid (with_line_end (quoted_line l)) row)
rows_laid (l ∷ m ∷ ms) rows =
    subst (λ t. Laid t) (sym (last_after (quoted_line l) (flat_map quoted_line (m ∷ ms)) (rows_some m ms rows.1)))
    (laid_both (quoted_line l) (with_last_line_end (flat_map quoted_line (m ∷ ms))) (row_laid (quoted_line l) (quoted_ended l rows.0)) (rows_laid (m ∷ ms) rows.1))

pub body_laid : (m : Text) → Laid (with_last_line_end (flat_map quoted_line (lines (body m))))
body_laid m = rows_laid (lines (body m)) (text_rows (body m))

-- a message as a digest has it: whole lines without the rule, one of them empty, and not begun like the end
pub record IsSet (m : Text) : Type 0 where
  pub rows : List Text
  pub is : IsMessage rows
  pub whole : message_text m ≡ lines_text rows

pub at_middle : (xs ys : List Text) (v : Text) → v ≡ slice_index_or (xs ++ v ∷ ys) (length xs) v
at_middle [] ys v = refl
at_middle (x ∷ xs) ys v = at_middle xs ys v

not_end : (t : Text) → get_or t 0 0 ≢ 69 → begins_with (codes "End of ") t ≡ false
not_end [] other = refl
not_end (x ∷ xs) other = ap (λ b. b && pointwise nat_eq (codes "nd of ") (take 6 xs)) (ne_eqb 69 x (λ e. other (sym e)))

pub message_set : (m : Text) → IsSet m
message_set m = record {
  rows = kept.rows ++ [] ∷ rest.rows;
  is = record {
    each = all_both IsLine kept.rows ([] ∷ rest.rows) kept.each (refl, rest.each);
    rule = all_both (λ line. line ≢ message_rule) kept.rows ([] ∷ rest.rows) kept.rule (no_hyphen [] (λ e. omega (arith, e)), rest.rule);
    empty = (length kept.rows, (omega (arith, length-append kept.rows ([] ∷ rest.rows)), at_middle kept.rows rest.rows []));
    start = not_end (lines_text (kept.rows ++ [] ∷ rest.rows)) (λ e. first (kept_fields m) begun.first (ap (λ t. get_or t 0 0) whole ∙ e));
  };
  whole = whole;
}
  where
    begun : Begun (kept_fields m)
    begun = kept_begun m

    kept : Laid (kept_fields m)
    kept = (kept_begun m).laid

    rest : Laid (with_last_line_end (flat_map quoted_line (lines (body m))))
    rest = body_laid m

    whole : message_text m ≡ lines_text ((kept_begun m).laid.rows ++ [] ∷ (body_laid m).rows)
    whole =
        ap₂ (λ (a b : Text). (a ++ lf) ++ b) (kept_begun m).laid.whole (body_laid m).whole
        ∙ append_assoc (lines_text (kept_begun m).laid.rows) lf (lines_text (body_laid m).rows) ∙ sym (lines_both (kept_begun m).laid.rows ([] ∷ (body_laid m).rows))

    first : (t : Text) → get_or t 0 0 ≢ 69 → get_or ((t ++ lf) ++ with_last_line_end (flat_map quoted_line (lines (body m)))) 0 0 ≢ 69
    first [] other e = omega (arith, e)
    first (x ∷ xs) other e = other e

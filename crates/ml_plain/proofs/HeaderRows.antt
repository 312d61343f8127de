-- A row of fields of one line each, an empty line and a body are read as these fields and this body.
use Rattle.std.proofs.Common.{◌≡◌, true, false, not, ◌==◌, ◌&&◌, ◌||◌, inl, inr, List, [], ◌∷◌, ◌++◌, map, refl, sym, ap₂, ◌∙◌, append_assoc}
use Rattle.std.specs.List.{AllByRecursion}
use Rattle.ml_base.specs.Bytes.{Text, is_empty}
use Rattle.ml_base.specs.Splits.{has_byte}
use Rattle.ml_base.specs.Texts.{lf, lines_text}
use Rattle.ml_base.proofs.Bools.{neither}
use Rattle.ml_header.specs.Lines.{begins_blank}
use Rattle.ml_header.specs.Fields.{FieldText, is_name, fields, body}
use Rattle.ml_header.specs.Forms.{is_folded, IsField, AreEnded, Made}
use Rattle.ml_header.proofs.OneForm.{all_lines, one_form}
use Rattle.ml_plain.specs.MailFields.{one_line}

-- a name and what is put after it, without an LF
pub record IsLine (name text : Text) : Type 0 where
  pub named : is_name name ≡ true
  pub no_colon : has_byte 58 name ≡ false
  pub clean : has_byte 10 text ≡ false

abbrev pub field_at : Text × Text → FieldText
field_at p = one_line p.0 p.1

abbrev pub line_at : Text × Text → Text
line_at p = p.0 ++ 58 ∷ (32 ∷ p.1)

abbrev pub AreLines : List (Text × Text) → Type 0
AreLines ps = AllByRecursion (λ p. IsLine p.0 p.1) ps

folded : (t : Text) → has_byte 10 t ≡ false → is_folded (t ++ lf) ≡ true
folded [] e = refl
folded (b ∷ bs) e =
    let parts = neither (b == 10) (has_byte 10 bs) e in
    ap₂ (λ p q. (not p || is_empty (bs ++ lf) || begins_blank (bs ++ lf)) && q) parts.0 (folded bs parts.1)

is_field : (name text : Text) → IsLine name text → IsField (one_line name text)
is_field name text is = record {
  named = is.named;
  no_colon = is.no_colon;
  whole = refl;
  folded = folded text is.clean;
}

are_fields : (ps : List (Text × Text)) → AreLines ps → AllByRecursion IsField (map field_at ps)
are_fields [] are = tt
are_fields (p ∷ ps) are = (is_field p.0 p.1 are.0, are_fields ps are.1)

are_ended : (ps : List (Text × Text)) (rest : Text) → AreEnded (map field_at ps) rest
are_ended [] rest = tt
are_ended (p ∷ ps) rest = (inl (line_at p, sym (append_assoc p.0 (58 ∷ (32 ∷ p.1)) lf)), are_ended ps rest)

whole : (ps : List (Text × Text)) (text : Text) → lines_text (map line_at ps ++ [] ∷ []) ++ text ≡ all_lines (map field_at ps) ++ (lf ++ text)
whole [] text = refl
whole (p ∷ ps) text =
    append_assoc (line_at p ++ lf) (lines_text (map line_at ps ++ [] ∷ [])) text
    ∙ ap₂ (λ l r. l ++ r) (append_assoc p.0 (58 ∷ (32 ∷ p.1)) lf) (whole ps text)
    ∙ sym (append_assoc (field_at p).lines (all_lines (map field_at ps)) (lf ++ text))

pub row_read : (ps : List (Text × Text)) (text : Text) → AreLines ps
    → (fields (lines_text (map line_at ps ++ [] ∷ []) ++ text) ≡ map field_at ps) × (body (lines_text (map line_at ps ++ [] ∷ []) ++ text) ≡ text)
row_read ps text are =
    let made : Made (lines_text (map line_at ps ++ [] ∷ []) ++ text) (map field_at ps) text = record {
      rest = lf ++ text;
      whole = whole ps text;
      are_fields = are_fields ps are;
      ended = are_ended ps (lf ++ text);
      after = inr (inl (record { line = lf; is_empty = refl; ended = inl ([], refl); whole = refl }));
    } in
    one_form (lines_text (map line_at ps ++ [] ∷ []) ++ text) (map field_at ps) text (inl made)

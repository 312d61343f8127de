-- The text that is sent is read again: the fields put in front, those that are kept, and the body.
use Rattle.std.proofs.Common.{◌≡◌, ◌-◌, Bool, true, false, not, cond, ◌==◌, ◌&&◌, ◌||◌, inl, inr, nat_eq, List, [], ◌∷◌, ◌++◌, length, take, drop, map, filter, codes, Option, Some, None, IfSome, refl, sym, ap, ap₂, ◌∙◌, arith, append_assoc, take-append-drop}
use Rattle.std.specs.List.{flat_map, ends_with, AllByRecursion}
use Rattle.std.proofs.lemmas.Bool.{eqb-true, eq-eqb}
use Rattle.std.proofs.lemmas.Slice.Eq.{bytes_eq-Decides}
use Rattle.ml_base.specs.Bytes.{Text, lower, is_empty}
use Rattle.ml_base.specs.Splits.{has_byte}
use Rattle.ml_base.specs.Texts.{lf, with_line_end}
use Rattle.ml_base.proofs.Bools.{both}
use Rattle.ml_header.specs.Lines.{begins_blank}
use Rattle.ml_header.specs.Fields.{FieldText, has_name, fields, body}
use Rattle.ml_header.specs.Rewriting.{has_part, names_of, is_among, spaced, with_prefix, prefix_first, whole_subject, prefixed, trailed, rewritten}
use Rattle.ml_header.specs.Forms.{EndsInLf, is_folded, IsField, AreEnded, Parted, Made, IsMadeOf, IsRow, ended_field, kept_fields}
use Rattle.ml_header.proofs.Rewrites.{ends_after, line_end_after}
use Rattle.ml_header.proofs.OneForm.{all_lines, one_form}
use Rattle.ml_header.proofs.ReadForm.{read_all}

abbrev AreFields : List FieldText → Type 0
AreFields fs = AllByRecursion IsField fs

abbrev pub end_when : Text → Bool → Text
end_when text is = cond is text (text ++ lf)

-- a text with an LF at its end ends in one
ends_so : (t : Text) → ends_with nat_eq t lf ≡ true → EndsInLf t
ends_so t is = (take (length t - 1) t, sym (take-append-drop (length t - 1) t) ∙ ap (λ e. take (length t - 1) t ++ e) (sym ((bytes_eq-Decides lf (drop (length t - 1) t)).0 is)))

line_ends : (t : Text) → EndsInLf (with_line_end t)
line_ends t = go (ends_with nat_eq t lf) refl
  where
    go : (s : Bool) → ends_with nat_eq t lf ≡ s → EndsInLf (end_when t s)
    go true is = ends_so t is
    go false is = (t, refl)

-- a folded value stays folded if an LF is added
folded_end : (v : Text) → is_folded v ≡ true → ends_with nat_eq v lf ≡ false → is_folded (v ++ lf) ≡ true
folded_end [] e no_lf = refl
folded_end (b ∷ []) e no_lf = go (b == 10) refl
  where
    other : (b == 10) ≡ true → ⊥
    other is =
        let same : 10 ≡ b = sym (eqb-true b 10 is) in
        let ends : ends_with nat_eq (b ∷ []) lf ≡ true = ap (λ t. t && true) (eq-eqb 10 b same) in
        let bad : true ≡ false = sym ends ∙ no_lf in
        cc

    go : (s : Bool) → (b == 10) ≡ s → ((not s || false || begins_blank lf) && true) ≡ true
    go true is = absurd (other is)
    go false is = refl
folded_end (b ∷ x ∷ xs) e no_lf =
    let parts = both (not (b == 10) || false || begins_blank (x ∷ xs)) (is_folded (x ∷ xs)) e in
    ap₂ (λ p q. p && q) parts.0 (folded_end (x ∷ xs) parts.1 (sym (ends_after (b ∷ []) (x ∷ xs) (omega arith)) ∙ no_lf))

folded_line : (v : Text) → is_folded v ≡ true → is_folded (with_line_end v) ≡ true
folded_line v e = go (ends_with nat_eq v lf) refl
  where
    go : (s : Bool) → ends_with nat_eq v lf ≡ s → is_folded (end_when v s) ≡ true
    go true is = e
    go false is = folded_end v e is

whole_end : (name v : Text) → with_line_end (name ++ 58 ∷ v) ≡ name ++ 58 ∷ with_line_end v
whole_end name [] = line_end_after name (58 ∷ []) (omega arith)
whole_end name (x ∷ xs) =
    ap with_line_end (sym (append_assoc name (58 ∷ []) (x ∷ xs))) ∙ line_end_after (name ++ 58 ∷ []) (x ∷ xs) (omega arith) ∙ append_assoc name (58 ∷ []) (with_line_end (x ∷ xs))

field_end : (f : FieldText) → IsField f → IsField (ended_field f)
field_end f is = record {
  named = is.named;
  no_colon = is.no_colon;
  whole = ap with_line_end is.whole ∙ whole_end f.name f.value;
  folded = folded_line f.value is.folded;
}

fields_end : (p : FieldText → Bool) (fs : List FieldText) → AreFields fs → AreFields (map ended_field (filter p fs))
fields_end p [] are = tt
fields_end p (f ∷ fs) are = go (p f) (fields_end p fs are.1)
  where
    go : (s : Bool) → AreFields (map ended_field (filter p fs)) → AreFields (map ended_field (cond s (f ∷ filter p fs) (filter p fs)))
    go true rest = (field_end f are.0, rest)
    go false rest = rest

are_both : (fs gs : List FieldText) → AreFields fs → AreFields gs → AreFields (fs ++ gs)
are_both [] gs a b = b
are_both (f ∷ fs) gs a b = (a.0, are_both fs gs a.1 b)

abbrev AllEnd : List FieldText → Type 0
AllEnd fs = AllByRecursion (λ f. EndsInLf f.lines) fs

all_end : (fs gs : List FieldText) (rest : Text) → AllEnd fs → AreEnded (fs ++ map ended_field gs) rest
all_end [] [] rest all = tt
all_end [] (g ∷ gs) rest all = (inl (line_ends g.lines), all_end [] gs rest tt)
all_end (f ∷ fs) gs rest all = (inl all.0, all_end fs gs rest all.1)

joined_lines : (fs gs : List FieldText) → all_lines (fs ++ map ended_field gs) ≡ all_lines fs ++ flat_map (λ f. with_line_end f.lines) gs
joined_lines [] [] = refl
joined_lines [] (g ∷ gs) = ap (λ t. with_line_end g.lines ++ t) (joined_lines [] gs)
joined_lines (f ∷ fs) gs = ap (λ t. f.lines ++ t) (joined_lines fs gs) ∙ sym (append_assoc f.lines (all_lines fs) (flat_map (λ f. with_line_end f.lines) gs))

message_fields : (m : Text) → AreFields (fields m)
message_fields m = go (read_all m)
  where
    none : (fs : List FieldText) → fs ≡ [] → AreFields fs
    none [] e = tt
    none (f ∷ fs) e = absurd (let n = ap length e in omega (arith, n))

    go : IsMadeOf m (fields m) (body m) → AreFields (fields m)
    go (inl made) = made.are_fields
    go (inr all) = none (fields m) all.no_fields

-- a folded value stays folded after a text without an LF
folded_after : (t v : Text) → has_byte 10 t ≡ false → is_folded v ≡ true → is_folded (t ++ v) ≡ true
folded_after [] v no_lf e = e
folded_after (b ∷ bs) v no_lf e = go (b == 10) refl no_lf (λ rest. folded_after bs v rest e)
  where
    go : (s : Bool) → (b == 10) ≡ s → (s || has_byte 10 bs) ≡ false → (has_byte 10 bs ≡ false → is_folded (bs ++ v) ≡ true)
        → ((not (b == 10) || is_empty (bs ++ v) || begins_blank (bs ++ v)) && is_folded (bs ++ v)) ≡ true
    go true is rest more = absurd (let bad : true ≡ false = rest in cc)
    go false is rest more = ap₂ (λ p q. (not p || is_empty (bs ++ v) || begins_blank (bs ++ v)) && q) is (more rest)

spaced_folded : (v : Text) → is_folded v ≡ true → is_folded (spaced v) ≡ true
spaced_folded v e = go (begins_blank v)
  where
    go : (s : Bool) → is_folded (cond s v (32 ∷ v)) ≡ true
    go true = e
    go false = e

prefix_field : (prefix : Text) (f : FieldText) → has_byte 10 prefix ≡ false → IsField f → IsField (with_prefix prefix f)
prefix_field prefix f no_lf is = record {
  named = is.named;
  no_colon = is.no_colon;
  whole = refl;
  folded = folded_after (32 ∷ prefix) (spaced f.value) no_lf (spaced_folded f.value is.folded);
}

first_fields : (name prefix : Text) (fs : List FieldText) → has_byte 10 prefix ≡ false → AreFields fs → AreFields (prefix_first name prefix fs)
first_fields name prefix [] no_lf are = tt
first_fields name prefix (f ∷ fs) no_lf are = go (has_name name f) (first_fields name prefix fs no_lf are.1)
  where
    go : (s : Bool) → AreFields (prefix_first name prefix fs) → AreFields (cond s (with_prefix prefix f ∷ fs) (f ∷ prefix_first name prefix fs))
    go true rest = (prefix_field prefix f no_lf are.0, are.1)
    go false rest = (are.0, rest)

prefixed_fields : (prefix : Option Text) (m : Text) → IfSome prefix (λ p. has_byte 10 p ≡ false) → AreFields (prefixed prefix m)
prefixed_fields None m no_lf = message_fields m
prefixed_fields (Some p) m no_lf = go (has_part (lower p) (lower (whole_subject m)))
  where
    go : (s : Bool) → AreFields (cond s (fields m) (prefix_first (codes "subject") p (fields m)))
    go true = message_fields m
    go false = first_fields (codes "subject") p (fields m) no_lf (message_fields m)

pub sent_form : (m remove add : Text) (fs : List FieldText) (prefix trailer : Option Text) → IsRow add fs → IfSome prefix (λ p. has_byte 10 p ≡ false)
    → (fields (rewritten m remove add prefix trailer) ≡ fs ++ map ended_field (kept_fields remove prefix m)) × (body (rewritten m remove add prefix trailer) ≡ trailed trailer m)
sent_form m remove add fs prefix trailer row no_lf =
    let kept = kept_fields remove prefix m in
    let all = fs ++ map ended_field kept in
    let last = trailed trailer m in
    let empty : Parted (lf ++ last) last = record { line = lf; is_empty = refl; ended = inl ([], refl); whole = refl } in
    let made : Made (rewritten m remove add prefix trailer) all last = record {
      rest = lf ++ last;
      whole =
          ap (λ a. ((a ++ flat_map (λ f. with_line_end f.lines) kept) ++ lf) ++ last) row.whole
          ∙ ap (λ t. (t ++ lf) ++ last) (sym (joined_lines fs kept)) ∙ append_assoc (all_lines all) lf last;
      are_fields = are_both fs (map ended_field kept) row.are_fields (fields_end (λ f. not (is_among (names_of remove) f)) (prefixed prefix m) (prefixed_fields prefix m no_lf));
      ended = all_end fs kept (lf ++ last) row.ended;
      after = inr (inl empty);
    } in
    one_form (rewritten m remove add prefix trailer) all last (inl made)

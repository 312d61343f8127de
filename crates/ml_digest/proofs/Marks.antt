-- The mark's file is read as exactly the mark that it spells.
use Rattle.std.proofs.Common.{◌≡◌, ◌≢◌, cond, ◌↔◌, ◌≤◌, ℕ, [], ◌∷◌, ◌++◌, Option, Some, None, refl, sym, ap, ap₂, ◌∙◌, subst, arith, append_assoc, option_map}
use Rattle.std.specs.Fmt.{decimal}
use Rattle.std.specs.Option.{option_and_then}
use Rattle.ml_base.specs.Bytes.{Text}
use Rattle.ml_base.specs.Dir.{Dir, with_put, same_name}
use Rattle.ml_base.specs.declared.names.Name.{Name}
use Rattle.ml_base.proofs.Bools.{one_name, not_true}
use Rattle.ml_base.specs.Numbers.{number_within}
use Rattle.ml_base.specs.Splits.{split_first}
use Rattle.ml_base.proofs.NumberLaws.{number_spelled, number_read}
use Rattle.ml_base.proofs.SplitLaws.{first_read, first_written}
use Rattle.ml_rows.specs.Rows.{both_of}
use Rattle.ml_rows.specs.Values.{line_number, number_line}
use Rattle.ml_rows.proofs.RowLaws.{one_some, none_some, made_read, both_read, both_there}
use Rattle.ml_rows.proofs.ValueLaws.{line_read, line_written, decimal_without}
use Rattle.ml_digest.specs.Due.{IsMark, IsNoMark, mark_name, mark_text, mark_in, mark_put}
use Rattle.ml_digest.specs.declared.posts.Mark.{Mark}

abbrev mark_of : ℕ × ℕ → Mark
mark_of n = record { last = n.0; issue = n.1 }

abbrev of_parts : Text × Text → Option Mark
of_parts parts = option_map mark_of (both_of (number_within 99_999_999 parts.0) (line_number 99_999_999 parts.1))

record Spelled (bytes : Text) (mark : Mark) : Type 0 where
  pub last : mark.last ≤ 99_999_999
  pub issue : mark.issue ≤ 99_999_999
  pub text : bytes ≡ mark_text mark

mark_read : (text : Text) (mark : Mark) → mark_in text ≡ Some mark → Spelled text mark
mark_read text mark e = go (split_first 58 text) refl
  where
    after : (before rest : Text) → split_first 58 text ≡ Some (before, rest) → of_parts (before, rest) ≡ Some mark → Spelled text mark
    after before rest split is =
        let made = made_read mark_of (both_of (number_within 99_999_999 before) (line_number 99_999_999 rest)) mark is in
        let n : ℕ × ℕ = made.0 in
        let parts = both_read (number_within 99_999_999 before) (line_number 99_999_999 rest) n.0 n.1 made.1 in
        let one = number_spelled 99_999_999 before n.0 (omega arith) parts.0 in
        let two = line_read 99_999_999 rest n.1 (omega arith) parts.1 in
        let whole : text ≡ mark_text (mark_of n) =
        (first_read 58 text before rest split).0 ∙ ap₂ (λ (a b : Text). a ++ 58 ∷ b) one.1 two.1 ∙ sym (append_assoc (decimal n.0) (58 ∷ decimal n.1) (10 ∷ [])) in
        subst (λ m. Spelled text m) made.2 (record { last = one.0; issue = two.0; text = whole })

    go : (o : Option (Text × Text)) → split_first 58 text ≡ o → Spelled text mark
    go None split = absurd (none_some mark (sym (ap (option_and_then of_parts) split) ∙ e))
    go (Some p) split = after p.0 p.1 split (sym (ap (option_and_then of_parts) split) ∙ e)

mark_written : (mark : Mark) → mark.last ≤ 99_999_999 → mark.issue ≤ 99_999_999 → mark_in (mark_text mark) ≡ Some mark
mark_written mark p q =
    ap mark_in (append_assoc (decimal mark.last) (58 ∷ decimal mark.issue) (10 ∷ []))
    ∙ ap (option_and_then of_parts) (first_written 58 (decimal mark.last) (number_line mark.issue) (decimal_without 58 mark.last refl (omega (arith, p))))
    ∙ ap (option_map mark_of) (both_there (number_within 99_999_999 (decimal mark.last)) (line_number 99_999_999 (number_line mark.issue)) mark.last mark.issue (number_read 99_999_999 mark.last (omega arith) p) (line_written 99_999_999 mark.issue (omega arith) q))

pub mark_exact : (dir : Dir) (mark : Mark) (text : Text) → dir mark_name ≡ Some text → (mark_in text ≡ Some mark) ↔ IsMark dir mark
mark_exact dir mark text e = (
  λ read. let is = mark_read text mark read in record { last = is.last; issue = is.issue; text = e ∙ ap (λ t. Some t) is.text },
  λ is. ap mark_in (one_some text (mark_text mark) (sym e ∙ is.text)) ∙ mark_written mark is.last is.issue,
)

pub mark_one : (dir : Dir) (mark other : Mark) → IsMark dir mark → IsMark dir other → mark ≡ other
mark_one dir mark other is also =
    let same = one_some (mark_text mark) (mark_text other) (sym is.text ∙ also.text) in
    one_some mark other (sym (mark_written mark is.last is.issue) ∙ ap mark_in same ∙ mark_written other also.last also.issue)

pub mark_own : (dir other : Dir) (mark : Mark) → other mark_name ≡ dir mark_name → IsMark dir mark → IsMark other mark
mark_own dir other mark same is = record { last = is.last; issue = is.issue; text = same ∙ is.text }

pub mark_set : (dir : Dir) (mark : Mark) → mark.last ≤ 99_999_999 → mark.issue ≤ 99_999_999 → IsMark (with_put dir (mark_put mark)) mark
mark_set dir mark p q = record { last = p; issue = q; text = refl }

pub mark_elsewhere : (dir : Dir) (mark : Mark) (name : Name) → name ≢ mark_name → with_put dir (mark_put mark) name ≡ dir name
mark_elsewhere dir mark name other = ap (λ b. cond b (Some (mark_text mark)) (dir name)) (not_true (same_name name mark_name) (λ e. other (one_name name mark_name e)))

-- the mark that a file spells
pub file_mark : (dir : Dir) (file : Option Text) (mark : Mark) → file ≡ dir mark_name → Some mark ≡ option_and_then mark_in file → IsMark dir mark
file_mark dir None mark e is = absurd (none_some mark (sym is))
file_mark dir (Some text) mark e is = (mark_exact dir mark text (sym e)).0 (sym is)

pub file_none : (dir : Dir) (file : Option Text) → file ≡ dir mark_name → None ≡ option_and_then mark_in file → IsNoMark dir
file_none dir None e is mark held = none_some (mark_text mark) (e ∙ held.text)
file_none dir (Some text) e is mark held = none_some mark (is ∙ (mark_exact dir mark text (sym e)).1 held)

pub file_ranges : (file : Option Text) (mark : Mark) → Some mark ≡ option_and_then mark_in file → (mark.last ≤ 99_999_999) × (mark.issue ≤ 99_999_999)
file_ranges None mark is = absurd (none_some mark (sym is))
file_ranges (Some text) mark is = let read = mark_read text mark (sym is) in (read.last, read.issue)

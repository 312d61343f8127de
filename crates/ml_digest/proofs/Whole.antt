-- A text is a digest exactly if every step of reading finds its part.
use Rattle.std.proofs.Common.{◌≡◌, ◌<◌, ℕ, false, ◌==◌, ◌||◌, List, [], ◌∷◌, ◌++◌, length, Option, Some, refl, sym, ap, ap₂, ◌∙◌, subst, arith, length-append, codes}
use Rattle.std.specs.Fmt.{decimal}
use Rattle.std.specs.List.{flat_map, AllByRecursion}
use Rattle.ml_base.specs.Bytes.{Text}
use Rattle.ml_base.specs.Splits.{has_byte}
use Rattle.ml_base.specs.Texts.{lines_text}
use Rattle.ml_base.proofs.Bools.{neither}
use Rattle.ml_digest.specs.Burst.{Parts, IsLine, AreParts, message_lines, digest_lines, IsDigest}
use Rattle.ml_digest.specs.Digest.{preamble_rule, issue_title}
use Rattle.ml_digest.specs.Reading.{IsFilled, last_of, IsHeader, IsTitle, IsPreface, AreEntries}
use Rattle.ml_digest.specs.declared.posts.Burst.{Burst}
use Rattle.ml_digest.proofs.Laid.{lines_both}
use Rattle.ml_digest.proofs.OneDigest.{digest_one, in_turn, last_lines, subject_line, after_rule}
use Rattle.ml_digest.proofs.Told.{Ending, ending, header_one, title_told, preface_one, end_text, in_steps}
use Rattle.ml_digest.proofs.Titles.{Untitled}

abbrev pub NoDigest : Text → Type 0
NoDigest text = (issue : ℕ) (messages : List Text) → ¬ IsDigest text issue messages

pub no_header_there : (text : Text) → ((last rest : Text) → ¬ IsHeader text last rest) → NoDigest text
no_header_there text none issue messages is = let steps = in_steps text issue messages is in none steps.subject steps.after steps.header

module _ (text subject rest : Text) (header : IsHeader text subject rest) where
  pub untitled : Untitled subject → NoDigest text
  untitled none issue messages is =
      let steps = in_steps text issue messages is in
      let one = header_one text subject rest steps.subject steps.after header steps.header in
      none steps.name issue (subst (λ t. IsTitle t steps.name issue) (sym one.0) steps.title)

  pub no_preface_there : ((after : Text) → ¬ IsPreface rest after) → NoDigest text
  no_preface_there none issue messages is =
      let steps = in_steps text issue messages is in
      let one = header_one text subject rest steps.subject steps.after header steps.header in
      none steps.rest (subst (λ t. IsPreface t steps.rest) (sym one.1) steps.preface)

  module _ (name : Text) (issue : ℕ) (title : IsTitle subject name issue) (after end : Text) (preface : IsPreface rest after) (ends : end ≡ end_text name issue) where
    pub no_entries_there : ((messages : List Text) → ¬ AreEntries after end messages) → NoDigest text
    no_entries_there none other messages is =
        let steps = in_steps text other messages is in
        let one = header_one text subject rest steps.subject steps.after header steps.header in
        let told = title_told subject name steps.name issue other title (subst (λ t. IsTitle t steps.name other) (sym one.0) steps.title) in
        let same = preface_one rest after steps.rest preface (subst (λ t. IsPreface t steps.rest) (sym one.1) steps.preface) in
        let last : end ≡ end_text steps.name other = ends ∙ ap₂ (λ (n : Text) (i : ℕ). end_text n i) told.0 told.1 in
        none messages (subst (λ t. AreEntries t end messages) (sym same) (subst (λ t. AreEntries steps.rest t messages) (sym last) steps.entries))

    -- the header has a line, its last one being the subject
    some_header : (rows : List Text) → subject ≡ last_of rows → 0 < length rows
    some_header [] e = absurd (let n = ap length (sym title.spelled ∙ e) in omega (arith, n, length-append (codes "Subject: ") (issue_title name issue)))
    some_header (x ∷ xs) e = omega arith

    filled_front : (xs ys : List Text) → AllByRecursion IsFilled (xs ++ ys) → AllByRecursion IsFilled xs × AllByRecursion IsFilled ys
    filled_front [] ys all = (tt, all)
    filled_front (x ∷ xs) ys all = let more = filled_front xs ys all.1 in ((all.0, more.0), more.1)

    has_parts : (a b : Text) → has_byte 10 (a ++ b) ≡ false → (has_byte 10 a ≡ false) × (has_byte 10 b ≡ false)
    has_parts [] b e = (refl, e)
    has_parts (x ∷ xs) b e =
        let parts = neither (x == 10) (has_byte 10 (xs ++ b)) e in
        let more = has_parts xs b parts.1 in
        (ap₂ (λ s t. s || t) parts.0 more.0, more.1)

    title_is : IsLine subject → IsLine name
    title_is line =
        let whole = has_parts (codes "Subject: ") (issue_title name issue) (sym (ap (has_byte 10) title.spelled) ∙ line) in
        let front = has_parts (name ++ codes " Digest Issue ") (decimal issue) whole.1 in
        (has_parts name (codes " Digest Issue ") front.0).0

    abbrev parts_of : List Text → List (List Text) → Parts
    parts_of front rows = record { head = front; name = name; issue = issue; preface = preface.rows; messages = rows }

    are_parts : (front : List Text) (messages : List Text) (entries : AreEntries after end messages) → header.rows ≡ front ++ subject ∷ [] → AreParts (parts_of front entries.rows)
    are_parts front messages entries all =
        let each = filled_front front (subject ∷ []) (subst (λ rows. AllByRecursion IsFilled rows) all header.each) in
        record {
          head = each.0;
          name = title_is ((each.1).0).0;
          named = title.named;
          issue = title.from_one;
          readable = title.readable;
          preface = preface.each;
          rule = preface.none;
          some = entries.some;
          messages = entries.are;
        }

    is_spelled : (front : List Text) (messages : List Text) (entries : AreEntries after end messages) → header.rows ≡ front ++ subject ∷ [] → text ≡ lines_text (digest_lines (parts_of front entries.rows))
    is_spelled front messages entries all =
        let p = parts_of front entries.rows in
        header.whole ∙ ap (λ rows. lines_text rows ++ 10 ∷ rest) (all ∙ ap (λ (t : Text). front ++ t ∷ []) title.spelled)
        ∙ ap (λ t. lines_text (front ++ subject_line p ∷ []) ++ 10 ∷ t)
        (preface.whole
        ∙ ap (λ t. lines_text preface.rows ++ (preamble_rule ++ 10 ∷ 10 ∷ t)) (entries.whole ∙ ap (λ t. lines_text (flat_map message_lines entries.rows) ++ t) ends ∙ sym (lines_both (flat_map message_lines entries.rows) (last_lines name issue)))
        ∙ sym (lines_both preface.rows (preamble_rule ∷ after_rule p)))
        ∙ sym (lines_both (front ++ subject_line p ∷ []) ([] ∷ (preface.rows ++ preamble_rule ∷ after_rule p))) ∙ sym (ap lines_text (in_turn p))

    pub is_digest : (messages : List Text) → AreEntries after end messages → IsDigest text issue messages
    is_digest messages entries = by (ending header.rows (some_header header.rows header.ends))
      where
        by : Ending header.rows → IsDigest text issue messages
        by found =
            let all : header.rows ≡ found.front ++ subject ∷ [] = found.all ∙ ap (λ (t : Text). found.front ++ t ∷ []) (sym header.ends) in
            record { parts = parts_of found.front entries.rows; are = are_parts found.front messages entries all; spelled = is_spelled found.front messages entries all; number = refl; each = entries.messages_are }

-- what is read is the digest
abbrev burst_of : ℕ → List Text → Option Burst
burst_of issue messages = Some (record { issue = issue; messages = messages })

pub same_burst : (text : Text) (issue other : ℕ) (messages others : List Text) → IsDigest text issue messages → IsDigest text other others → burst_of issue messages ≡ burst_of other others
same_burst text issue other messages others is also = let one = digest_one text issue other messages others is also in ap₂ (λ (i : ℕ) (ms : List Text). burst_of i ms) one.0 one.1

-- The steps of reading a digest: each finds one part, and the part is determined.
use Rattle.std.proofs.Common.{◌≡◌, ◌≢◌, ◌<◌, ◌≤◌, ◌-◌, ℕ, suc, true, false, ◌==◌, List, [], ◌∷◌, ◌++◌, length, map, drop, get_or, Option, Some, None, IfSome, IfNone, MatchOption, Bor, refl, sym, ap, ◌∙◌, subst, arith, length-append, codes}
use Rattle.std.specs.List.{flat_map}
use Rattle.ml_base.specs.Bytes.{Text}
use Rattle.ml_base.specs.Splits.{has_byte, split_first}
use Rattle.ml_base.specs.Texts.{lines_text}
use Rattle.ml_base.proofs.SplitLaws.{first_read}
use Rattle.ml_digest.specs.Burst.{Parts, IsLine, AreParts, message_lines, digest_lines, IsDigest}
use Rattle.ml_digest.specs.Digest.{preamble_rule, issue_title}
use Rattle.std.proofs.lemmas.Bool.{eqb-true}
use Rattle.ml_digest.specs.Reading.{IsCut, HasNoCut, IsFilled, last_of, IsHeader, IsBegun, IsTitle, IsPreface, AreEntries}
use Rattle.ml_digest.proofs.Laid.{all_both, lines_both, has_both}
use Rattle.ml_digest.proofs.OneDigest.{title_one, head_each, head_filled, last_lines, in_turn, subject_line, after_rule, title_line}
use Rattle.ml_digest.proofs.Cutting.{lines_push, cut_one, onward, lf_after}

-- the last line of some lines
pub last_push : (xs : List Text) (x : Text) → last_of (xs ++ x ∷ []) ≡ x
last_push xs x = let n : length xs ≡ length (xs ++ x ∷ []) - 1 = omega (arith, length-append xs (x ∷ [])) in ap (λ k. get_or (xs ++ x ∷ []) k []) (sym n) ∙ at_end xs
  where
    at_end : (xs : List Text) → get_or (xs ++ x ∷ []) (length xs) [] ≡ x
    at_end [] = refl
    at_end (y ∷ ys) = at_end ys

pub record Ending (rows : List Text) : Type 0 where
  pub front : List Text
  pub all : rows ≡ front ++ last_of rows ∷ []

later : (x y : Text) (ys : List Text) → last_of (x ∷ y ∷ ys) ≡ last_of (y ∷ ys)
later x y ys =
    let n : length (x ∷ y ∷ ys) - 1 ≡ suc (length (y ∷ ys) - 1) = omega arith in
    ap (λ k. get_or (x ∷ y ∷ ys) k []) n

pub ending : (rows : List Text) → 0 < length rows → Ending rows
ending [] some = absurd (omega (arith, some))
ending (x ∷ []) some = record { front = []; all = refl }
ending (x ∷ y ∷ ys) some =
    let more = ending (y ∷ ys) (omega arith) in
    let same : last_of (x ∷ y ∷ ys) ≡ last_of (y ∷ ys) = later x y ys in
    record { front = x ∷ more.front; all = ap (λ (t : List Text). x ∷ t) more.all ∙ ap (λ (t : Text). x ∷ more.front ++ t ∷ []) (sym same) }

-- the header of a text is determined
pub header_one : (text l r m s : Text) → IsHeader text l r → IsHeader text m s → (l ≡ m) × (r ≡ s)
header_one text l r m s is also =
    let one = cut_one [] is.rows also.rows r s refl (head_each is.rows is.each) (head_each also.rows also.each) (head_filled is.rows is.each) (head_filled also.rows also.each) (sym is.whole ∙ also.whole) in
    (is.ends ∙ ap last_of one.0 ∙ sym also.ends, one.1)

-- one more line of a header
pub begun_more : (text last rest line more : Text) → IsBegun text last rest → Some (line, more) ≡ split_first 10 rest → 0 < length line → IsBegun text line more
begun_more text last rest line more was cut some =
    let parts = first_read 10 rest line more (sym cut) in
    record {
      rows = was.rows ++ line ∷ [];
      each = all_both IsFilled was.rows (line ∷ []) was.each ((parts.1, some), tt);
      ends = sym (last_push was.rows line);
      whole = was.whole ∙ ap (λ t. lines_text was.rows ++ t) parts.0 ∙ sym (lines_push was.rows line more);
    }

pub header_ends : (text last rest line more : Text) → IsBegun text last rest → Some (line, more) ≡ split_first 10 rest → line ≡ [] → IsHeader text last more
header_ends text last rest line more was cut none =
    let parts = first_read 10 rest line more (sym cut) in
    record { rows = was.rows; each = was.each; ends = was.ends; whole = was.whole ∙ ap (λ t. lines_text was.rows ++ t) (parts.0 ∙ ap (λ t. t ++ 10 ∷ more) none) }

pub no_header : (text last rest l r : Text) → IsBegun text last rest → has_byte 10 rest ≡ false → IsHeader text l r → ⊥
no_header text last rest l r was none is =
    let on = onward [] was.rows is.rows rest r refl (head_each was.rows was.each) (head_each is.rows is.each) (head_filled was.rows was.each) (sym was.whole ∙ is.whole) in
    let bad : true ≡ false = sym (lf_after on.more [] r) ∙ ap (has_byte 10) (sym on.left) ∙ none in
    cc

pub none_there : (line : Text) → (length line == 0) ≡ true → line ≡ []
none_there [] e = refl
none_there (x ∷ xs) e = absurd (let n = eqb-true (length (x ∷ xs)) 0 e in omega (arith, n))

pub some_there : (line : Text) → (length line == 0) ≡ false → 0 < length line
some_there [] e = absurd (let bad : true ≡ false = e in cc)
some_there (x ∷ xs) e = omega arith

-- a preface is found by a cut at its rule
pub preface_by : (text front after : Text) (r : Option (Bor Text)) → IsCut preamble_rule preamble_rule text front after
    → MatchOption r ((rest : Text) → after ≢ (10 ∷ []) ++ rest) (λ x. after ≡ (10 ∷ []) ++ x.now) → IfSome r (λ rest. IsPreface text rest.now)
preface_by text front after None is m = tt
preface_by text front after (Some rest) is m = record { rows = is.rows; each = is.each; none = is.none_wanted; whole = is.whole ∙ ap (λ t. lines_text is.rows ++ (preamble_rule ++ 10 ∷ t)) m }

pub no_preface_by : (text front after : Text) (r : Option (Bor Text)) → IsCut preamble_rule preamble_rule text front after
    → MatchOption r ((rest : Text) → after ≢ (10 ∷ []) ++ rest) (λ x. after ≡ (10 ∷ []) ++ x.now) → IfNone r ((rest : Text) → ¬ IsPreface text rest)
no_preface_by text front after (Some r) is m = tt
no_preface_by text front after None is m = λ rest also. m rest (cut_one preamble_rule is.rows also.rows after (10 ∷ rest) refl is.each also.each is.none_wanted also.none (sym is.whole ∙ also.whole)).1

pub no_preface : (text : Text) (r : Option (Bor Text)) → HasNoCut preamble_rule preamble_rule text → IfNone r ((rest : Text) → ¬ IsPreface text rest)
no_preface text (Some r) lacks = tt
no_preface text None lacks = λ rest is. lacks (lines_text is.rows) (10 ∷ rest) (record { rows = is.rows; each = is.each; none_wanted = is.none; none_barred = is.none; front = refl; whole = is.whole })

-- a line has at most one title
pub title_told : (line a b : Text) (i j : ℕ) → IsTitle line a i → IsTitle line b j → (a ≡ b) × (i ≡ j)
title_told line a b i j is also =
    let p = is.readable in
    let q = also.readable in
    title_one a b i j (omega (arith, p)) (omega (arith, q)) (ap (λ (t : Text). drop 9 t) (sym is.spelled ∙ also.spelled))

-- the preface of a text is determined
pub preface_one : (text r s : Text) → IsPreface text r → IsPreface text s → r ≡ s
preface_one text r s is also =
    let one = cut_one preamble_rule is.rows also.rows (10 ∷ r) (10 ∷ s) refl is.each also.each is.none also.none (sym is.whole ∙ also.whole) in
    ap (λ (t : Text). drop 1 t) one.1

abbrev pub end_text : Text → ℕ → Text
end_text name issue = lines_text (last_lines name issue)

-- a digest as the steps find it
pub record InSteps (text : Text) (issue : ℕ) (messages : List Text) : Type 0 where
  pub subject : Text
  pub after : Text
  pub name : Text
  pub rest : Text
  pub header : IsHeader text subject after
  pub title : IsTitle subject name issue
  pub preface : IsPreface after rest
  pub entries : AreEntries rest (end_text name issue) messages

abbrev below : Parts → List Text
below p = p.preface ++ preamble_rule ∷ after_rule p

subject_is : (p : Parts) → AreParts p → IsLine (subject_line p)
subject_is p are = has_both 10 (codes "Subject: ") (issue_title p.name p.issue) refl (title_line p are)

by_parts : (text : Text) (issue : ℕ) (messages : List Text) (p : Parts) → AreParts p → text ≡ lines_text (digest_lines p) → issue ≡ p.issue → messages ≡ map lines_text p.messages → InSteps text issue messages
by_parts text issue messages p are spelled number each = record {
  subject = subject_line p;
  after = lines_text (below p);
  name = p.name;
  rest = lines_text (flat_map message_lines p.messages) ++ end_text p.name p.issue;
  header = record {
    rows = p.head ++ subject_line p ∷ [];
    each = all_both IsFilled p.head (subject_line p ∷ []) are.head ((subject_is p are, omega arith), tt);
    ends = sym (last_push p.head (subject_line p));
    whole = spelled ∙ ap lines_text (in_turn p) ∙ lines_both (p.head ++ subject_line p ∷ []) ([] ∷ below p);
  };
  title = record {
    named = are.named;
    from_one = subst (λ n. 1 ≤ n) (sym number) are.issue;
    readable = subst (λ n. n ≤ 999_999_999_999_999_999) (sym number) are.readable;
    spelled = ap (λ n. codes "Subject: " ++ issue_title p.name n) (sym number);
  };
  preface = record {
    rows = p.preface;
    each = are.preface;
    none = are.rule;
    whole = lines_both p.preface (preamble_rule ∷ after_rule p) ∙ ap (λ t. lines_text p.preface ++ (preamble_rule ++ 10 ∷ 10 ∷ t)) (lines_both (flat_map message_lines p.messages) (last_lines p.name p.issue));
  };
  entries = record { rows = p.messages; are = are.messages; some = are.some; messages_are = each; whole = ap (λ n. lines_text (flat_map message_lines p.messages) ++ end_text p.name n) (sym number) };
}

pub in_steps : (text : Text) (issue : ℕ) (messages : List Text) → IsDigest text issue messages → InSteps text issue messages
in_steps text issue messages is = by_parts text issue messages is.parts is.are is.spelled is.number is.each

-- A text is at most one digest: its number and its messages are determined.
use Rattle.std.proofs.Common.{◌≡◌, ◌≢◌, ◌<◌, ◌^◌, ℕ, zero, suc, true, false, List, [], ◌∷◌, ◌++◌, length, map, drop, Some, refl, sym, ap, ap₂, ◌∙◌, arith, append_assoc, length-append, codes}
use Rattle.std.proofs.lemmas.Bool.{true≢false}
use Rattle.std.specs.Prelude.{replicate}
use Rattle.std.specs.Fmt.{decimal}
use Rattle.std.specs.List.{AllByRecursion, flat_map}
use Rattle.std.proofs.lemmas.Fmt.{decimal_injective}
use Rattle.std.proofs.lemmas.List.{append_cancel_right}
use Rattle.ml_base.specs.Address.{before_at, past_at}
use Rattle.ml_base.specs.Bytes.{Text, split_last}
use Rattle.ml_base.specs.Splits.{has_byte, split_first}
use Rattle.ml_base.specs.Texts.{lf, lines_text}
use Rattle.ml_base.proofs.SplitLaws.{first_written, last_written}
use Rattle.ml_base.proofs.Cuts.{two}
use Rattle.ml_header.specs.Lines.{begins_with}
use Rattle.ml_rows.proofs.ValueLaws.{decimal_without}
use Rattle.ml_digest.specs.Burst.{Parts, IsLine, IsMessage, AreParts, message_lines, digest_lines, IsDigest}
use Rattle.ml_digest.specs.Digest.{preamble_rule, message_rule, issue_title, end_line, asterisks}
use Rattle.ml_digest.proofs.Laid.{has_both, all_both}

-- lines are determined by their text
cut_line : (x : Text) (xs : List Text) → IsLine x → split_first 10 (lines_text (x ∷ xs)) ≡ Some (x, lines_text xs)
cut_line x xs line = ap (split_first 10) (append_assoc x lf (lines_text xs)) ∙ first_written 10 x (lines_text xs) line

no_lines : (x : Text) (xs : List Text) → [] ≡ lines_text (x ∷ xs) → ⊥
no_lines x xs e = let size = ap length e in omega (arith, size, length-append (x ++ lf) (lines_text xs), length-append x lf)

lines_one : (xs ys : List Text) → AllByRecursion IsLine xs → AllByRecursion IsLine ys → lines_text xs ≡ lines_text ys → xs ≡ ys
lines_one [] [] a b e = refl
lines_one [] (y ∷ ys) a b e = absurd (no_lines y ys e)
lines_one (x ∷ xs) [] a b e = absurd (no_lines x xs (sym e))
lines_one (x ∷ xs) (y ∷ ys) a b e =
    let both : two x (lines_text xs) ≡ two y (lines_text ys) = sym (cut_line x xs a.0) ∙ ap (split_first 10) e ∙ cut_line y ys b.0 in
    ap₂ (λ (t : Text) (ts : List Text). t ∷ ts) (ap before_at both) (lines_one xs ys a.1 b.1 (ap past_at both))

-- a row of lines without this one
abbrev pub Apart : Text → List Text → Type 0
Apart v xs = AllByRecursion (λ x. x ≢ v) xs

first_of : (x y : Text) (xs ys : List Text) → x ∷ xs ≡ y ∷ ys → (x ≡ y) × (xs ≡ ys)
first_of x y xs ys e = (cc, cc)

until_one : (v : Text) (xs ys rest more : List Text) → Apart v xs → Apart v ys → xs ++ v ∷ rest ≡ ys ++ v ∷ more → (xs ≡ ys) × (rest ≡ more)
until_one v [] [] rest more a b e = (refl, (first_of v v rest more e).1)
until_one v [] (y ∷ ys) rest more a b e = absurd (b.0 (sym (first_of v y rest (ys ++ v ∷ more) e).0))
until_one v (x ∷ xs) [] rest more a b e = absurd (a.0 (first_of x v (xs ++ v ∷ rest) more e).0)
until_one v (x ∷ xs) (y ∷ ys) rest more a b e =
    let parts = first_of x y (xs ++ v ∷ rest) (ys ++ v ∷ more) e in
    let others = until_one v xs ys rest more a.1 b.1 parts.1 in
    (ap₂ (λ (t : Text) (ts : List Text). t ∷ ts) parts.0 others.0, others.1)

last_one : (xs ys : List Text) (x y : Text) → xs ++ x ∷ [] ≡ ys ++ y ∷ [] → x ≡ y
last_one [] [] x y e = (first_of x y [] [] e).0
last_one [] (z ∷ zs) x y e = absurd (let size = ap length e in omega (arith, size, length-append zs (y ∷ [])))
last_one (z ∷ zs) [] x y e = absurd (let size = ap length e in omega (arith, size, length-append zs (x ∷ [])))
last_one (z ∷ zs) (w ∷ ws) x y e = last_one zs ws x y (first_of z w (zs ++ x ∷ []) (ws ++ y ∷ []) e).1

-- a title determines its name and its number
pub title_cut : (name : Text) (issue : ℕ) → issue < 2 ^ 64 → split_last 32 (issue_title name issue) ≡ Some (name ++ codes " Digest Issue", decimal issue)
title_cut name issue small =
    ap (split_last 32) (append_assoc name (codes " Digest Issue ") (decimal issue) ∙ sym (append_assoc name (codes " Digest Issue") (32 ∷ decimal issue)))
    ∙ last_written 32 (name ++ codes " Digest Issue") (decimal issue) (decimal_without 32 issue refl small)

pub title_one : (a b : Text) (i j : ℕ) → i < 2 ^ 64 → j < 2 ^ 64 → issue_title a i ≡ issue_title b j → (a ≡ b) × (i ≡ j)
title_one a b i j p q e =
    let both : two (a ++ codes " Digest Issue") (decimal i) ≡ two (b ++ codes " Digest Issue") (decimal j) = sym (title_cut a i p) ∙ ap (split_last 32) e ∙ title_cut b j q in
    (append_cancel_right a b (codes " Digest Issue") (ap before_at both), decimal_injective i j p q (ap past_at both))

-- the last two lines of a digest, which come after its messages
abbrev pub last_lines : Text → ℕ → List Text
last_lines name issue = end_line name issue ∷ asterisks name issue ∷ []

message_row : (m rest : List Text) → message_lines m ++ rest ≡ (m ++ [] ∷ []) ++ message_rule ∷ [] ∷ rest
message_row m rest = append_assoc m ([] ∷ message_rule ∷ [] ∷ []) rest ∙ sym (append_assoc m ([] ∷ []) (message_rule ∷ [] ∷ rest))

no_rule : (m : List Text) → IsMessage m → Apart message_rule (m ++ [] ∷ [])
no_rule m is = all_both (λ line. line ≢ message_rule) m ([] ∷ []) is.rule (λ e. let size = ap length e in omega (arith, size), tt)

no_message : (name : Text) (issue : ℕ) (m rest : List Text) → IsMessage m → last_lines name issue ≡ message_lines m ++ rest → ⊥
no_message name issue [] rest is e = let less = (is.empty).1.0 in omega (arith, less)
no_message name issue (x ∷ xs) rest is e =
    let first : end_line name issue ≡ x = (first_of (end_line name issue) x (asterisks name issue ∷ []) (message_lines xs ++ rest) e).0 in
    let bad : true ≡ false = ap (λ t. begins_with (codes "End of ") (lines_text (t ∷ xs))) first ∙ is.start in
    true≢false bad

messages_one : (name : Text) (issue : ℕ) (ms ns : List (List Text)) → AllByRecursion IsMessage ms → AllByRecursion IsMessage ns
    → flat_map message_lines ms ++ last_lines name issue ≡ flat_map message_lines ns ++ last_lines name issue → ms ≡ ns
messages_one name issue [] [] a b e = refl
messages_one name issue [] (n ∷ ns) a b e = absurd (no_message name issue n (flat_map message_lines ns ++ last_lines name issue) b.0 (e ∙ append_assoc (message_lines n) (flat_map message_lines ns) (last_lines name issue)))
messages_one name issue (m ∷ ms) [] a b e = absurd (no_message name issue m (flat_map message_lines ms ++ last_lines name issue) a.0 (sym e ∙ append_assoc (message_lines m) (flat_map message_lines ms) (last_lines name issue)))
messages_one name issue (m ∷ ms) (n ∷ ns) a b e =
    let left = flat_map message_lines ms ++ last_lines name issue in
    let right = flat_map message_lines ns ++ last_lines name issue in
    let whole : (m ++ [] ∷ []) ++ message_rule ∷ [] ∷ left ≡ (n ++ [] ∷ []) ++ message_rule ∷ [] ∷ right =
    sym (append_assoc (message_lines m) (flat_map message_lines ms) (last_lines name issue) ∙ message_row m left) ∙ e
    ∙ append_assoc (message_lines n) (flat_map message_lines ns) (last_lines name issue) ∙ message_row n right in
    let parts = until_one message_rule (m ++ [] ∷ []) (n ++ [] ∷ []) ([] ∷ left) ([] ∷ right) (no_rule m a.0) (no_rule n b.0) whole in
    ap₂ (λ (x : List Text) (xs : List (List Text)). x ∷ xs) (append_cancel_right m n ([] ∷ []) parts.0) (messages_one name issue ms ns a.1 b.1 (first_of [] [] left right parts.1).1)

-- no line of a digest has an LF
stars : (n : ℕ) → has_byte 10 (replicate n 42) ≡ false
stars zero = refl
stars (suc n) = stars n

pub title_line : (p : Parts) → AreParts p → IsLine (issue_title p.name p.issue)
title_line p are =
    let i = are.readable in
    has_both 10 (p.name ++ codes " Digest Issue ") (decimal p.issue) (has_both 10 p.name (codes " Digest Issue ") are.name refl) (decimal_without 10 p.issue refl (omega (arith, i)))

message_each : (ms : List (List Text)) → AllByRecursion IsMessage ms → AllByRecursion IsLine (flat_map message_lines ms)
message_each [] all = tt
message_each (m ∷ ms) all =
    all_both IsLine (message_lines m) (flat_map message_lines ms) (all_both IsLine m ([] ∷ message_rule ∷ [] ∷ []) (all.0).each (refl, (refl, (refl, tt)))) (message_each ms all.1)

pub head_each : (ls : List Text) → AllByRecursion (λ line. IsLine line × (0 < length line)) ls → AllByRecursion IsLine ls
head_each [] all = tt
head_each (l ∷ ls) all = ((all.0).0, head_each ls all.1)

pub head_filled : (ls : List Text) → AllByRecursion (λ line. IsLine line × (0 < length line)) ls → Apart [] ls
head_filled [] all = tt
head_filled (l ∷ ls) all = (λ e. let size = ap length e in let some = (all.0).1 in omega (arith, size, some), head_filled ls all.1)

abbrev pub subject_line : Parts → Text
subject_line p = codes "Subject: " ++ issue_title p.name p.issue

each_line : (p : Parts) → AreParts p → AllByRecursion IsLine (digest_lines p)
each_line p are =
    let title = title_line p are in
    all_both IsLine ((p.head ++ subject_line p ∷ [] ∷ p.preface) ++ preamble_rule ∷ [] ∷ flat_map message_lines p.messages) (last_lines p.name p.issue)
    (all_both IsLine (p.head ++ subject_line p ∷ [] ∷ p.preface) (preamble_rule ∷ [] ∷ flat_map message_lines p.messages)
    (all_both IsLine p.head (subject_line p ∷ [] ∷ p.preface) (head_each p.head are.head) (has_both 10 (codes "Subject: ") (issue_title p.name p.issue) refl title, (refl, are.preface)))
    (refl, (refl, message_each p.messages are.messages)))
    (has_both 10 (codes "End of ") (issue_title p.name p.issue) refl title, (stars (length (end_line p.name p.issue)), tt))

-- the lines of a digest in the order in which they are told apart
abbrev pub after_rule : Parts → List Text
after_rule p = [] ∷ (flat_map message_lines p.messages ++ last_lines p.name p.issue)

pub in_turn : (p : Parts) → digest_lines p ≡ (p.head ++ subject_line p ∷ []) ++ [] ∷ (p.preface ++ preamble_rule ∷ after_rule p)
in_turn p =
    let m = flat_map message_lines p.messages in
    let z = last_lines p.name p.issue in
    append_assoc (p.head ++ subject_line p ∷ [] ∷ p.preface) (preamble_rule ∷ [] ∷ m) z
    ∙ append_assoc p.head (subject_line p ∷ [] ∷ p.preface) (preamble_rule ∷ after_rule p)
    ∙ sym (append_assoc p.head (subject_line p ∷ []) ([] ∷ (p.preface ++ preamble_rule ∷ after_rule p)))

parts_one : (p q : Parts) → AreParts p → AreParts q → lines_text (digest_lines p) ≡ lines_text (digest_lines q) → (p.issue ≡ q.issue) × (p.messages ≡ q.messages)
parts_one p q a b e =
    let lines = sym (in_turn p) ∙ lines_one (digest_lines p) (digest_lines q) (each_line p a) (each_line q b) e ∙ in_turn q in
    let heads = until_one [] (p.head ++ subject_line p ∷ []) (q.head ++ subject_line q ∷ []) (p.preface ++ preamble_rule ∷ after_rule p) (q.preface ++ preamble_rule ∷ after_rule q) (filled p a) (filled q b) lines in
    let subjects = last_one p.head q.head (subject_line p) (subject_line q) heads.0 in
    let i = a.readable in let j = b.readable in
    let titles = title_one p.name q.name p.issue q.issue (omega (arith, i)) (omega (arith, j)) (ap (λ (t : Text). drop 9 t) subjects) in
    let bodies = until_one preamble_rule p.preface q.preface (after_rule p) (after_rule q) a.rule b.rule heads.1 in
    let rows : flat_map message_lines p.messages ++ last_lines p.name p.issue ≡ flat_map message_lines q.messages ++ last_lines q.name q.issue =
    (first_of [] [] (flat_map message_lines p.messages ++ last_lines p.name p.issue) (flat_map message_lines q.messages ++ last_lines q.name q.issue) bodies.1).1 in
    (titles.1, messages_one p.name p.issue p.messages q.messages a.messages b.messages (rows ∙ sym (ap₂ (λ (n : Text) (i : ℕ). flat_map message_lines q.messages ++ last_lines n i) titles.0 titles.1)))
  where
    filled : (p : Parts) → AreParts p → Apart [] (p.head ++ subject_line p ∷ [])
    filled p are = all_both (λ x. x ≢ []) p.head (subject_line p ∷ []) (head_filled p.head are.head) (λ e. let size = ap length e in omega (arith, size), tt)

pub digest_one : (text : Text) (issue other : ℕ) (messages others : List Text) → IsDigest text issue messages → IsDigest text other others → (issue ≡ other) × (messages ≡ others)
digest_one text issue other messages others is also =
    let same = parts_one is.parts also.parts is.are also.are (sym is.spelled ∙ also.spelled) in
    (is.number ∙ same.0 ∙ sym also.number, is.each ∙ ap (map lines_text) same.1 ∙ sym also.each)

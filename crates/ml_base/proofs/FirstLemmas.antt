-- The parts round the first place of a byte, and the first line, in the way that the code finds them.
use Rattle.std.proofs.Common.{◌≡◌, ℕ, zero, suc, ◌+◌, ◌-◌, ◌<◌, ◌≤◌, ◌==◌, Bool, true, false, cond, List, [], ◌∷◌, length, take, drop, get_or, Some, None, refl, sym, ap, subst, ◌∙◌, arith, eqb}
use Rattle.std.specs.List.{concat}
use Rattle.std.proofs.lemmas.List.{length-take-le}
use Rattle.bstr.specs.Text.{line_len, lines_of}
use Rattle.bstr.proofs.lemmas.RestLemmas.{concat-lines_of}
use Rattle.bstr.proofs.lemmas.LineLemmas.{lines-nil, lines-step, line_len-bounds}
use Rattle.ml_base.specs.Splits.{split_first, lines, onto_line}
use Rattle.ml_base.proofs.SplitLemmas.{rest}

pub first_none : (c : ℕ) (xs : List ℕ) → ((k : ℕ) → k < length xs → eqb (get_or xs k 0) c ≡ false) → None ≡ split_first c xs
first_none c [] h = refl
first_none c (x ∷ xs) h = rw (h 0 (omega arith), ← first_none c xs (λ k less. h (suc k) (omega arith)))

first_some : (c : ℕ) (xs : List ℕ) (k : ℕ) → k < length xs → eqb (get_or xs k 0) c ≡ true → ((j : ℕ) → j < k → eqb (get_or xs j 0) c ≡ false)
    → split_first c xs ≡ Some (take k xs, drop (suc k) xs)
first_some c [] k less is h = absurd (omega arith)
first_some c (x ∷ xs) zero less is h = rw is
first_some c (x ∷ xs) (suc k) less is h = rw (h 0 (omega arith), first_some c xs k (omega arith) is (λ j below. h (suc j) (omega arith)))

pub first_here : (c : ℕ) (xs : List ℕ) (k : ℕ) → k < length xs → eqb (get_or xs k 0) c ≡ true → ((j : ℕ) → j < k → eqb (get_or xs j 0) c ≡ false)
    → Some (take k xs, take (length xs - (k + 1)) (drop (k + 1) xs)) ≡ split_first c xs
first_here c xs k less is h = rw (rest k xs) (sym (first_some c xs k less is h))

-- one byte before a text of which the first line is known
onto_text : (b : ℕ) (rest : List ℕ) → onto_line b (lines rest) ≡ (b ∷ take (line_len rest) rest) ∷ lines (drop (line_len rest) rest)
    → lines (b ∷ rest) ≡ take (line_len (b ∷ rest)) (b ∷ rest) ∷ lines (drop (line_len (b ∷ rest)) (b ∷ rest))
unfolding line_len
onto_text b rest more = go (b == 10)
  where
    go : (t : Bool) → cond t ((b ∷ []) ∷ lines rest) (onto_line b (lines rest)) ≡ take (cond t 1 (suc (line_len rest))) (b ∷ rest) ∷ lines (drop (cond t 1 (suc (line_len rest))) (b ∷ rest))
    go true = refl
    go false = more

-- the first line, by the length that bstr finds
line_first : (text : List ℕ) → 0 < length text → lines text ≡ take (line_len text) text ∷ lines (drop (line_len text) text)
unfolding line_len
line_first [] some = absurd (omega arith)
line_first (b ∷ []) some = onto_text b [] refl
line_first (b ∷ c ∷ rest) some = onto_text b (c ∷ rest) (ap (onto_line b) (line_first (c ∷ rest) (omega arith)))

-- the first of bstr's lines is as long as it finds
line_size : (text line : List ℕ) (more : List (List ℕ)) → lines_of text ≡ line ∷ more → 0 < length text → length line ≡ line_len text
line_size text line more e some =
    let step : take (line_len text) text ∷ lines_of (drop (line_len text) text) ≡ line ∷ more = sym (lines-step text some) ∙ e in
    let first : line ≡ take (line_len text) text = cc in
    ap length first ∙ length-take-le (line_len text) text (line_len-bounds text some).1

-- a text without lines has no byte
pub no_lines : (text : List ℕ) → lines_of text ≡ [] → text ≡ []
no_lines text none = sym (concat-lines_of text) ∙ ap concat none

-- the first of bstr's lines has a byte, and no more than the text
pub line_sizes : (text line : List ℕ) (more : List (List ℕ)) → lines_of text ≡ line ∷ more → (0 < length line) × (length line ≤ length text)
line_sizes [] line more e = absurd (let none : [] ≡ line ∷ more = sym lines-nil ∙ e in cc)
line_sizes (b ∷ rest) line more e =
    let text = b ∷ rest in
    let sizes = line_len-bounds text (omega arith) in
    let size = line_size text line more e (omega arith) in
    (omega (arith, sizes.0, size), omega (arith, sizes.1, size))

-- the first line is the first of bstr's, and the others are those of what follows it
pub line_given : (text line : List ℕ) (more : List (List ℕ)) → lines_of text ≡ line ∷ more → lines text ≡ take (length line) text ∷ lines (drop (length line) text)
line_given [] line more e = absurd (let none : [] ≡ line ∷ more = sym lines-nil ∙ e in cc)
line_given (b ∷ rest) line more e =
    let text = b ∷ rest in
    let size = line_size text line more e (omega arith) in
    subst (λ k. lines text ≡ take k text ∷ lines (drop k text)) (sym size) (line_first text (omega arith))

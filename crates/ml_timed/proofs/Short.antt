-- Sizes that posts may have, of an index and of what is taken from it.
use Rattle.std.proofs.Common.{◌≡◌, inl, inr, ◌<◌, ℕ, zero, suc, Bool, true, false, cond, nat_lt, List, [], ◌∷◌, ◌++◌, length, map, take, refl, ap, arith}
use Rattle.std.proofs.lemmas.Bool.{and_from, and_parts, le-leb, leb-true}
use Rattle.std.specs.List.{AllByRecursion, filter, list_all}
use Rattle.std.specs.Prelude.{slice_index}
use Rattle.ml_base.specs.Dir.{Dir}
use Rattle.ml_filing.specs.Answers.{IsIndexByFiles}
use Rattle.ml_filing.specs.Archive.{IsEntry}
use Rattle.ml_filing.specs.declared.posts.Entry.{Entry}
use Rattle.ml_timed.specs.Waiting.{are_short, is_short, sizes_after}

entries_short : (es : List Entry) → AllByRecursion IsEntry es → are_short es ≡ true
entries_short [] all = refl
entries_short (e ∷ es) (here, more) =
    let size = here.size in
    and_from (is_short e.size) (are_short es) (le-leb (suc e.size) 4_294_967_296 (omega (arith, size))) (entries_short es more)

-- those of an index in its grammar
pub index_short : (dir : Dir) (g : ℕ) (es : List Entry) → IsIndexByFiles dir g es → are_short es ≡ true
index_short dir g es (inl (less, file)) = entries_short es file.each
index_short dir g es (inr (far, e)) = ap are_short e

-- of two rows, of a front, and of the entries after a number
pub short_joined : (a b : List ℕ) → list_all is_short a ≡ true → list_all is_short b ≡ true → list_all is_short (a ++ b) ≡ true
short_joined [] b e f = f
short_joined (x ∷ a) b e f = let parts = and_parts (is_short x) (list_all is_short a) e in and_from (is_short x) (list_all is_short (a ++ b)) parts.0 (short_joined a b parts.1 f)

pub short_taken : (n : ℕ) (xs : List ℕ) → list_all is_short xs ≡ true → list_all is_short (take n xs) ≡ true
short_taken zero xs e = refl
short_taken (suc n) [] e = refl
short_taken (suc n) (x ∷ xs) e = let parts = and_parts (is_short x) (list_all is_short xs) e in and_from (is_short x) (list_all is_short (take n xs)) parts.0 (short_taken n xs parts.1)

pub short_after : (last : ℕ) (es : List Entry) → are_short es ≡ true → list_all is_short (sizes_after last es) ≡ true
short_after last [] e = refl
short_after last (x ∷ es) e = let parts = and_parts (is_short x.size) (are_short es) e in go (nat_lt last x.number) (short_after last es parts.1) parts.0
  where
    go : (t : Bool) → list_all is_short (map (λ (e : Entry). e.size) (filter (λ (e : Entry). nat_lt last e.number) es)) ≡ true → is_short x.size ≡ true
        → list_all is_short (map (λ (e : Entry). e.size) (cond t (x ∷ filter (λ (e : Entry). nat_lt last e.number) es) (filter (λ (e : Entry). nat_lt last e.number) es))) ≡ true
    go true more here = and_from (is_short x.size) (list_all is_short (map (λ (e : Entry). e.size) (filter (λ (e : Entry). nat_lt last e.number) es))) here more
    go false more here = more

-- each of them
pub short_at : (xs : List ℕ) → list_all is_short xs ≡ true → (k : ℕ) → k < length xs → slice_index xs k < 4_294_967_296
short_at [] e k h = absurd (omega (arith, h))
short_at (x ∷ xs) e zero h = let low = leb-true (suc x) 4_294_967_296 (and_parts (is_short x) (list_all is_short xs) e).0 in omega (arith, low)
short_at (x ∷ xs) e (suc k) h = short_at xs (and_parts (is_short x) (list_all is_short xs) e).1 k (omega (arith, h))

-- The range of posts that a due digest has, as the code counts it.
use Rattle.std.proofs.Common.{◌≡◌, ◌<◌, ◌+◌, ◌-◌, ℕ, Bool, true, false, cond, not, List, [], ◌∷◌, length, take, sum, Option, Some, None, refl, sym, ap, ap₂, ◌∙◌, subst, arith, ◌≤◌, ◌==◌, ◌&&◌, ◌||◌}
use Rattle.std.specs.Prelude.{nat_le}
use Rattle.std.proofs.lemmas.Bool.{ne_eqb}
use Rattle.std.proofs.lemmas.List.{take_all}
use Rattle.std.proofs.lemmas.Bool.{and_parts, false≢true}
use Rattle.ml_base.specs.Bytes.{is_empty}
use Rattle.ml_base.specs.Cuts.{one_or_within}
use Rattle.ml_rows.specs.Longest.{IsLongest}
use Rattle.ml_rows.proofs.CutLaws.{cut_is, cut_some}
use Rattle.ml_rows.proofs.RowLaws.{one_some, none_some}
use Rattle.ml_digest.specs.Due.{due, is_due, IsNextRange}
use Rattle.ml_digest.specs.declared.posts.Range.{Range}

abbrev own_size : ℕ → ℕ
own_size size = size

abbrev taken : List ℕ → List ℕ
taken sizes = one_or_within own_size 100 4_194_304 sizes

abbrev range_of : ℕ → List ℕ → Range
range_of last sizes = record { first = last + 1; last = last + length (taken sizes) }

filled : (sizes : List ℕ) → not (is_empty sizes) ≡ true → 0 < length sizes
filled [] e = absurd (false≢true e)
filled (x ∷ xs) e = omega arith

next_range : (last : ℕ) (sizes : List ℕ) → 0 < length sizes → IsNextRange last sizes (range_of last sizes)
next_range last sizes some = record {
  from = refl;
  some = let one = cut_some own_size 100 4_194_304 sizes some in omega (arith, one);
  longest = subst (λ front. IsLongest own_size 100 4_194_304 sizes front) (is.is_front ∙ ap (λ n. take n sizes) back) is;
}
  where
    is : IsLongest own_size 100 4_194_304 sizes (taken sizes)
    is = let some : 0 < 100 = omega arith in cut_is own_size 100 4_194_304 sizes some

    back : length (taken sizes) ≡ (last + length (taken sizes)) - last
    back = omega arith

pub due_range : (last oldest now : ℕ) (sizes : List ℕ) (range : Range) → due last sizes oldest now ≡ Some range → IsNextRange last sizes range
due_range last oldest now sizes range e = go (is_due sizes oldest now) refl
  where
    go : (t : Bool) → is_due sizes oldest now ≡ t → IsNextRange last sizes range
    go false is = absurd (none_some range (sym (ap (λ t. cond t (Some (range_of last sizes)) None) is) ∙ e))
    go true is =
        let same = one_some (range_of last sizes) range (sym (ap (λ t. cond t (Some (range_of last sizes)) None) is) ∙ e) in
        subst (λ r. IsNextRange last sizes r) same (next_range last sizes (filled sizes (and_parts (not (is_empty sizes)) _ is).0))

-- the test for no posts, as the code makes it
empty_by : (xs : List ℕ) → is_empty xs ≡ (length xs == 0)
empty_by [] = refl
empty_by (x ∷ xs) = sym (ne_eqb (length (x ∷ xs)) 0 (λ e. omega (arith, e)))

pub is_due_by : (sizes : List ℕ) (oldest now : ℕ) → length sizes ≤ 100
    → is_due sizes oldest now ≡ (not (length sizes == 0) && (nat_le 30 (length sizes) || nat_le 65_536 (sum sizes) || nat_le 172_800 (now - oldest)))
is_due_by sizes oldest now few =
    ap₂ (λ (e : Bool) (s : ℕ). not e && (nat_le 30 (length sizes) || nat_le 65_536 s || nat_le 172_800 (now - oldest))) (empty_by sizes) (ap sum (take_all 100 sizes few))

-- the answer, from the outcome of this test
abbrev range_when : ℕ → List ℕ → Bool → Option Range
range_when last sizes is = cond is (Some (range_of last sizes)) None

pub due_none : (last oldest now : ℕ) (sizes : List ℕ) (t : Bool) → t ≡ is_due sizes oldest now → t ≡ false → None ≡ due last sizes oldest now
due_none last oldest now sizes t e none = sym (ap (range_when last sizes) (sym e ∙ none))

abbrev one_range : Range → Option Range
one_range r = Some r

pub due_some : (last oldest now : ℕ) (sizes : List ℕ) (t : Bool) (count : ℕ) → t ≡ is_due sizes oldest now → t ≡ true → count ≡ length (taken sizes)
    → Some (record { first = last + 1; last = last + count }) ≡ due last sizes oldest now
due_some last oldest now sizes t count e some same = ap (λ n. one_range (record { first = last + 1; last = last + n })) same ∙ sym (ap (range_when last sizes) (sym e ∙ some))

-- Reading a file of records piece by piece, as the code does, gives what the definitions read from the whole.
use Rattle.std.proofs.Common.{◌≡◌, ◌<◌, ◌≤◌, ◌+◌, ℕ, zero, suc, Bool, true, List, [], ◌∷◌, ◌++◌, length, Option, Some, IfSome, refl, sym, ap, ◌∙◌, subst, arith, option_map}
use Rattle.std.specs.List.{list_all}
use Rattle.std.specs.Cmp.{IsTotalOrder}
use Rattle.std.specs.declared.cmp.Ordering.{Ordering}
use Rattle.std.specs.Ordering.{is_lt}
use Rattle.std.proofs.lemmas.Bool.{and_parts, and_from}
use Rattle.ml_base.specs.Bytes.{Text}
use Rattle.ml_base.specs.Sorted.{is_sorted}
use Rattle.ml_base.proofs.BelowLemmas.{less}
use Rattle.ml_base.proofs.Bools.{both_are}
use Rattle.ml_rows.specs.Rows.{first_and_more, row_within}
use Rattle.ml_rows.proofs.Commas.{one_more}
use Rattle.ml_keyed.specs.Records.{is_below_first}

-- keys rise if every two neighbours do
module _ {K R : Type 0} (order : K → K → Ordering) (total : IsTotalOrder order) (key_of : R → K) where
  lt_then : (a b c : K) → is_lt (order a b) ≡ true → is_lt (order b c) ≡ true → is_lt (order a c) ≡ true
  lt_then a b c e f = ap is_lt (total.trans a b c (less _ e) (less _ f))

  below_more : (k : K) (r : R) (rs : List R) → is_lt (order k (key_of r)) ≡ true → list_all (λ (s : R). is_lt (order (key_of r) (key_of s))) rs ≡ true → list_all (λ (s : R). is_lt (order k (key_of s))) rs ≡ true
  below_more k r [] lt all = refl
  below_more k r (s ∷ ss) lt all =
      let parts = and_parts (is_lt (order (key_of r) (key_of s))) (list_all (λ (t : R). is_lt (order (key_of r) (key_of t))) ss) all in
      and_from _ _ (lt_then k (key_of r) (key_of s) lt parts.0) (below_more k r ss lt parts.1)

  pub sorted_more : (r : R) (rs : List R) → is_below_first order key_of (key_of r) rs ≡ true → is_sorted order key_of (r ∷ rs) ≡ is_sorted order key_of rs
  sorted_more r [] lt = refl
  sorted_more r (s ∷ ss) lt =
      both_are (list_all (λ (t : R). is_lt (order (key_of r) (key_of t))) (s ∷ ss)) (is_sorted order key_of (s ∷ ss))
      (λ all. let parts = and_parts (list_all (λ (t : R). is_lt (order (key_of s) (key_of t))) ss) (is_sorted order key_of ss) all in and_from _ _ lt (below_more (key_of r) s ss lt parts.0))

  -- the rest of a row rises exactly if the row does, if the first is below the rest
  pub sorted_turn : (rest more : List R) (r : R) (k : K) (t : Bool) → rest ≡ r ∷ more → k ≡ key_of r → t ≡ is_below_first order key_of k more → t ≡ true → is_sorted order key_of more ≡ is_sorted order key_of rest
  sorted_turn rest more r k t is own test lt =
      sym (ap (is_sorted order key_of) is ∙ sorted_more r more (ap (λ (j : K). is_below_first order key_of j more) (sym own) ∙ sym test ∙ lt))

-- what is said of an optional value is said of the value that it is
pub some_is : {A : Type 0} (o : Option A) (a : A) (P : A → Type 0) → o ≡ Some a → IfSome o P → P a
some_is o a P is says = subst (λ (p : Option _). IfSome p P) is says

-- a row that is read from its front on, each record by itself
module _ {R : Type 0} (record_at : ℕ → Text → Option (R × Text)) where
  -- some records of the row were read, and this text is left
  abbrev pub IsLeft : Option (List R) → List R → Text → Type 0
  IsLeft whole out rest = (most : ℕ) × (k : ℕ) × (length rest ≤ most) × (whole ≡ option_map (λ more. out ++ more) (row_within record_at most k rest))

  begins : (most k : ℕ) (text : Text) → 0 < length text → row_within record_at (suc most) k text ≡ first_and_more record_at (row_within record_at most (k + 1)) (record_at k text)
  begins most k [] some = absurd (omega arith)
  begins most k (b ∷ bs) some = refl

  pub left_more : (whole : Option (List R)) (out new : List R) (rest more : Text) (r : R) → 0 < length rest → ((place : ℕ) → record_at place rest ≡ Some (r, more)) → length more < length rest → new ≡ out ++ r ∷ []
      → IsLeft whole out rest → IsLeft whole new more
  left_more whole out new rest more r some found shorter made (zero, k, le, is) = absurd (omega (arith, some, le))
  left_more whole out new rest more r some found shorter made (suc most, k, le, is) = (
    most,
    k + 1,
    omega (arith, shorter, le),
    one_more whole out r (row_within record_at (suc most) k rest) (row_within record_at most (k + 1) more) is (begins most k rest some ∙ ap (first_and_more record_at (row_within record_at most (k + 1))) (found k))
        ∙ ap (λ (front : List R). option_map (λ (back : List R). front ++ back) (row_within record_at most (k + 1) more)) (sym made),
  )

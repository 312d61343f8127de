-- The records of several buckets together: each is found under its key, and they can be sorted into one list.
use Rattle.std.proofs.Common.{◌≡◌, ℕ, zero, suc, ◌+◌, ◌<◌, ◌≤◌, Bool, true, false, cond, ◌==◌, List, [], ◌∷◌, ◌++◌, length, length-append, get_or, Option, Some, None, is_some, refl, sym, ap, ap₂, ◌∙◌, subst, arith, add-one}
use Rattle.std.proofs.lemmas.Bool.{and_parts, and_from, eqb-true, eqb-false}
use Rattle.std.proofs.lemmas.List.Elements.{All-from_recursion, recursion_from_All}
use Rattle.std.proofs.lemmas.List.Sums.{sum_by-cons, sum_by-append}
use Rattle.std.proofs.lemmas.List.Sorted.{All-permutation, sum_by-IsPermutation}
use Rattle.std.specs.declared.cmp.Ordering.{Ordering}
use Rattle.std.specs.declared.cmp.Ordering.TheVariants.{Less, Equal, Greater}
use Rattle.std.specs.Ordering.{is_lt, is_eq, eq_by_cmp, ordering_reverse}
use Rattle.std.specs.List.{list_all, sum_by, AllByRecursion}
use Rattle.std.specs.List.Sorted.{IsPermutation, IsSortedByKey}
use Rattle.ml_base.specs.Bytes.{Text}
use Rattle.ml_base.specs.Sorted.{byte_cmp, with_entry}
use Rattle.ml_base.proofs.SortedLaws.{bytes_total, same_bytes, found_with, sorted_with, length_with, found_is}
use Rattle.ml_keyed.specs.Buckets.{bucket_of, gathered, counted, found, IsOrdered, is_above, rises}
use Rattle.ml_keyed.proofs.Keys.{differ, tied, own_tie, rising_ordered, all_above_none}

-- what is found in the first place, or else in the second
abbrev or_else : {E : Type 0} → Option E → Option E → Option E
or_else None other = other
or_else (Some e) other = Some e

or_nobody : {E : Type 0} (o : Option E) → or_else o None ≡ o
or_nobody None = refl
or_nobody (Some e) = refl

module _ {E : Type 0} (key_of : E → Text) where
  abbrev AreIn : ℕ → List E → Type 0
  AreIn n xs = AllByRecursion (λ x. bucket_of (key_of x) ≡ n) xs

  found_append : (k : Text) (xs ys : List E) → found key_of k (xs ++ ys) ≡ or_else (found key_of k xs) (found key_of k ys)
  found_append k [] ys = refl
  found_append k (x ∷ xs) ys = go (eq_by_cmp byte_cmp k (key_of x)) (found_append k xs ys)
    where
      go : (t : Bool) → found key_of k (xs ++ ys) ≡ or_else (found key_of k xs) (found key_of k ys) → cond t (Some x) (found key_of k (xs ++ ys)) ≡ or_else (cond t (Some x) (found key_of k xs)) (found key_of k ys)
      go true h = refl
      go false h = h

  -- a key of another bucket is not found
  not_there : (n : ℕ) (k : Text) (xs : List E) → AreIn n xs → (bucket_of k ≡ n → ⊥) → found key_of k xs ≡ None
  not_there n k [] all apart = refl
  not_there n k (x ∷ xs) all apart = ap₂ (λ t o. cond t (Some x) o) (differ k (key_of x) (λ e. apart (ap bucket_of e ∙ all.0))) (not_there n k xs all.1 apart)

  -- the buckets of a row, every key belonging to one of them
  module _ (buckets : ℕ → List E) where
    none_gathered : (n : ℕ) → ((i : ℕ) → i < n → AreIn i (buckets i)) → (k : Text) → n ≤ bucket_of k → found key_of k (gathered buckets n) ≡ None
    none_gathered zero all k past = refl
    none_gathered (suc n) all k past =
        found_append k (gathered buckets n) (buckets n)
        ∙ ap₂ or_else (none_gathered n (λ i less. all i (omega arith)) k (omega arith)) (not_there n k (buckets n) (all n (omega arith)) (λ e. omega (arith, e)))

    found_gathered : (n : ℕ) → ((i : ℕ) → i < n → AreIn i (buckets i)) → (k : Text) → bucket_of k < n → found key_of k (gathered buckets n) ≡ found key_of k (buckets (bucket_of k))
    found_gathered zero all k less = absurd (omega arith)
    found_gathered (suc n) all k less = found_append k (gathered buckets n) (buckets n) ∙ go (bucket_of k == n) refl (found_gathered n rest k)
      where
        rest : (i : ℕ) → i < n → AreIn i (buckets i)
        rest i below = all i (omega arith)

        go : (t : Bool) → (bucket_of k == n) ≡ t → (bucket_of k < n → found key_of k (gathered buckets n) ≡ found key_of k (buckets (bucket_of k)))
            → or_else (found key_of k (gathered buckets n)) (found key_of k (buckets n)) ≡ found key_of k (buckets (bucket_of k))
        go true e more =
            let same = eqb-true (bucket_of k) n e in
            ap (λ o. or_else o (found key_of k (buckets n))) (none_gathered n rest k (omega (arith, same))) ∙ ap (λ i. found key_of k (buckets i)) (sym same)
        go false e more =
            let apart = eqb-false (bucket_of k) n e in
            ap (or_else (found key_of k (gathered buckets n))) (not_there n k (buckets n) (all n (omega arith)) apart) ∙ or_nobody (found key_of k (gathered buckets n)) ∙ more (omega (arith, less, apart))

  -- how often a key stands in a list
  abbrev hit : Text → E → ℕ
  hit k m = cond (eq_by_cmp byte_cmp k (key_of m)) 1 0

  abbrev hits : Text → List E → ℕ
  hits k ms = sum_by (hit k) ms

  none_hits : (k : Text) (xs : List E) → found key_of k xs ≡ None → hits k xs ≡ 0
  none_hits k [] e = refl
  none_hits k (x ∷ xs) e = go (eq_by_cmp byte_cmp k (key_of x)) refl (none_hits k xs)
    where
      go : (t : Bool) → eq_by_cmp byte_cmp k (key_of x) ≡ t → (found key_of k xs ≡ None → hits k xs ≡ 0) → hits k (x ∷ xs) ≡ 0
      go true is more = absurd (let bad : Some x ≡ None = sym (ap (λ t. cond t (Some x) (found key_of k xs)) is) ∙ e in cc)
      go false is more =
          let rest = more (sym (ap (λ t. cond t (Some x) (found key_of k xs)) is) ∙ e) in
          let here : hit k x ≡ 0 = ap (λ t. cond t 1 0) is in
          omega (arith, sum_by-cons (hit k) x xs, rest, here)

  no_hits : (k : Text) (xs : List E) → hits k xs ≡ 0 → found key_of k xs ≡ None
  no_hits k [] e = refl
  no_hits k (x ∷ xs) e = go (eq_by_cmp byte_cmp k (key_of x)) refl (no_hits k xs)
    where
      go : (t : Bool) → eq_by_cmp byte_cmp k (key_of x) ≡ t → (hits k xs ≡ 0 → found key_of k xs ≡ None) → found key_of k (x ∷ xs) ≡ None
      go true is more = absurd (let here : hit k x ≡ 1 = ap (λ t. cond t 1 0) is in omega (arith, sum_by-cons (hit k) x xs, e, here))
      go false is more = let here : hit k x ≡ 0 = ap (λ t. cond t 1 0) is in ap (λ t. cond t (Some x) (found key_of k xs)) is ∙ more (omega (arith, sum_by-cons (hit k) x xs, e, here))

  ordered_hits : (k : Text) (xs : List E) → IsOrdered key_of xs → hits k xs ≤ 1
  ordered_hits k [] is = omega arith
  ordered_hits k (x ∷ xs) is = go (eq_by_cmp byte_cmp k (key_of x)) refl (ordered_hits k xs)
    where
      go : (t : Bool) → eq_by_cmp byte_cmp k (key_of x) ≡ t → (IsOrdered key_of xs → hits k xs ≤ 1) → hits k (x ∷ xs) ≤ 1
      go true e more =
          let parts = and_parts (list_all (is_above key_of (key_of x)) xs) _ is in
          let here : hit k x ≡ 1 = ap (λ t. cond t 1 0) e in
          let rest = none_hits k xs (ap (λ l. found key_of l xs) (tied k (key_of x) e) ∙ all_above_none key_of (key_of x) xs parts.0) in
          omega (arith, sum_by-cons (hit k) x xs, rest, here)
      go false e more =
          let parts = and_parts (list_all (is_above key_of (key_of x)) xs) _ is in
          let here : hit k x ≡ 0 = ap (λ t. cond t 1 0) e in
          omega (arith, sum_by-cons (hit k) x xs, more parts.1, here)

  gathered_hits : (buckets : ℕ → List E) (n : ℕ) → ((i : ℕ) → i < n → AreIn i (buckets i)) → ((i : ℕ) → i < n → IsOrdered key_of (buckets i)) → (k : Text) → hits k (gathered buckets n) ≤ 1
  gathered_hits buckets zero all ordered k = omega arith
  gathered_hits buckets (suc n) all ordered k = go (bucket_of k == n) refl (gathered_hits buckets n (λ i less. all i (omega arith)) (λ i less. ordered i (omega arith)) k)
    where
      both : hits k (gathered buckets n ++ buckets n) ≡ hits k (gathered buckets n) + hits k (buckets n)
      both = sum_by-append (hit k) (gathered buckets n) (buckets n)

      go : (t : Bool) → (bucket_of k == n) ≡ t → hits k (gathered buckets n) ≤ 1 → hits k (gathered buckets n ++ buckets n) ≤ 1
      go true e more =
          let same = eqb-true (bucket_of k) n e in
          let none = none_hits k (gathered buckets n) (none_gathered buckets n (λ i less. all i (omega arith)) k (omega (arith, same))) in
          omega (arith, both, none, ordered_hits k (buckets n) (ordered n (omega arith)))
      go false e more =
          let none = none_hits k (buckets n) (not_there n k (buckets n) (all n (omega arith)) (eqb-false (bucket_of k) n e)) in
          omega (arith, both, none, more)

  -- records put into a list one after another, each in its place
  abbrev placed : List E → List E
  placed [] = []
  placed (x ∷ xs) = with_entry byte_cmp key_of x (placed xs)

  -- the records of the first buckets in one list, in order
  abbrev pub merged : (ℕ → List E) → ℕ → List E
  merged buckets n = placed (gathered buckets n)

  pub placed_ordered : (xs : List E) → IsOrdered key_of (placed xs)
  placed_ordered [] = refl
  placed_ordered (x ∷ xs) = sorted_with byte_cmp key_of same_bytes bytes_total x (placed xs) (placed_ordered xs)

  found_placed : (k : Text) (xs : List E) → found key_of k (placed xs) ≡ found key_of k xs
  found_placed k [] = refl
  found_placed k (x ∷ xs) = found_with byte_cmp key_of same_bytes bytes_total k x (placed xs) ∙ ap (cond (eq_by_cmp byte_cmp k (key_of x)) (Some x)) (found_placed k xs)

  length_placed : (xs : List E) → ((k : Text) → hits k xs ≤ 1) → length (placed xs) ≡ length xs
  length_placed [] once = refl
  length_placed (x ∷ xs) once =
      let own : hit (key_of x) x ≡ 1 = ap (λ t. cond t 1 0) (own_tie (key_of x)) in
      let none : found key_of (key_of x) (placed xs) ≡ None = found_placed (key_of x) xs ∙ no_hits (key_of x) xs (omega (arith, sum_by-cons (hit (key_of x)) x xs, once (key_of x), own)) in
      let more = length_placed xs (λ k. omega (arith, sum_by-cons (hit k) x xs, once k)) in
      let one : length (placed (x ∷ xs)) ≡ length (placed xs) + 1 =
      length_with byte_cmp key_of same_bytes bytes_total x (placed xs) (placed_ordered xs) ∙ ap (λ (o : Option E). cond (is_some o) (length (placed xs)) (length (placed xs) + 1)) none in
      omega (arith, more, one)

  length_gathered : (buckets : ℕ → List E) (n : ℕ) → length (gathered buckets n) ≡ counted buckets n
  length_gathered buckets zero = refl
  length_gathered buckets (suc n) = length-append (gathered buckets n) (buckets n) ∙ ap (λ size. size + length (buckets n)) (length_gathered buckets n)

  pub found_merged : (buckets : ℕ → List E) (n : ℕ) → ((i : ℕ) → i < n → AreIn i (buckets i)) → (k : Text) → bucket_of k < n → found key_of k (merged buckets n) ≡ found key_of k (buckets (bucket_of k))
  found_merged buckets n all k less = found_placed k (gathered buckets n) ∙ found_gathered buckets n all k less

  pub length_merged : (buckets : ℕ → List E) (n : ℕ) → ((i : ℕ) → i < n → AreIn i (buckets i)) → ((i : ℕ) → i < n → IsOrdered key_of (buckets i)) → length (merged buckets n) ≡ counted buckets n
  length_merged buckets n all ordered = length_placed (gathered buckets n) (gathered_hits buckets n all ordered) ∙ length_gathered buckets n

  -- the keys of a list don't fall
  abbrev Up : List E → Type 0
  Up xs = (k : ℕ) (d : E) → suc k < length xs → is_lt (byte_cmp (key_of (get_or xs (suc k) d)) (key_of (get_or xs k d))) ≡ false

  up_from : (xs : List E) → IsSortedByKey key_of byte_cmp xs → Up xs
  up_from xs is k d less = subst (λ (j : ℕ). is_lt (byte_cmp (key_of (get_or xs j d)) (key_of (get_or xs k d))) ≡ false) (add-one k) (is k d (omega arith) (omega arith))

  strict_from : (x : E) (xs : List E) → Up (x ∷ xs) → ((k : Text) → hits k (x ∷ xs) ≤ 1) → rises key_of (key_of x) xs ≡ true
  strict_from x [] up once = refl
  strict_from x (y ∷ ys) up once = and_from _ _ (go (byte_cmp (key_of x) (key_of y)) refl) (strict_from y ys (λ k d less. up (suc k) d (omega arith)) (λ k. fewer k))
    where
      fewer : (k : Text) → hits k (y ∷ ys) ≤ 1
      fewer k = omega (arith, sum_by-cons (hit k) x (y ∷ ys), once k)

      go : (r : Ordering) → byte_cmp (key_of x) (key_of y) ≡ r → is_lt (byte_cmp (key_of x) (key_of y)) ≡ true
      go Less e = ap is_lt e
      go Equal e =
          let first : hit (key_of x) x ≡ 1 = ap (λ t. cond t 1 0) (own_tie (key_of x)) in
          let second : hit (key_of x) y ≡ 1 = ap (λ r. cond (is_eq r) 1 0) e in
          absurd (omega (arith, sum_by-cons (hit (key_of x)) x (y ∷ ys), sum_by-cons (hit (key_of x)) y ys, once (key_of x), first, second))
      go Greater e = absurd (let bad : true ≡ false = sym (ap is_lt (bytes_total.antisymm (key_of y) (key_of x) ∙ ap ordering_reverse e)) ∙ up 0 x (omega arith) in cc)

  strict : (xs : List E) → Up xs → ((k : Text) → hits k xs ≤ 1) → IsOrdered key_of xs
  strict [] up once = refl
  strict (x ∷ xs) up once = let rest = rising_ordered key_of (key_of x) xs (strict_from x xs up once) in and_from _ _ rest.0 rest.1

  -- a record with this key is the one that is found under it, in a list in which the key stands at most once
  abbrev IsFound : Text → List E → E → Type 0
  IsFound k xs x = eq_by_cmp byte_cmp k (key_of x) ≡ true → found key_of k xs ≡ Some x

  found_after : (k : Text) (x : E) (xs ys : List E) → hits k (x ∷ xs) ≤ 1 → AllByRecursion (IsFound k xs) ys → AllByRecursion (IsFound k (x ∷ xs)) ys
  found_after k x xs [] once all = tt
  found_after k x xs (y ∷ ys) once all = (λ tie. go (eq_by_cmp byte_cmp k (key_of x)) refl (all.0 tie), found_after k x xs ys once all.1)
    where
      go : (t : Bool) → eq_by_cmp byte_cmp k (key_of x) ≡ t → found key_of k xs ≡ Some y → found key_of k (x ∷ xs) ≡ Some y
      go true is there =
          let here : hit k x ≡ 1 = ap (λ t. cond t 1 0) is in
          let none = no_hits k xs (omega (arith, sum_by-cons (hit k) x xs, once, here)) in
          absurd (let bad : None ≡ Some y = sym none ∙ there in cc)
      go false is there = ap (λ t. cond t (Some x) (found key_of k xs)) is ∙ there

  each_once : (k : Text) (xs : List E) → hits k xs ≤ 1 → AllByRecursion (IsFound k xs) xs
  each_once k [] once = tt
  each_once k (x ∷ xs) once = (λ tie. ap (λ t. cond t (Some x) (found key_of k xs)) tie, found_after k x xs xs once (each_once k xs (omega (arith, sum_by-cons (hit k) x xs, once))))

  -- what is found doesn't depend on the order if the key stands at most once
  found_moved : (k : Text) (xs ys : List E) → IsPermutation xs ys → hits k xs ≤ 1 → found key_of k ys ≡ found key_of k xs
  found_moved k xs ys moved once = go (found key_of k ys) refl
    where
      each : AllByRecursion (IsFound k xs) ys
      each = recursion_from_All (IsFound k xs) ys (All-permutation (IsFound k xs) xs ys moved (All-from_recursion (IsFound k xs) xs (each_once k xs once)))

      go : (o : Option E) → found key_of k ys ≡ o → found key_of k ys ≡ found key_of k xs
      go None e = e ∙ sym (no_hits k xs (sym (sum_by-IsPermutation (hit k) xs ys moved) ∙ none_hits k ys e))
      go (Some m) e = let there = found_is byte_cmp key_of (IsFound k xs) k m ys each e in e ∙ sym (there.0 (ap is_eq there.1))

  -- the records of the buckets, in order of key
  pub sorted_joined : (buckets : ℕ → List E) (n : ℕ) → ((i : ℕ) → i < n → AreIn i (buckets i)) → ((i : ℕ) → i < n → IsOrdered key_of (buckets i)) → (ms : List E) → IsPermutation (gathered buckets n) ms
      → IsSortedByKey key_of byte_cmp ms → IsOrdered key_of ms × ((k : Text) → bucket_of k < n → found key_of k ms ≡ found key_of k (buckets (bucket_of k)))
  sorted_joined buckets n all ordered ms moved up = (
    strict ms (up_from ms up) (λ k. omega (arith, sum_by-IsPermutation (hit k) (gathered buckets n) ms moved, gathered_hits buckets n all ordered k)),
    λ k less. found_moved k (gathered buckets n) ms moved (gathered_hits buckets n all ordered k) ∙ found_gathered buckets n all k less,
  )

-- What the files of buckets have together.
use Rattle.std.proofs.Common.{◌≡◌, ℕ, zero, suc, ◌+◌, ◌<◌, Bool, true, false, cond, ◌==◌, List, [], Option, Some, None, length, refl, sym, ap, ap₂, ◌∙◌, subst, arith, add-one}
use Rattle.std.proofs.lemmas.Bool.{eqb-true, eqb-false, eq-eqb, ne_eqb}
use Rattle.std.specs.Ordering.{eq_by_cmp}
use Rattle.std.specs.List.{AllByRecursion}
use Rattle.std.specs.List.Sorted.{IsPermutation, IsSortedByKey}
use Rattle.ml_base.specs.Bytes.{Text}
use Rattle.ml_base.specs.Sorted.{byte_cmp, with_entry, without_key}
use Rattle.ml_base.proofs.SortedLaws.{bytes_total, same_bytes, found_with, found_without, sorted_with, sorted_without, same_lists}
use Rattle.ml_keyed.specs.Buckets.{bucket_of, through, gathered, counted, AreFirst, found, IsOrdered, IsUnion}
use Rattle.ml_keyed.proofs.Keys.{bucket_below, differ}
use Rattle.ml_keyed.proofs.Union.{merged, placed_ordered, found_merged, length_merged, sorted_joined}

-- buckets of which one has these records
abbrev with_bucket : {E : Type 0} → (ℕ → List E) → ℕ → List E → ℕ → List E
with_bucket buckets n es i = cond (i == n) es (buckets i)

module _ {E : Type 0} (IsFile : ℕ → Option Text → List E → Type 0) where
  first_more : (file : ℕ → Option Text) (n : ℕ) (buckets : ℕ → List E) (es : List E) → AreFirst IsFile file n buckets → IsFile n (file n) es → AreFirst IsFile file (suc n) (with_bucket buckets n es)
  first_more file n buckets es first is i less = go (i == n) refl
    where
      go : (t : Bool) → (i == n) ≡ t → IsFile i (file i) (with_bucket buckets n es i)
      go true e = subst (λ t. IsFile i (file i) (cond t es (buckets i))) (sym e) (subst (λ (m : ℕ). IsFile m (file m) es) (sym (eqb-true i n e)) is)
      go false e = subst (λ t. IsFile i (file i) (cond t es (buckets i))) (sym e) (first i (below (eqb-false i n e)))
        where
          below : (i ≡ n → ⊥) → i < n
          below apart = omega (arith, less, apart)

  -- what a step makes of the first files, given what is chosen of each bucket
  module _ {X : Type 0} (start : X) (step : X → List E → X) (choose : List E → List E) where
    abbrev pub Reads : (ℕ → Option Text) → ℕ → X → Type 0
    Reads file n x = (buckets : ℕ → List E) × AreFirst IsFile file n buckets × (x ≡ through start step (λ i. choose (buckets i)) n)

    same_through : (f g : ℕ → List E) (n : ℕ) → ((i : ℕ) → i < n → f i ≡ g i) → through start step (λ i. choose (f i)) n ≡ through start step (λ i. choose (g i)) n
    same_through f g zero same = refl
    same_through f g (suc n) same = ap₂ (λ x es. step x (choose es)) (same_through f g n (λ i less. same i (omega arith))) (same n (omega arith))

    pub reads_none : (file : ℕ → Option Text) → Reads file 0 start
    reads_none file = (λ i. [], λ i less. absurd (omega (arith, less)), refl)

    pub reads_more : (file : ℕ → Option Text) (n : ℕ) (x : X) (es : List E) → Reads file n x → IsFile n (file n) es → Reads file (n + 1) (step x (choose es))
    reads_more file n x es before is = subst (λ (k : ℕ). Reads file k (step x (choose es))) (sym (add-one n)) (
      with_bucket before.0 n es,
      first_more file n before.0 es before.1 is,
      ap₂ (λ y own. step y (choose own)) (before.2 ∙ sym (same_through (with_bucket before.0 n es) before.0 n (λ i less. ap (λ t. cond t es (before.0 i)) (ne_eqb i n (λ e. omega (arith, e))))))
          (sym (ap (λ t. cond t es (before.0 n)) (eq-eqb n n refl))),
    )

module _ {E : Type 0} (key_of : E → Text) (IsFile : ℕ → Option Text → List E → Type 0) where
  -- only the 53 files matter
  pub union_own : (file other : ℕ → Option Text) (whole : List E) → ((n : ℕ) → n < 53 → other n ≡ file n) → IsUnion key_of IsFile file whole → IsUnion key_of IsFile other whole
  union_own file other whole same is = record {
    sorted = is.sorted;
    buckets = is.buckets;
    files = λ n less. subst (λ (f : Option Text). IsFile n f (is.buckets n)) (sym (same n less)) (is.files n less);
    by_key = is.by_key;
  }

  -- files without a record
  pub union_nothing : (file : ℕ → Option Text) → ((n : ℕ) → n < 53 → IsFile n (file n) []) → IsUnion key_of IsFile file []
  union_nothing file none = record { sorted = refl; buckets = λ n. []; files = none; by_key = λ k. refl }

  -- if every file has only keys of its number, in order
  module _ (hashed : (n : ℕ) (file : Option Text) (es : List E) → IsFile n file es → AllByRecursion (λ e. bucket_of (key_of e) ≡ n) es) (ordered : (n : ℕ) (file : Option Text) (es : List E) → IsFile n file es → IsOrdered key_of es) where
    pub union_of : (file : ℕ → Option Text) (buckets : ℕ → List E) → AreFirst IsFile file 53 buckets → IsUnion key_of IsFile file (merged key_of buckets 53)
    union_of file buckets files = record {
      sorted = placed_ordered key_of (gathered buckets 53);
      buckets = buckets;
      files = files;
      by_key = λ k. found_merged key_of buckets 53 (λ i less. hashed i (file i) (buckets i) (files i less)) k (bucket_below k);
    }

    pub length_of : (file : ℕ → Option Text) (buckets : ℕ → List E) → AreFirst IsFile file 53 buckets → length (merged key_of buckets 53) ≡ counted buckets 53
    length_of file buckets files = length_merged key_of buckets 53 (λ i less. hashed i (file i) (buckets i) (files i less)) (λ i less. ordered i (file i) (buckets i) (files i less))

    -- the records of all files, in order of key
    pub union_sorted : (file : ℕ → Option Text) (buckets : ℕ → List E) (es : List E) → AreFirst IsFile file 53 buckets → IsPermutation (gathered buckets 53) es → IsSortedByKey key_of byte_cmp es → IsUnion key_of IsFile file es
    union_sorted file buckets es files moved up =
        let joined = sorted_joined key_of buckets 53 (λ i less. hashed i (file i) (buckets i) (files i less)) (λ i less. ordered i (file i) (buckets i) (files i less)) es moved up in
        record { sorted = joined.0; buckets = buckets; files = files; by_key = λ k. joined.1 k (bucket_below k) }

  -- if a file has at most one row of records
  module _ (one : (n : ℕ) (file : Option Text) (es others : List E) → IsFile n file es → IsFile n file others → es ≡ others) where
    -- what is under a key is what the key's file has
    pub found_there : (file : ℕ → Option Text) (whole bucket : List E) (k : Text) → IsUnion key_of IsFile file whole → IsFile (bucket_of k) (file (bucket_of k)) bucket → found key_of k whole ≡ found key_of k bucket
    found_there file whole bucket k is there = is.by_key k ∙ ap (found key_of k) (one (bucket_of k) (file (bucket_of k)) (is.buckets (bucket_of k)) bucket (is.files (bucket_of k) (bucket_below k)) there)

    pub union_one : (file : ℕ → Option Text) (whole other : List E) → IsUnion key_of IsFile file whole → IsUnion key_of IsFile file other → whole ≡ other
    union_one file whole other is also =
        same_lists byte_cmp key_of same_bytes bytes_total whole other is.sorted also.sorted
        (λ k. found_there file whole (also.buckets (bucket_of k)) k is (also.files (bucket_of k) (bucket_below k)) ∙ sym (also.by_key k))

    -- one file, that of a key, was written anew
    module _ (file after : ℕ → Option Text) (whole bucket : List E) (a : Text) (bytes : Option Text) (left : (n : ℕ) → after n ≡ cond (n == bucket_of a) bytes (file n)) (is : IsUnion key_of IsFile file whole)
        (there : IsFile (bucket_of a) (file (bucket_of a)) bucket) where
      anew : (new written : List E) → IsFile (bucket_of a) bytes written → IsOrdered key_of new → ((k : Text) → found key_of k whole ≡ found key_of k bucket → found key_of k new ≡ found key_of k written)
          → ((k : Text) → eq_by_cmp byte_cmp k a ≡ false → found key_of k new ≡ found key_of k whole) → IsUnion key_of IsFile after new
      anew new written made sorted same kept = record {
        sorted = sorted;
        buckets = with_bucket is.buckets (bucket_of a) written;
        files = λ n less. subst (λ (f : Option Text). IsFile n f (with_bucket is.buckets (bucket_of a) written n)) (sym (left n)) (at n less (n == bucket_of a) refl);
        by_key = λ k. under k (bucket_of k == bucket_of a) refl;
      }
        where
          at : (n : ℕ) → n < 53 → (t : Bool) → (n == bucket_of a) ≡ t → IsFile n (cond (n == bucket_of a) bytes (file n)) (cond (n == bucket_of a) written (is.buckets n))
          at n less true e = rw e (subst (λ (m : ℕ). IsFile m bytes written) (sym (eqb-true n (bucket_of a) e)) made)
          at n less false e = rw e (is.files n less)

          under : (k : Text) (t : Bool) → (bucket_of k == bucket_of a) ≡ t → found key_of k new ≡ found key_of k (cond (bucket_of k == bucket_of a) written (is.buckets (bucket_of k)))
          under k true e =
              same k (found_there file whole bucket k is (subst (λ (n : ℕ). IsFile n (file n) bucket) (sym (eqb-true (bucket_of k) (bucket_of a) e)) there))
              ∙ sym (ap (λ t. found key_of k (cond t written (is.buckets (bucket_of k)))) e)
          under k false e =
              kept k (differ k a (λ own. eqb-false (bucket_of k) (bucket_of a) e (ap bucket_of own))) ∙ is.by_key k ∙ sym (ap (λ t. found key_of k (cond t written (is.buckets (bucket_of k)))) e)

      -- a record is put into its place
      pub put_there : (e : E) → key_of e ≡ a → IsFile (bucket_of a) bytes (with_entry byte_cmp key_of e bucket) → IsUnion key_of IsFile after (with_entry byte_cmp key_of e whole)
      put_there e own made =
          anew (with_entry byte_cmp key_of e whole) (with_entry byte_cmp key_of e bucket) made (sorted_with byte_cmp key_of same_bytes bytes_total e whole is.sorted)
          (λ k same. found_with byte_cmp key_of same_bytes bytes_total k e whole ∙ ap (cond (eq_by_cmp byte_cmp k (key_of e)) (Some e)) same ∙ sym (found_with byte_cmp key_of same_bytes bytes_total k e bucket))
          (λ k other. found_with byte_cmp key_of same_bytes bytes_total k e whole ∙ ap (λ t. cond t (Some e) (found key_of k whole)) (ap (eq_by_cmp byte_cmp k) own ∙ other))

      -- a key is taken out
      pub taken_there : IsFile (bucket_of a) bytes (without_key byte_cmp key_of a bucket) → IsUnion key_of IsFile after (without_key byte_cmp key_of a whole)
      taken_there made =
          anew (without_key byte_cmp key_of a whole) (without_key byte_cmp key_of a bucket) made (sorted_without byte_cmp key_of same_bytes bytes_total a whole is.sorted)
          (λ k same. found_without byte_cmp key_of same_bytes bytes_total k a whole ∙ ap (cond (eq_by_cmp byte_cmp k a) None) same ∙ sym (found_without byte_cmp key_of same_bytes bytes_total k a bucket))
          (λ k other. found_without byte_cmp key_of same_bytes bytes_total k a whole ∙ ap (λ t. cond t None (found key_of k whole)) other)

-- After an append, the files that it wrote stand for the archive with one more post.
use Rattle.std.proofs.Common.{◌≡◌, ◌<◌, ◌≤◌, ◌+◌, ◌/◌, ℕ, Bool, true, false, cond, ◌==◌, List, [], ◌∷◌, ◌++◌, length, filter, Option, Some, refl, sym, ap, ◌∙◌, subst, arith, append-nil, length-append, ◌⊎◌, inl, inr}
use Rattle.std.specs.Prelude.{unwrap_or, IsTrue}
use Rattle.std.specs.Cmp.{nat_cmp_is}
use Rattle.std.specs.List.{AllByRecursion, enumerate_from, flat_map, list_all}
use Rattle.std.specs.Option.{option_map}
use Rattle.std.specs.Ordering.{nat_cmp, is_lt, eq_by_cmp}
use Rattle.std.specs.declared.cmp.Ordering.TheVariants.{Less}
use Rattle.std.specs.Str.{bytes_eq}
use Rattle.std.proofs.lemmas.Bool.{cases_lt, eqb-true, eqb-false, ne_eqb, le-leb, and_from}
use Rattle.std.proofs.lemmas.Map.Text.{is_eq-slice_cmp}
use Rattle.std.proofs.lemmas.Slice.Eq.{bytes_eq-Decides}
use Rattle.ml_base.specs.Bytes.{Text}
use Rattle.ml_base.specs.Dir.{Dir, with_puts}
use Rattle.ml_base.specs.Name.{is_in_table}
use Rattle.ml_base.specs.Ranges.{is_post_number}
use Rattle.ml_base.specs.Sorted.{byte_cmp, entry_of, is_sorted}
use Rattle.ml_base.proofs.SortedLaws.{same_bytes, bytes_total, found_with}
use Rattle.ml_keyed.proofs.Exact.{text_added}
use Rattle.ml_filing.specs.Appending.{append, next_number, next_post, CanAppend, with_number, append_puts}
use Rattle.ml_filing.specs.Archive.{IsEntry, IsIndexFile, post_name, index_name, number_text, entry_text}
use Rattle.ml_filing.specs.Posts.{Numbered, of_key, key_of, numbers, entry, index_of, post_at, IsPost}
use Rattle.ml_filing.specs.Threads.{Thread, IsThread, IsThreadFile, IsArchive, thread_place, thread_name, thread_text, numbers_under}
use Rattle.ml_filing.specs.declared.posts.Post.{Post}
use Rattle.ml_filing.proofs.Exact.{threads_one}
use Rattle.ml_filing.proofs.KeyLengths.{key_short}
use Rattle.ml_filing.proofs.OneMore.{post_new, post_kept, post_past, key_on, index_file_on, index_file_kept, all_on}

-- numbers that rise, from a lower bound on and below an upper one
abbrev pub Rising : ℕ → ℕ → List ℕ → Type 0
Rising low high [] = Unit {0}
Rising low high (m ∷ ms) = (low ≤ m) × (m < high) × Rising (m + 1) high ms

pub rising_lower : (low lower high : ℕ) (ms : List ℕ) → lower ≤ low → Rising low high ms → Rising lower high ms
rising_lower low lower high [] le is = tt
rising_lower low lower high (m ∷ ms) le is = let first = is.0 in (omega (arith, le, first), is.1, is.2)

filtered_rises : (f : Numbered → Bool) (k high : ℕ) (posts : List Post) → k + length posts ≤ high → Rising k high (numbers (filter f (enumerate_from k posts)))
filtered_rises f k high [] le = tt
filtered_rises f k high (x ∷ xs) le = go (f (k, x)) (filtered_rises f (k + 1) high xs (omega (arith, le)))
  where
    go : (t : Bool) → Rising (k + 1) high (numbers (filter f (enumerate_from (k + 1) xs))) → Rising k high (numbers (cond t ((k, x) ∷ filter f (enumerate_from (k + 1) xs)) (filter f (enumerate_from (k + 1) xs))))
    go true more = (omega arith, omega (arith, le), more)
    go false more = rising_lower (k + 1) k high (numbers (filter f (enumerate_from (k + 1) xs))) (omega arith) more

is_less : (a b : ℕ) → a < b → is_lt (nat_cmp a b) ≡ true
is_less a b less = sym (ap is_lt (nat_cmp_is a b Less less))

rising_above : (j low high : ℕ) (ms : List ℕ) → j < low → Rising low high ms → list_all (λ m. is_lt (nat_cmp j m)) ms ≡ true
rising_above j low high [] less is = refl
rising_above j low high (m ∷ ms) less is =
    let first = is.0 in and_from _ _ (is_less j m (omega (arith, less, first))) (rising_above j (m + 1) high ms (omega (arith, less, first)) is.2)

pub rising_sorted : (low high : ℕ) (ms : List ℕ) → Rising low high ms → is_sorted nat_cmp (λ m. m) ms ≡ true
rising_sorted low high [] is = refl
rising_sorted low high (m ∷ ms) is = and_from _ _ (rising_above m (m + 1) high ms (omega arith) is.2) (rising_sorted (m + 1) high ms is.2)

pub rising_posts : (low high : ℕ) (ms : List ℕ) → 1 ≤ low → high ≤ 100_000_000 → Rising low high ms → AllByRecursion (λ m. IsTrue (is_post_number m)) ms
rising_posts low high [] one few is = tt
rising_posts low high (m ∷ ms) one few is =
    let a = is.0 in let b = is.1 in
    (and_from _ _ (le-leb 1 m (omega (arith, one, a))) (le-leb m 99_999_999 (omega (arith, few, b))), rising_posts (m + 1) high ms (omega arith) few is.2)

-- two tests of texts say the same
same_test : (a b : Text) → eq_by_cmp byte_cmp a b ≡ bytes_eq b a
same_test a b = is_eq-slice_cmp a b ∙ turned (bytes_eq b a) refl
  where
    turned : (t : Bool) → bytes_eq b a ≡ t → bytes_eq a b ≡ t
    turned true is = (bytes_eq-Decides a b).1 (sym ((bytes_eq-Decides b a).0 is))
    turned false is = other (bytes_eq a b) refl
      where
        other : (u : Bool) → bytes_eq a b ≡ u → bytes_eq a b ≡ false
        other false e = e
        other true e = absurd (let bad : true ≡ false = sym ((bytes_eq-Decides b a).1 (sym ((bytes_eq-Decides a b).0 e))) ∙ is in cc)

module _ (dir : Dir) (prefix : Text) (posts : List Post) (p : Post) (threads : List Thread) (is : IsArchive dir prefix posts) (can : CanAppend posts p)
    (file : IsThreadFile (thread_place (key_of prefix p)) (dir (thread_name (thread_place (key_of prefix p)))) threads) where
  abbrev k : Text
  k = key_of prefix p

  abbrev place : ℕ
  place = thread_place k

  abbrev index : Text
  index = unwrap_or (dir (index_name (next_number posts / 100))) []

  abbrev new : Dir
  new = with_puts dir (append_puts prefix (next_number posts) p index threads)

  abbrev longer : List Post
  longer = append p posts

  small : next_number posts ≤ 99_999_999
  small = let room = can.room in omega (arith, room)

  entry_is : IsEntry (entry (next_post posts p))
  entry_is = let s = can.subject in record { moment = (can.is).moment; sender = (can.is).sender; size = (can.is).size; short = omega (arith, s) }

  place_below : place < 256
  place_below = omega arith

  -- the threads that were read from the key's file are those that the archive has there
  same_threads : threads ≡ (is.threaded).threads place
  same_threads = threads_one place (dir (thread_name place)) threads ((is.threaded).threads place) file ((is.threaded).files place place_below)

  under_key : numbers_under k threads ≡ numbers (of_key prefix k posts)
  under_key = ap (numbers_under k) same_threads ∙ (is.threaded).by_key k

  numbers_on : (xs : List Numbered) (e : Numbered) → numbers (xs ++ e ∷ []) ≡ numbers xs ++ e.0 ∷ []
  numbers_on [] e = refl
  numbers_on (x ∷ xs) e = ap (λ t. x.0 ∷ t) (numbers_on xs e)

  new_numbers : numbers (of_key prefix k longer) ≡ numbers_under k threads ++ next_number posts ∷ []
  new_numbers =
      ap numbers (key_on prefix k posts p ∙ ap (λ b. of_key prefix k posts ++ cond b (next_post posts p ∷ []) []) ((bytes_eq-Decides k k).1 refl))
      ∙ numbers_on (of_key prefix k posts) (next_post posts p) ∙ ap (λ ns. ns ++ next_number posts ∷ []) (sym under_key)

  rises : Rising 1 (next_number posts + 1) (numbers_under k threads ++ next_number posts ∷ [])
  rises =
      let size = length-append posts (p ∷ []) in
      subst (λ ns. Rising 1 (next_number posts + 1) ns) new_numbers
      (filtered_rises (λ (e : Numbered). bytes_eq (key_of prefix e.1) k) 1 (next_number posts + 1) longer (omega (arith, size)))

  abbrev thread : Thread
  thread = record { key = k; numbers = numbers_under k threads ++ next_number posts ∷ [] }

  thread_is : IsThread place thread
  thread_is =
      let short = key_short prefix p.subject in
      let subject = can.subject in
      let size = length-append (numbers_under k threads) (next_number posts ∷ []) in
      record {
        hashed = refl;
        short = omega (arith, short, subject);
        some = omega (arith, size);
        each = rising_posts 1 (next_number posts + 1) (numbers_under k threads ++ next_number posts ∷ []) (omega arith) (let s = small in omega (arith, s)) rises;
        ascending = rising_sorted 1 (next_number posts + 1) (numbers_under k threads ++ next_number posts ∷ []) rises;
      }

  thread_file : IsThreadFile place (Some (flat_map thread_text (with_number k (next_number posts) threads))) (with_number k (next_number posts) threads)
  thread_file = text_added IsThread (λ (t : Thread). t.key) thread_text place (dir (thread_name place)) thread threads thread_is file

  abbrev all_threads : Bool → ℕ → List Thread
  all_threads here m = cond here (with_number k (next_number posts) threads) ((is.threaded).threads m)

  thread_files : (m : ℕ) → m < 256 → IsThreadFile m (new (thread_name m)) (all_threads (m == place) m)
  thread_files m less = go (m == place) refl
    where
      go : (t : Bool) → (m == place) ≡ t → IsThreadFile m (cond (m == place) (Some (flat_map thread_text (with_number k (next_number posts) threads))) (dir (thread_name m))) (all_threads (m == place) m)
      go true here = rw here (subst (λ x. IsThreadFile x (Some (flat_map thread_text (with_number k (next_number posts) threads))) (with_number k (next_number posts) threads)) (sym (eqb-true m place here)) thread_file)
      go false away = rw away ((is.threaded).files m less)

  -- the numbers under any key once the new post's number is added
  under_found : (q : Text) (t : Bool) → bytes_eq k q ≡ t → numbers_under q (with_number k (next_number posts) threads) ≡ cond t (numbers_under k threads ++ next_number posts ∷ []) (numbers_under q threads)
  under_found q t e =
      ap (λ (o : Option Thread). unwrap_or (option_map (λ (t : Thread). t.numbers) o) []) (found_with byte_cmp (λ (t : Thread). t.key) same_bytes bytes_total q thread threads ∙ ap (λ b. cond b (Some thread) (entry_of byte_cmp (λ (t : Thread). t.key) q threads)) (same_test q k ∙ e))
      ∙ chosen t
    where
      chosen : (t : Bool) → unwrap_or (option_map (λ (t : Thread). t.numbers) (cond t (Some thread) (entry_of byte_cmp (λ (t : Thread). t.key) q threads))) [] ≡ cond t (numbers_under k threads ++ next_number posts ∷ []) (numbers_under q threads)
      chosen true = refl
      chosen false = refl

  of_key_kept : (q : Text) → bytes_eq k q ≡ false → numbers (of_key prefix q longer) ≡ numbers (of_key prefix q posts)
  of_key_kept q e = ap numbers (key_on prefix q posts p ∙ ap (λ b. of_key prefix q posts ++ cond b (next_post posts p ∷ []) []) e ∙ append-nil (of_key prefix q posts))

  by_key : (q : Text) → numbers_under q (all_threads (thread_place q == place) (thread_place q)) ≡ numbers (of_key prefix q longer)
  by_key q = go (bytes_eq k q) refl (thread_place q == place) refl
    where
      go : (t : Bool) → bytes_eq k q ≡ t → (u : Bool) → (thread_place q == place) ≡ u → numbers_under q (all_threads (thread_place q == place) (thread_place q)) ≡ numbers (of_key prefix q longer)
      go true e true here = ap (λ b. numbers_under q (all_threads b (thread_place q))) here ∙ under_found q true e ∙ sym new_numbers ∙ ap (λ x. numbers (of_key prefix x longer)) ((bytes_eq-Decides k q).0 e)
      go true e false away = absurd (eqb-false (thread_place q) place away (ap thread_place (sym ((bytes_eq-Decides k q).0 e))))
      go false e true here =
          ap (λ b. numbers_under q (all_threads b (thread_place q))) here ∙ under_found q false e
          ∙ ap (numbers_under q) (same_threads ∙ ap (is.threaded).threads (sym (eqb-true (thread_place q) place here))) ∙ (is.threaded).by_key q ∙ sym (of_key_kept q e)
      go false e false away = ap (λ b. numbers_under q (all_threads b (thread_place q))) away ∙ (is.threaded).by_key q ∙ sym (of_key_kept q e)

  posts_files : (m : ℕ) → IsTrue (is_in_table (post_name m)) → new (post_name m) ≡ option_map (λ (p : Post). p.bytes) (post_at longer m)
  posts_files m there = go (m == next_number posts) refl
    where
      go : (t : Bool) → (m == next_number posts) ≡ t → cond (m == next_number posts) (Some p.bytes) (dir (post_name m)) ≡ option_map (λ (p : Post). p.bytes) (post_at longer m)
      go true here = rw here (sym (ap (option_map (λ (p : Post). p.bytes)) (post_new posts p m (eqb-true m (next_number posts) here))))
      go false away = rw away ((is.filed).files m there ∙ sym (ap (option_map (λ (p : Post). p.bytes)) (other (cases_lt m (next_number posts)))))
        where
          other : ((m < next_number posts) ⊎ (next_number posts ≤ m)) → post_at longer m ≡ post_at posts m
          other (inl less) = post_kept posts p m (omega (arith, less))
          other (inr high) = let not_same = eqb-false m (next_number posts) away in post_past posts p m (omega (arith, high, not_same))

  index_files : (g : ℕ) → IsTrue (is_in_table (index_name g)) → IsIndexFile g (new (index_name g)) (index_of g longer)
  index_files g there = go (g == (next_number posts / 100)) refl
    where
      go : (t : Bool) → (g == (next_number posts / 100)) ≡ t → IsIndexFile g (cond (g == (next_number posts / 100)) (Some (index ++ entry_text (entry (next_post posts p)))) (dir (index_name g))) (index_of g longer)
      go true here =
          let is_g = eqb-true g (next_number posts / 100) here in
          rw here (subst (λ f. IsIndexFile g (Some (unwrap_or (dir (index_name f)) [] ++ entry_text (entry (next_post posts p)))) (index_of g longer)) is_g
          (index_file_on g posts p (dir (index_name g)) (sym is_g) entry_is ((is.filed).indexes g there)))
      go false away = rw away (index_file_kept g posts p (dir (index_name g)) (ne_eqb (next_number posts / 100) g (λ e. eqb-false g (next_number posts / 100) away (sym e))) ((is.filed).indexes g there))

  pub appended : IsArchive new prefix longer
  appended = record {
    filed = record {
      each = all_on IsPost posts p (is.filed).each can.is;
      files = posts_files;
      indexes = index_files;
      counted = let size = length-append posts (p ∷ []) in record { few = (let s = small in omega (arith, size, s)); spelled = ap (λ m. Some (number_text m)) (let e : next_number posts ≡ length longer = omega (arith, size) in e) };
    };
    threaded = record {
      threads = λ m. all_threads (m == place) m;
      files = thread_files;
      by_key = by_key;
    };
  }

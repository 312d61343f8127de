-- The thread of a post that is read from a few files is the same as if all posts were filtered.
use Rattle.std.proofs.Common.{◌≡◌, ◌<◌, ◌≤◌, ◌+◌, ◌-◌, ◌/◌, ℕ, zero, suc, Bool, true, false, cond, ◌&&◌, List, [], ◌∷◌, length, map, filter, take, slice_get, Some, refl, sym, ap, ap₂, ◌∙◌, subst, arith}
use Rattle.std.specs.Prelude.{IsTrue, nat_lt, nat_le}
use Rattle.std.specs.List.{AllByRecursion, AllZip, enumerate_from, IsAmong}
use Rattle.std.specs.Option.{option_map}
use Rattle.std.specs.Str.{bytes_eq}
use Rattle.std.proofs.lemmas.Nat.{div_below}
use Rattle.std.proofs.lemmas.Slice.Eq.{bytes_eq-Decides}
use Rattle.ml_base.specs.Bytes.{Text}
use Rattle.ml_base.specs.Cuts.{within, one_or_within}
use Rattle.ml_base.specs.Dir.{Dir}
use Rattle.ml_base.specs.Name.{is_in_table}
use Rattle.ml_rows.proofs.RowLaws.{one_some, none_some}
use Rattle.ml_filing.specs.Archive.{IsIndexFile, index_name}
use Rattle.ml_filing.specs.Posts.{Numbered, of_key, key_of, in_thread, as_post, cut, numbers, size_of, entry, index_of}
use Rattle.ml_filing.specs.Subjects.{subject_key}
use Rattle.ml_filing.specs.Threads.{IsArchive, IsThreadByFiles, entry_at, numbers_under, thread_name, thread_place}
use Rattle.ml_filing.specs.declared.posts.Entry.{Entry}
use Rattle.ml_filing.specs.declared.posts.Post.{Post}
use Rattle.ml_filing.proofs.Exact.{index_one, threads_one}
use Rattle.ml_filing.proofs.Represented.{looked_up, in_table, get_some}

-- cutting a row that a function makes of another one
module _ {A B : Type 0} (f : A → B) (size : B → ℕ) where
  within_made : (count room : ℕ) (xs : List A) → within size count room (map f xs) ≡ map f (within (λ x. size (f x)) count room xs)
  within_made count room [] = refl
  within_made count room (x ∷ xs) = go (nat_lt 0 count && nat_le (size (f x)) room) (within_made (count - 1) (room - size (f x)) xs)
    where
      go : (t : Bool) → within size (count - 1) (room - size (f x)) (map f xs) ≡ map f (within (λ x. size (f x)) (count - 1) (room - size (f x)) xs)
          → cond t (f x ∷ within size (count - 1) (room - size (f x)) (map f xs)) [] ≡ map f (cond t (x ∷ within (λ x. size (f x)) (count - 1) (room - size (f x)) xs) [])
      go true more = ap (λ t. f x ∷ t) more
      go false more = refl

  pub cut_made : (count room : ℕ) (xs : List A) → one_or_within size count room (map f xs) ≡ map f (one_or_within (λ x. size (f x)) count room xs)
  cut_made count room [] = refl
  cut_made count room (x ∷ xs) = go (nat_le (size (f x)) room)
    where
      go : (t : Bool) → cond t (f x ∷ within size (count - 1) (room - size (f x)) (map f xs)) (f x ∷ []) ≡ map f (cond t (x ∷ within (λ x. size (f x)) (count - 1) (room - size (f x)) xs) (x ∷ []))
      go true = ap (λ t. f x ∷ t) (within_made (count - 1) (room - size (f x)) xs)
      go false = refl

-- a cut takes no more things than it may
module _ {A : Type 0} (size : A → ℕ) where
  within_taken : (count room : ℕ) (xs : List A) → within size count room (take count xs) ≡ within size count room xs
  within_taken zero room [] = refl
  within_taken zero room (x ∷ xs) = refl
  within_taken (suc count) room [] = refl
  within_taken (suc count) room (x ∷ xs) =
      let one : suc count - 1 ≡ count = omega arith in
      go (nat_lt 0 (suc count) && nat_le (size x) room)
      (ap (λ c. within size c (room - size x) (take count xs)) one ∙ within_taken count (room - size x) xs ∙ sym (ap (λ c. within size c (room - size x) xs) one))
    where
      go : (t : Bool) → within size (suc count - 1) (room - size x) (take count xs) ≡ within size (suc count - 1) (room - size x) xs
          → cond t (x ∷ within size (suc count - 1) (room - size x) (take count xs)) [] ≡ cond t (x ∷ within size (suc count - 1) (room - size x) xs) []
      go true more = ap (λ t. x ∷ t) more
      go false more = refl

  cut_taken : (room : ℕ) (xs : List A) → one_or_within size 100 room (take 100 xs) ≡ one_or_within size 100 room xs
  cut_taken room [] = refl
  cut_taken room (x ∷ xs) = go (nat_le (size x) room)
    where
      go : (t : Bool) → cond t (x ∷ within size 99 (room - size x) (take 99 xs)) (x ∷ []) ≡ cond t (x ∷ within size 99 (room - size x) xs) (x ∷ [])
      go true = ap (λ t. x ∷ t) (within_taken 99 (room - size x) xs)
      go false = refl

numbers_made : (xs : List Numbered) → map (λ (e : Entry). e.number) (map entry xs) ≡ numbers xs
numbers_made [] = refl
numbers_made (x ∷ xs) = ap (λ t. x.0 ∷ t) (numbers_made xs)

-- cutting the first hundred entries gives the same numbers as cutting all posts
pub cut_entries : (xs : List Numbered) → map (λ (e : Entry). e.number) (one_or_within (λ (e : Entry). e.size) 100 4_194_304 (map entry (take 100 xs))) ≡ numbers (cut xs)
cut_entries xs =
    ap (map (λ (e : Entry). e.number)) (cut_made entry (λ (e : Entry). e.size) 100 4_194_304 (take 100 xs))
    ∙ numbers_made (one_or_within size_of 100 4_194_304 (take 100 xs)) ∙ ap numbers (cut_taken size_of 4_194_304 xs)

pub take_numbers : (k : ℕ) (xs : List Numbered) → take k (numbers xs) ≡ numbers (take k xs)
take_numbers zero xs = refl
take_numbers (suc k) [] = refl
take_numbers (suc k) (x ∷ xs) = ap (λ t. x.0 ∷ t) (take_numbers k xs)

-- a numbered post is one of the list
abbrev pub IsOne : List Post → Numbered → Type 0
IsOne posts e = (i : ℕ) × (e.0 ≡ suc i) × (slice_get posts i ≡ Some e.1)

pub filtered_ones : (posts : List Post) (f : Numbered → Bool) (k : ℕ) (xs : List Post) → ((j : ℕ) → slice_get posts (k + j) ≡ slice_get xs j) → AllByRecursion (IsOne posts) (filter f (enumerate_from (k + 1) xs))
filtered_ones posts f k [] there = tt
filtered_ones posts f k (x ∷ xs) there =
    go (f (k + 1, x))
    (filtered_ones posts f (k + 1) xs (λ j. let e : (k + 1) + j ≡ k + suc j = omega arith in ap (slice_get posts) e ∙ there (suc j)))
  where
    here : IsOne posts (k + 1, x)
    here = let zeroth : k + 0 ≡ k = omega arith in let one : k + 1 ≡ suc k = omega arith in (k, one, ap (slice_get posts) (sym zeroth) ∙ there 0)

    go : (t : Bool) → AllByRecursion (IsOne posts) (filter f (enumerate_from ((k + 1) + 1) xs)) → AllByRecursion (IsOne posts) (cond t ((k + 1, x) ∷ filter f (enumerate_from ((k + 1) + 1) xs)) (filter f (enumerate_from ((k + 1) + 1) xs)))
    go true more = (here, more)
    go false more = more

pub taken_all : {A : Type 0} (P : A → Type 0) (k : ℕ) (xs : List A) → AllByRecursion P xs → AllByRecursion P (take k xs)
taken_all P zero xs all = tt
taken_all P (suc k) [] all = tt
taken_all P (suc k) (x ∷ xs) all = (all.0, taken_all P k xs all.1)

module _ (dir : Dir) (prefix : Text) (posts : List Post) (is : IsArchive dir prefix posts) where
  few : length posts ≤ 99_999_999
  few = ((is.filed).counted).few

  within_list : (i : ℕ) (p : Post) → slice_get posts i ≡ Some p → i < length posts
  within_list i p e = go posts i e
    where
      go : (ps : List Post) (i : ℕ) → slice_get ps i ≡ Some p → i < length ps
      go [] i e = absurd (none_some p e)
      go (x ∷ xs) zero e = omega arith
      go (x ∷ xs) (suc i) e = let more = go xs i e in omega (arith, more)

  group_there : (i : ℕ) → i < length posts → IsTrue (is_in_table (index_name (suc i / 100)))
  group_there i less =
      let f = few in
      let low : suc i / 100 < 1_000_000 = div_below (suc i) 100 1_000_000 (omega arith) (omega (arith, less, f)) in
      in_table 10 (suc i / 100) 0 999_999 refl refl (omega arith) (omega (arith, low))

  -- the entry of a post is in the index of its group
  own_entry : (m i : ℕ) (p : Post) → m ≡ suc i → slice_get posts i ≡ Some p → entry_at m (index_of (m / 100) posts) ≡ Some (entry (m, p))
  own_entry m i p e get = looked_up 1 m i posts (omega (arith, e)) ∙ ap (option_map (λ (p : Post). entry (m, p))) get

  index_there : (m i : ℕ) → m ≡ suc i → i < length posts → IsIndexFile (m / 100) (dir (index_name (m / 100))) (index_of (m / 100) posts)
  index_there m i e less = subst (λ (m : ℕ). IsIndexFile (m / 100) (dir (index_name (m / 100))) (index_of (m / 100) posts)) (sym e) ((is.filed).indexes (suc i / 100) (group_there i less))

  place_below : (k : Text) → thread_place k < 256
  place_below k = omega arith

  -- entries that are found in indexes which the files spell
  abbrev IsFound : (ℕ → List Entry) → ℕ → Entry → Type 0
  IsFound indexes m e = IsIndexFile (m / 100) (dir (index_name (m / 100))) (indexes (m / 100)) × (entry_at m (indexes (m / 100)) ≡ Some e)

  found_one : (indexes : ℕ → List Entry) (x : Numbered) (e : Entry) → IsOne posts x → IsFound indexes x.0 e → e ≡ entry x
  found_one indexes x e one found =
      let less = within_list one.0 x.1 one.2 in
      let same = index_one (x.0 / 100) (dir (index_name (x.0 / 100))) (indexes (x.0 / 100)) (index_of (x.0 / 100) posts) found.0 (index_there x.0 one.0 one.1 less) in
      one_some e (entry x) (sym found.1 ∙ ap (entry_at x.0) same ∙ own_entry x.0 one.0 x.1 one.1 one.2)

  found_all : (indexes : ℕ → List Entry) (xs : List Numbered) (es : List Entry) → AllByRecursion (IsOne posts) xs → AllZip (IsFound indexes) (numbers xs) es → es ≡ map entry xs
  found_all indexes [] [] ones all = refl
  found_all indexes [] (e ∷ es) ones all = absurd all
  found_all indexes (x ∷ xs) [] ones all = absurd all
  found_all indexes (x ∷ xs) (e ∷ es) ones all = ap₂ (λ (a : Entry) (rest : List Entry). a ∷ rest) (found_one indexes x e ones.0 all.0) (found_all indexes xs es ones.1 all.1)

  all_found : (xs : List Numbered) → AllByRecursion (IsOne posts) xs → AllZip (IsFound (λ g. index_of g posts)) (numbers xs) (map entry xs)
  all_found [] ones = tt
  all_found (x ∷ xs) ones =
      let one = ones.0 in
      let less = within_list one.0 x.1 one.2 in
      ((index_there x.0 one.0 one.1 less, own_entry x.0 one.0 x.1 one.1 one.2), all_found xs ones.1)

  key_ones : (k : Text) → AllByRecursion (IsOne posts) (take 100 (of_key prefix k posts))
  key_ones k = taken_all (IsOne posts) 100 (of_key prefix k posts) (filtered_ones posts (λ (e : Numbered). bytes_eq (key_of prefix e.1) k) 0 posts (λ j. let e : 0 + j ≡ j = omega arith in ap (slice_get posts) e))

  thread_is : (i : ℕ) (p : Post) → slice_get posts i ≡ Some p → in_thread prefix (suc i) posts ≡ of_key prefix (key_of prefix p) posts
  thread_is i p get = ap (as_post prefix posts) get

  pub same_thread : (n : ℕ) (answer : List ℕ) → 1 ≤ n → n ≤ length posts → IsThreadByFiles dir prefix n answer → answer ≡ numbers (cut (in_thread prefix n posts))
  same_thread zero answer low high by = absurd (omega (arith, low))
  same_thread (suc i) answer low high by =
      let p = get_some posts i (omega (arith, high)) in
      let index = index_one (suc i / 100) (dir (index_name (suc i / 100))) (by.indexes (suc i / 100)) (index_of (suc i / 100) posts) by.index (index_there (suc i) i refl (omega (arith, high))) in
      let entry_is : by.entry ≡ entry (suc i, p.0) = one_some by.entry (entry (suc i, p.0)) (sym by.found ∙ ap (entry_at (suc i)) index ∙ own_entry (suc i) i p.0 refl p.1) in
      let key_is : subject_key prefix (by.entry).subject ≡ key_of prefix p.0 = ap (λ (e : Entry). subject_key prefix e.subject) entry_is in
      let k = subject_key prefix (by.entry).subject in
      let threads = threads_one (thread_place k) (dir (thread_name (thread_place k))) by.threads ((is.threaded).threads (thread_place k)) by.file ((is.threaded).files (thread_place k) (place_below k)) in
      let under : numbers_under k by.threads ≡ numbers (of_key prefix k posts) = ap (numbers_under k) threads ∙ (is.threaded).by_key k in
      let front : take 100 (numbers_under k by.threads) ≡ numbers (take 100 (of_key prefix k posts)) = ap (take 100) under ∙ take_numbers 100 (of_key prefix k posts) in
      let entries = found_all by.indexes (take 100 (of_key prefix k posts)) by.entries (key_ones k) (subst (λ ms. AllZip (IsFound by.indexes) ms by.entries) front by.each) in
      by.cut ∙ ap (λ es. map (λ (e : Entry). e.number) (one_or_within (λ (e : Entry). e.size) 100 4_194_304 es)) entries
      ∙ cut_entries (of_key prefix k posts) ∙ ap (λ k. numbers (cut (of_key prefix k posts))) key_is ∙ sym (ap (λ t. numbers (cut t)) (thread_is i p.0 p.1))

  -- a post is among those of its key
  among : (f : Numbered → Bool) (k i : ℕ) (xs : List Post) (p : Post) → slice_get xs i ≡ Some p → f (k + i, p) ≡ true → IsAmong (numbers (filter f (enumerate_from k xs))) (k + i)
  among f k i [] p get passes = absurd (none_some p get)
  among f k zero (x ∷ xs) p get passes = go (f (k, x)) refl
    where
      same : k + 0 ≡ k
      same = omega arith

      go : (t : Bool) → f (k, x) ≡ t → IsAmong (numbers (cond t ((k, x) ∷ filter f (enumerate_from (k + 1) xs)) (filter f (enumerate_from (k + 1) xs)))) (k + 0)
      go true e = (0, (omega arith, omega arith))
      go false e = absurd (let bad : false ≡ true = sym e ∙ ap₂ (λ (n : ℕ) (q : Post). f (n, q)) (sym same) (one_some x p get) ∙ passes in cc)
  among f k (suc i) (x ∷ xs) p get passes =
      let e : k + suc i ≡ (k + 1) + i = omega arith in
      go (f (k, x)) (subst (λ n. IsAmong (numbers (filter f (enumerate_from (k + 1) xs))) n) (sym e) (among f (k + 1) i xs p get (ap (λ n. f (n, p)) (sym e) ∙ passes)))
    where
      go : (t : Bool) → IsAmong (numbers (filter f (enumerate_from (k + 1) xs))) (k + suc i) → IsAmong (numbers (cond t ((k, x) ∷ filter f (enumerate_from (k + 1) xs)) (filter f (enumerate_from (k + 1) xs)))) (k + suc i)
      go true is = (suc is.0, (let less = is.1.0 in omega (arith, less), is.1.1))
      go false is = is

  pub thread_there : (n : ℕ) → 1 ≤ n → n ≤ length posts → IsThreadByFiles dir prefix n (numbers (cut (in_thread prefix n posts)))
  thread_there zero low high = absurd (omega (arith, low))
  thread_there (suc i) low high = go (get_some posts i (omega (arith, high)))
    where
      go : (p : Post) × (slice_get posts i ≡ Some p) → IsThreadByFiles dir prefix (suc i) (numbers (cut (in_thread prefix (suc i) posts)))
      go p = record {
        indexes = λ g. index_of g posts;
        index = index_there (suc i) i refl (omega (arith, high));
        entry = entry (suc i, p.0);
        found = own_entry (suc i) i p.0 refl p.1;
        threads = (is.threaded).threads (thread_place (key_of prefix p.0));
        file = (is.threaded).files (thread_place (key_of prefix p.0)) (place_below (key_of prefix p.0));
        named = subst (λ ms. IsAmong ms (suc i)) (sym ((is.threaded).by_key (key_of prefix p.0)))
            (let e : 1 + i ≡ suc i = omega arith in subst (λ n. IsAmong (numbers (of_key prefix (key_of prefix p.0) posts)) n) e (among (λ (e : Numbered). bytes_eq (key_of prefix e.1) (key_of prefix p.0)) 1 i posts p.0 p.1 ((bytes_eq-Decides (key_of prefix p.0) (key_of prefix p.0)).1 refl)));
        entries = map entry (take 100 (of_key prefix (key_of prefix p.0) posts));
        each = subst (λ ms. AllZip (IsFound (λ g. index_of g posts)) ms (map entry (take 100 (of_key prefix (key_of prefix p.0) posts))))
            (sym (ap (take 100) ((is.threaded).by_key (key_of prefix p.0)) ∙ take_numbers 100 (of_key prefix (key_of prefix p.0) posts)))
            (all_found (take 100 (of_key prefix (key_of prefix p.0) posts)) (key_ones (key_of prefix p.0)));
        cut = ap (λ t. numbers (cut t)) (thread_is i p.0 p.1) ∙ sym (cut_entries (of_key prefix (key_of prefix p.0) posts));
      }

pub threads_same : (dir : Dir) (prefix : Text) (posts : List Post) (n : ℕ) (answer : List ℕ) → IsArchive dir prefix posts → 1 ≤ n → n ≤ length posts → IsThreadByFiles dir prefix n answer → answer ≡ numbers (cut (in_thread prefix n posts))
threads_same dir prefix posts n answer is low high by = same_thread dir prefix posts is n answer low high by

pub threads_there : (dir : Dir) (prefix : Text) (posts : List Post) (n : ℕ) → IsArchive dir prefix posts → 1 ≤ n → n ≤ length posts → IsThreadByFiles dir prefix n (numbers (cut (in_thread prefix n posts)))
threads_there dir prefix posts n is low high = thread_there dir prefix posts is n low high

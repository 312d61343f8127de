-- What the archive's files say is the same on every directory that has the same ones.
use Rattle.std.proofs.Common.{◌≡◌, ◌⊎◌, inl, inr, ◌<◌, ◌≤◌, ◌/◌, ◌&&◌, ◌||◌, ◌∙◌, ℕ, Bool, true, List, [], ◌∷◌, take, Option, Some, None, refl, sym, subst, arith}
use Rattle.std.specs.Prelude.{nat_le}
use Rattle.std.specs.List.{AllByRecursion, AllZip}
use Rattle.std.proofs.lemmas.Bool.{and_from, and_parts, le-leb, leb-true, or_cases, or_left, or_right}
use Rattle.std.proofs.lemmas.Nat.{div_below, mod_below}
use Rattle.ml_base.specs.Bytes.{Text}
use Rattle.ml_base.specs.Dir.{Dir, same_name}
use Rattle.ml_base.specs.Hash.{hash_of}
use Rattle.ml_base.specs.declared.names.Name.{Name}
use Rattle.ml_filing.specs.Answers.{IsEntryByFiles, IsIndexByFiles, IsPostByFiles, IsRangeByFiles, IsThreadAnswer, first_numbers}
use Rattle.ml_filing.specs.Archive.{ArePosts, IsIndexFile, IsNumberFile, index_name, number_name, post_name}
use Rattle.ml_filing.specs.Posts.{cut, entry, in_range, in_thread, index_of, numbers, post_at}
use Rattle.ml_filing.specs.Subjects.{subject_key}
use Rattle.ml_filing.specs.Threads.{IsArchive, IsThreadByFiles, IsThreadFile, entry_at, numbers_under, thread_name, thread_place}
use Rattle.ml_filing.specs.Reads.{IsWithin}
use Rattle.ml_filing.specs.declared.posts.Entry.{Entry}
use Rattle.ml_filing.specs.declared.posts.Post.{Post}
use Rattle.ml_filing.proofs.Asked.{each_among, row_within}
use Rattle.ml_filing.proofs.ByFiles.{threads_same}
use Rattle.ml_filing.proofs.Looking.{counted_is, indexed_is, no_group, post_found, post_none}
use Rattle.ml_filing.proofs.Ranged.{range_is}
use Rattle.ml_filing.proofs.Threaded.{take_few, thread_none, under_few}
use Rattle.ml_acts.specs.Doing.{Alike, is_index, is_thread_file}
use Rattle.ml_acts.proofs.Placed.{threads_placed}
use Rattle.ml_manage.specs.Reads.{AlikeEach, is_of_index, is_of_posts, is_of_range, is_post_file, is_post_within, is_seen_of_posts, is_seen_of_thread}
use Rattle.ml_manage.proofs.Posts.{index_read, is_number, of_index, range_read}

-- the files of a range are among those that are looked at for a thread
of_range : (name : Name) → is_of_range name ≡ true → is_seen_of_thread name ≡ true
of_range name e = or_left (is_of_range name || is_thread_file name) (is_post_file name) (or_left (is_of_range name) (is_thread_file name) e)

of_threads : (name : Name) → is_thread_file name ≡ true → is_seen_of_thread name ≡ true
of_threads name e = or_left (is_of_range name || is_thread_file name) (is_post_file name) (or_right (is_of_range name) (is_thread_file name) e)

-- the files of one post are among those of a range that has it, and of a thread
module _ (name : Name) where
  abbrev grouped : ℕ → ℕ → Bool
  grouped a b = is_index name && (nat_le (a / 100) name.at && nat_le name.at (b / 100))

  abbrev placed : ℕ → ℕ → Bool
  placed a b = is_post_file name && (nat_le a name.at && nat_le name.at b)

  posts_cases : {A : Type 0} (a b : ℕ) → (grouped a b ≡ true → A) → (same_name name number_name ≡ true → A) → (placed a b ≡ true → A) → is_seen_of_posts a b name ≡ true → A
  posts_cases {A = A} a b group number post e = go (or_cases (grouped a b || same_name name number_name) (placed a b) e)
    where
      low : ((grouped a b ≡ true) ⊎ (same_name name number_name ≡ true)) → A
      low (inl x) = group x
      low (inr x) = number x

      go : (((grouped a b || same_name name number_name) ≡ true) ⊎ (placed a b ≡ true)) → A
      go (inl x) = low (or_cases (grouped a b) (same_name name number_name) x)
      go (inr x) = post x

  of_group : (a b : ℕ) → grouped a b ≡ true → is_seen_of_posts a b name ≡ true
  of_group a b e = or_left (grouped a b || same_name name number_name) (placed a b) (or_left (grouped a b) (same_name name number_name) e)

  of_number : (a b : ℕ) → same_name name number_name ≡ true → is_seen_of_posts a b name ≡ true
  of_number a b e = or_left (grouped a b || same_name name number_name) (placed a b) (or_right (grouped a b) (same_name name number_name) e)

  of_post : (a b : ℕ) → placed a b ≡ true → is_seen_of_posts a b name ≡ true
  of_post a b e = or_right (grouped a b || same_name name number_name) (placed a b) e

  within_wider : (low high a b : ℕ) → a ≤ low → high ≤ b → (nat_le low name.at && nat_le name.at high) ≡ true → (nat_le a name.at && nat_le name.at b) ≡ true
  within_wider low high a b before after e =
      let parts = and_parts (nat_le low name.at) (nat_le name.at high) e in
      let first = leb-true low name.at parts.0 in
      let last = leb-true name.at high parts.1 in
      and_from (nat_le a name.at) (nat_le name.at b) (le-leb a name.at (omega (arith, before, first))) (le-leb name.at b (omega (arith, after, last)))

  pub one_of_range : (a b n : ℕ) → a ≤ n → n ≤ b → is_seen_of_posts n n name ≡ true → is_seen_of_posts a b name ≡ true
  one_of_range a b n low high e =
      posts_cases n n
      (λ x. let parts = and_parts (is_index name) (nat_le (n / 100) name.at && nat_le name.at (n / 100)) x in
      of_group a b (and_from (is_index name) _ parts.0 (within_wider (n / 100) (n / 100) (a / 100) (b / 100) (omega (arith, low)) (omega (arith, high)) parts.1)))
      (of_number a b)
      (λ x. let parts = and_parts (is_post_file name) (nat_le n name.at && nat_le name.at n) x in
      of_post a b (and_from (is_post_file name) _ parts.0 (within_wider n n a b low high parts.1))) e

  pub one_of_thread : (n : ℕ) → is_seen_of_posts n n name ≡ true → is_seen_of_thread name ≡ true
  one_of_thread n e =
      posts_cases n n
      (λ x. of_range name (or_left (is_index name) (same_name name number_name) (and_parts (is_index name) _ x).0))
      (λ x. of_range name (or_right (is_index name) (same_name name number_name) x))
      (λ x. or_right (is_of_range name || is_thread_file name) (is_post_file name) (and_parts (is_post_file name) _ x).0) e

-- what is the same for a range, or for a thread, is the same for each of its posts
pub each_of_range : (a b : ℕ) (ns : List ℕ) (old dir : Dir) → AllByRecursion (IsWithin a b) ns → Alike (is_seen_of_posts a b) old dir → AlikeEach ns old dir
each_of_range a b ns old dir all alike n among name e = let within = each_among (IsWithin a b) ns n all among in alike name (one_of_range name a b n within.0 within.1 e)

pub each_of_thread : (ns : List ℕ) (old dir : Dir) → Alike is_seen_of_thread old dir → AlikeEach ns old dir
each_of_thread ns old dir alike n among name e = alike name (one_of_thread name n e)

pub group_low : (n : ℕ) → n ≤ 99_999_999 → n / 100 < 1_000_000
group_low n few = div_below n 100 1_000_000 (omega arith) (omega (arith, few))

module _ (old dir : Dir) where
  abbrev SameAt : ℕ → Type 0
  SameAt n = dir (index_name (n / 100)) ≡ old (index_name (n / 100))

  count_there : (count : ℕ) → dir number_name ≡ old number_name → IsNumberFile (old number_name) count → IsNumberFile (dir number_name) count
  count_there count same file = subst (λ (f : Option Text). IsNumberFile f count) (sym same) file

  pub index_there : (n : ℕ) (entries : List Entry) → SameAt n → IsIndexFile (n / 100) (old (index_name (n / 100))) entries → IsIndexFile (n / 100) (dir (index_name (n / 100))) entries
  index_there n entries same file = subst (λ (f : Option Text). IsIndexFile (n / 100) f entries) (sym same) file

  entries_there : (P : ℕ → Type 0) → ((n : ℕ) → P n → SameAt n) → (ns : List ℕ) (es : List Entry) → AllByRecursion P ns → AllZip (IsEntryByFiles old) ns es → AllZip (IsEntryByFiles dir) ns es
  entries_there P same [] [] all each = tt
  entries_there P same [] (e ∷ es) all each = absurd each
  entries_there P same (n ∷ ns) [] all each = absurd each
  entries_there P same (n ∷ ns) (e ∷ es) all each =
      let here = each.0 in
      ((here.0, index_there n here.0 (same n all.0) here.1, here.2), entries_there P same ns es all.1 each.1)

  -- a range
  module _ (a b : ℕ) (alike : Alike (is_seen_of_posts a b) old dir) where
    pub number_same : dir number_name ≡ old number_name
    number_same = alike number_name (or_left (is_of_posts a b number_name) (is_post_within a b number_name) (range_read a b number_name (inl refl)))

    pub within_same : (n : ℕ) → IsWithin a b n → SameAt n
    within_same n within =
        let name = index_name (n / 100) in
        alike name (or_left (is_of_posts a b name) (is_post_within a b name) (range_read a b name (inr (n, within.0, within.1, within.2, refl))))

    pub range_there : (row : List ℕ) → IsRangeByFiles old a b row → IsRangeByFiles dir a b row
    range_there row by = record {
      count = by.count;
      counted = count_there by.count number_same by.counted;
      entries = by.entries;
      each = entries_there (IsWithin a b) within_same (first_numbers a b by.count) by.entries (row_within a b by.count (by.counted).few) by.each;
      cut = by.cut;
    }

  -- a post
  module _ (n : ℕ) (alike : Alike (is_seen_of_posts n n) old dir) where
    pub own_same : 1 ≤ n → n ≤ 99_999_999 → dir (post_name n) ≡ old (post_name n)
    own_same low high =
        alike (post_name n)
        (of_post (post_name n) n n (and_from (is_post_file (post_name n)) _ (and_from (nat_le 1 n) (nat_le n 99_999_999) (le-leb 1 n low) (le-leb n 99_999_999 high))
        (and_from (nat_le n n) (nat_le n n) (le-leb n n (omega arith)) (le-leb n n (omega arith)))))

    pub post_apart : (posts : List Post) (o : Option Post) → ArePosts dir posts → IsPostByFiles old n o → o ≡ post_at posts n
    post_apart posts None is by = post_none dir posts is n by.0 (count_there by.0 (number_same n n alike) by.1) by.2
    post_apart posts (Some p) is by =
        let counted = by.0 in
        let found = by.1 in
        let low = counted.2 in
        let high = counted.3 in
        let few = (counted.1).few in
        let most : n ≤ 99_999_999 = omega (arith, high, few) in
        let index = index_there n found.0 (within_same n n alike n (omega arith, omega arith, most)) found.1 in
        post_found dir posts is n counted.0 (entry (n, p)) p.bytes low high (count_there counted.0 (number_same n n alike) counted.1) (found.0, index, found.2) (own_same low most ∙ by.2)

  -- the index of a group
  pub index_apart : (at : ℕ) (posts : List Post) (entries : List Entry) → Alike (is_of_index at) old dir → ArePosts dir posts → IsIndexByFiles old (at / 100) entries → entries ≡ index_of (at / 100) posts
  index_apart at posts entries alike is (inl (less, file)) =
      indexed_is dir posts is (at / 100) entries less (index_there at entries (alike (index_name (at / 100)) (index_read at (index_name (at / 100)) less refl)) file)
  index_apart at posts entries alike is (inr (high, none)) = none ∙ no_group (at / 100) posts (is.counted).few high

  -- a thread
  module _ (alike : Alike is_seen_of_thread old dir) where
    pub number_there : dir number_name ≡ old number_name
    number_there = alike number_name (of_range number_name (is_number number_name refl))

    pub group_there : (g : ℕ) → g < 1_000_000 → dir (index_name g) ≡ old (index_name g)
    group_there g less = alike (index_name g) (of_range (index_name g) (of_index g (index_name g) less refl))

    pub file_there : (f : ℕ) → f < 256 → dir (thread_name f) ≡ old (thread_name f)
    file_there f less = alike (thread_name f) (of_threads (thread_name f) (threads_placed f (thread_name f) less refl))

    pub key_low : (k : Text) → thread_place k < 256
    key_low k = mod_below (hash_of k) 256 (omega arith)

    found_there : (indexes : ℕ → List Entry) (ns : List ℕ) (es : List Entry) → AllByRecursion (λ m. m ≤ 99_999_999) ns → AllZip (λ m e. IsIndexFile (m / 100) (old (index_name (m / 100))) (indexes (m / 100)) × (entry_at m (indexes (m / 100)) ≡ Some e)) ns es
        → AllZip (λ m e. IsIndexFile (m / 100) (dir (index_name (m / 100))) (indexes (m / 100)) × (entry_at m (indexes (m / 100)) ≡ Some e)) ns es
    found_there indexes [] [] all each = tt
    found_there indexes [] (e ∷ es) all each = absurd each
    found_there indexes (n ∷ ns) [] all each = absurd each
    found_there indexes (n ∷ ns) (e ∷ es) all each =
        ((index_there n (indexes (n / 100)) (group_there (n / 100) (group_low n all.0)) (each.0).0, (each.0).1), found_there indexes ns es all.1 each.1)

    thread_there : (prefix : Text) (n : ℕ) (answer : List ℕ) → n ≤ 99_999_999 → IsThreadByFiles old prefix n answer → IsThreadByFiles dir prefix n answer
    thread_there prefix n answer few by =
        let k = subject_key prefix (by.entry).subject in
        record {
          indexes = by.indexes;
          index = index_there n (by.indexes (n / 100)) (group_there (n / 100) (group_low n few)) by.index;
          entry = by.entry;
          found = by.found;
          threads = by.threads;
          file = subst (λ (f : Option Text). IsThreadFile (thread_place k) f by.threads) (sym (file_there (thread_place k) (key_low k))) by.file;
          named = by.named;
          entries = by.entries;
          each = found_there by.indexes (take 100 (numbers_under k by.threads)) by.entries (take_few 100 (numbers_under k by.threads) (under_few (thread_place k) k by.threads (by.file).each)) by.each;
          cut = by.cut;
        }

    pub thread_apart : (prefix : Text) (posts : List Post) (n : ℕ) (answer : List ℕ) → IsArchive dir prefix posts → IsThreadAnswer old prefix n answer → answer ≡ numbers (cut (in_thread prefix n posts))
    thread_apart prefix posts n answer is (count, counted, inl (low, high, by)) =
        let same = counted_is dir posts is.filed count (count_there count number_there counted) in
        let few = counted.few in
        threads_same dir prefix posts n answer is low (omega (arith, high, same)) (thread_there prefix n answer (omega (arith, high, few)) by)
    thread_apart prefix posts n answer is (count, counted, inr (out, none)) = none ∙ thread_none dir prefix posts n count is (count_there count number_there counted) out

-- so a range is the list's
pub range_apart : (old dir : Dir) (a b : ℕ) (posts : List Post) (row : List ℕ) → Alike (is_seen_of_posts a b) old dir → ArePosts dir posts → IsRangeByFiles old a b row → row ≡ numbers (cut (in_range a b posts))
range_apart old dir a b posts row alike is by = range_is dir posts is a b row (range_there old dir a b alike row by)

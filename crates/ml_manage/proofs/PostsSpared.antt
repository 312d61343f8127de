-- No file of the archive is damaged for a request in a directory that has, of the files that the request looks at, those that a list has.
use Rattle.std.proofs.Common.{◌≡◌, ◌⊎◌, inl, inr, ◌<◌, ◌≤◌, ◌/◌, ◌==◌, ◌&&◌, ◌||◌, ◌∙◌, ℕ, zero, suc, true, List, [], ◌∷◌, length, map, Option, Some, None, slice_get, refl, sym, ap, subst, arith}
use Rattle.std.specs.Prelude.{nat_le, nat_lt}
use Rattle.std.specs.List.{AllByRecursion, AllZip, IsAmong}
use Rattle.std.specs.Option.{option_map}
use Rattle.std.proofs.lemmas.Bool.{and_parts, ltb-true, or_cases, or_left, or_right}
use Rattle.ml_base.specs.Bytes.{Text}
use Rattle.ml_base.specs.Dir.{Dir, same_name}
use Rattle.ml_base.specs.Kinds.{index_kind, number_kind, post_kind, thread_kind}
use Rattle.ml_base.specs.declared.names.Name.{Name}
use Rattle.ml_base.proofs.Bools.{one_name}
use Rattle.ml_filing.specs.Answers.{HasNoEntry, IsBadForPost, IsBadForRange, IsBadForThread, IsEntryByFiles, IsNoIndex, IsNoNumber, IsRangeByFiles, LacksEntry, first_numbers}
use Rattle.ml_filing.specs.Archive.{ArePosts, IsIndexFile, IsNumberFile, index_name, is_of_posts as is_posted, number_name}
use Rattle.ml_filing.specs.Posts.{Numbered, cut, entry, in_range, in_thread, index_of, numbers}
use Rattle.ml_filing.specs.Reads.{IsWithin}
use Rattle.ml_filing.specs.Threads.{IsArchive, IsThreadFile, entry_at, is_of_archive, numbers_under, thread_place}
use Rattle.ml_filing.specs.Subjects.{subject_key}
use Rattle.ml_filing.specs.declared.posts.Entry.{Entry}
use Rattle.ml_filing.specs.declared.posts.Post.{Post}
use Rattle.ml_filing.proofs.Asked.{each_among, row_within}
use Rattle.ml_filing.proofs.ByFiles.{IsOne}
use Rattle.ml_filing.proofs.Looking.{counted_is, entry_named, indexed_is, no_bad_index, no_missing, right_size}
use Rattle.ml_filing.proofs.Represented.{looked_up}
use Rattle.ml_filing.proofs.Threaded.{no_bad_known, under_few}
use Rattle.ml_acts.specs.Asked.{Group, IsBadFor, Range, ThreadOf}
use Rattle.ml_acts.specs.Doing.{Alike, is_index, is_thread_file}
use Rattle.ml_manage.specs.Reads.{is_of_index, is_seen_of_posts, is_of_range, is_seen_of_thread, is_post_file}
use Rattle.ml_manage.proofs.Posts.{cut_all, range_ones, thread_ones}
use Rattle.ml_manage.proofs.PostsApart.{each_of_range, each_of_thread, file_there, group_low, group_there, index_there, key_low, number_same, number_there, own_same, range_apart, thread_apart, within_same}

-- these files are the archive's
module _ (name : Name) where
  of_posts_too : is_posted name ≡ true → is_of_archive name ≡ true
  of_posts_too e = or_left (is_posted name) (name.kind == thread_kind) e

  index_archived : is_index name ≡ true → is_of_archive name ≡ true
  index_archived e =
      of_posts_too (or_left (name.kind == post_kind || name.kind == index_kind) (name.kind == number_kind) (or_right (name.kind == post_kind) (name.kind == index_kind) (and_parts (name.kind == index_kind) (nat_lt name.at 1_000_000) e).0))

  number_archived : same_name name number_name ≡ true → is_of_archive name ≡ true
  number_archived e = ap is_of_archive (one_name name number_name e)

  post_archived : is_post_file name ≡ true → is_of_archive name ≡ true
  post_archived e = of_posts_too (or_left (name.kind == post_kind || name.kind == index_kind) (name.kind == number_kind) (or_left (name.kind == post_kind) (name.kind == index_kind) (and_parts (name.kind == post_kind) _ e).0))

  thread_archived : is_thread_file name ≡ true → is_of_archive name ≡ true
  thread_archived e = or_right (is_posted name) (name.kind == thread_kind) (and_parts (name.kind == thread_kind) (nat_lt name.at 256) e).0

  pub posts_archived : (a b : ℕ) → is_seen_of_posts a b name ≡ true → is_of_archive name ≡ true
  posts_archived a b e =
      last (or_cases ((is_index name && (nat_le (a / 100) name.at && nat_le name.at (b / 100))) || same_name name number_name) (is_post_file name && (nat_le a name.at && nat_le name.at b)) e)
    where
      first : (((is_index name && (nat_le (a / 100) name.at && nat_le name.at (b / 100))) ≡ true) ⊎ (same_name name number_name ≡ true)) → is_of_archive name ≡ true
      first (inl x) = index_archived (and_parts (is_index name) _ x).0
      first (inr x) = number_archived x

      last : ((((is_index name && (nat_le (a / 100) name.at && nat_le name.at (b / 100))) || same_name name number_name) ≡ true) ⊎ ((is_post_file name && (nat_le a name.at && nat_le name.at b)) ≡ true)) → is_of_archive name ≡ true
      last (inl x) = first (or_cases (is_index name && (nat_le (a / 100) name.at && nat_le name.at (b / 100))) (same_name name number_name) x)
      last (inr x) = post_archived (and_parts (is_post_file name) _ x).0

  pub threads_archived : is_seen_of_thread name ≡ true → is_of_archive name ≡ true
  threads_archived e = last (or_cases (is_of_range name || is_thread_file name) (is_post_file name) e)
    where
      first : ((is_index name ≡ true) ⊎ (same_name name number_name ≡ true)) → is_of_archive name ≡ true
      first (inl x) = index_archived x
      first (inr x) = number_archived x

      next : ((is_of_range name ≡ true) ⊎ (is_thread_file name ≡ true)) → is_of_archive name ≡ true
      next (inl x) = first (or_cases (is_index name) (same_name name number_name) x)
      next (inr x) = thread_archived x

      last : (((is_of_range name || is_thread_file name) ≡ true) ⊎ (is_post_file name ≡ true)) → is_of_archive name ≡ true
      last (inl x) = next (or_cases (is_of_range name) (is_thread_file name) x)
      last (inr x) = post_archived x

  pub group_archived : (at : ℕ) → is_of_index at name ≡ true → is_of_archive name ≡ true
  group_archived at e = ap is_of_archive (one_name name (index_name (at / 100)) (and_parts (nat_lt (at / 100) 1_000_000) (same_name name (index_name (at / 100))) e).1)

-- what every post has, the entries of these numbers have
entries_all : (dir : Dir) (P : ℕ → Type 0) (ns : List ℕ) (es : List Entry) → AllByRecursion P ns → AllZip (IsEntryByFiles dir) ns es → AllByRecursion (λ (e : Entry). P e.number) es
entries_all dir P [] [] all each = tt
entries_all dir P [] (e ∷ es) all each = absurd each
entries_all dir P (n ∷ ns) [] all each = tt
entries_all dir P (n ∷ ns) (e ∷ es) all each =
    let here = each.0 in
    (subst P (sym (entry_named n here.0 e here.2)) all.0, entries_all dir P ns es all.1 each.1)

numbers_all : (P : ℕ → Type 0) (es : List Entry) → AllByRecursion (λ (e : Entry). P e.number) es → AllByRecursion P (map (λ (e : Entry). e.number) es)
numbers_all P [] all = tt
numbers_all P (e ∷ es) all = (all.0, numbers_all P es all.1)

range_numbers : (dir : Dir) (a b : ℕ) (row : List ℕ) → IsRangeByFiles dir a b row → AllByRecursion (IsWithin a b) row
range_numbers dir a b row by =
    subst (λ (ns : List ℕ). AllByRecursion (IsWithin a b) ns) (sym by.cut)
    (numbers_all (IsWithin a b) _
    (cut_all (λ (e : Entry). e.size) (λ (e : Entry). IsWithin a b e.number) 100 4_194_304 by.entries
    (entries_all dir (IsWithin a b) (first_numbers a b by.count) by.entries (row_within a b by.count (by.counted).few) by.each)))

inside : (ps : List Post) (i : ℕ) (p : Post) → slice_get ps i ≡ Some p → i < length ps
inside [] i p e = absurd (let bad : None ≡ Some p = e in cc)
inside (x ∷ xs) zero p e = omega arith
inside (x ∷ xs) (suc i) p e = let more = inside xs i p e in omega (arith, more)

-- a post of a row is one of the list's
one_among : (posts : List Post) (xs : List Numbered) (m : ℕ) → AllByRecursion (IsOne posts) xs → IsAmong (numbers xs) m → (1 ≤ m) × (m ≤ length posts)
one_among posts [] m all among = absurd (let less = among.1.0 in omega (arith, less))
one_among posts (x ∷ xs) m all (zero, is) =
    let one = all.0 in
    let number = is.1 ∙ one.1 in
    let less = inside posts one.0 x.1 one.2 in
    (omega (arith, number), omega (arith, number, less))
one_among posts (x ∷ xs) m all (suc i, is) = let less = is.0 in one_among posts xs m all.1 (i, (omega (arith, less), is.1))

-- an index of the list has only the entries of its posts
entry_own : (posts : List Post) (n : ℕ) (e : Entry) → 1 ≤ n → entry_at n (index_of (n / 100) posts) ≡ Some e → n ≤ length posts
entry_own posts zero e low found = absurd (omega (arith, low))
entry_own posts (suc i) e low found = go (slice_get posts i) refl (sym (looked_up 1 (suc i) i posts (omega arith)) ∙ found)
  where
    go : (o : Option Post) → slice_get posts i ≡ o → option_map (λ (p : Post). entry (suc i, p)) (slice_get posts i) ≡ Some e → suc i ≤ length posts
    go None none some = absurd (let bad : None ≡ Some e = sym (ap (option_map (λ (p : Post). entry (suc i, p))) none) ∙ some in cc)
    go (Some p) is some = let less = inside posts i p is in omega (arith, less)

module _ (old dir : Dir) (posts : List Post) (is : ArePosts dir posts) where
  few : length posts ≤ 99_999_999
  few = (is.counted).few

  none_number : dir number_name ≡ old number_name → IsNoNumber old → ⊥
  none_number same none = none (length posts) (subst (λ (f : Option Text). IsNumberFile f (length posts)) same is.counted)

  none_index : (g : ℕ) → g < 1_000_000 → dir (index_name g) ≡ old (index_name g) → IsNoIndex old g → ⊥
  none_index g less same none = no_bad_index dir posts is g less (λ entries file. none entries (subst (λ (f : Option Text). IsIndexFile g f entries) same file))

  -- no post up to the number of posts lacks its entry
  none_lacking : (n : ℕ) → dir number_name ≡ old number_name → (n ≤ 99_999_999 → dir (index_name (n / 100)) ≡ old (index_name (n / 100))) → LacksEntry old n → ⊥
  none_lacking n number index lacks =
      let counted = subst (λ (f : Option Text). IsNumberFile f lacks.count) (sym number) lacks.counted in
      let high = lacks.high in
      let most = (lacks.counted).few in
      let same = index (omega (arith, high, most)) in
      let size = counted_is dir posts is lacks.count counted in
      no_missing dir posts is n lacks.low (omega (arith, high, size)) (lacks.entries, index_there old dir n lacks.entries same lacks.index, lacks.lacks)

  -- a post of the list
  pub post_none : (n : ℕ) (name : Name) → Alike (is_seen_of_posts n n) old dir → 1 ≤ n → n ≤ length posts → IsBadForPost old n name → ⊥
  post_none n name alike low high bad = go bad
    where
      most : n ≤ 99_999_999
      most = let f = few in omega (arith, high, f)

      index : dir (index_name (n / 100)) ≡ old (index_name (n / 100))
      index = within_same old dir n n alike n (omega arith, omega arith, most)

      go : IsBadForPost old n name → ⊥
      go (inl (named, inl none)) = none_number (number_same old dir n n alike) none
      go (inl (named, inr lacks)) = none_lacking n (number_same old dir n n alike) (λ some. index) lacks
      go (inr (named, inl none)) = none_index (n / 100) (group_low n most) index none
      go (inr (named, inr lacks)) =
          right_size dir posts is n (length posts) lacks.entry low high is.counted (lacks.entries, index_there old dir n lacks.entries index lacks.index, lacks.found)
          (λ size. lacks.lacks (ap (option_map length) (sym (own_same old dir n alike low most)) ∙ size))

  -- a range
  module _ (a b : ℕ) (alike : Alike (is_seen_of_posts a b) old dir) where
    range_bad : (name : Name) → dir name ≡ old name → IsBadForRange old a b name → ⊥
    range_bad name same (inl (named, inl none)) = none_number (number_same old dir a b alike) none
    range_bad name same (inl (named, inr (m, low, high, lacks))) = none_lacking m (number_same old dir a b alike) (λ most. within_same old dir a b alike m (low, high, most)) lacks
    range_bad name same (inr (g, less, named, none)) = none_index g less (subst (λ (n : Name). dir n ≡ old n) named same) none

    pub range_none : (name : Name) → is_seen_of_posts a b name ≡ true → IsBadFor old (Range a b) name → ⊥
    range_none name e (inl bad) = range_bad name (alike name e) bad
    range_none name e (inr (row, by, (n, among, bad))) =
        let within = range_numbers old a b row by in
        let there = subst (λ (ns : List ℕ). IsAmong ns n) (range_apart old dir a b posts row alike is by) among in
        let one = one_among posts (cut (in_range a b posts)) n (range_ones posts a b) there in
        post_none n name (each_of_range a b row old dir within alike n among) one.0 one.1 bad

  -- the index of a group
  pub group_none : (at : ℕ) (name : Name) → Alike (is_of_index at) old dir → is_of_index at name ≡ true → IsBadFor old (Group (at / 100)) name → ⊥
  group_none at name alike e bad =
      none_index (at / 100) (ltb-true (at / 100) 1_000_000 (and_parts (nat_lt (at / 100) 1_000_000) (same_name name (index_name (at / 100))) e).0) (subst (λ (n : Name). dir n ≡ old n) bad.0 (alike name e)) bad.1

-- a thread of a post
module _ (old dir : Dir) (prefix : Text) (posts : List Post) (is : IsArchive dir prefix posts) (n : ℕ) (low : 1 ≤ n) (most : n ≤ 99_999_999) (alike : Alike is_seen_of_thread old dir) where
  index_same : dir (index_name (n / 100)) ≡ old (index_name (n / 100))
  index_same = group_there old dir alike (n / 100) (group_low n most)

  thread_bad : (name : Name) → IsBadForThread old prefix n name → ⊥
  thread_bad name (inl (named, inl none)) = none_number old dir posts is.filed (number_there old dir alike) none
  thread_bad name (inl (named, inr lacks)) = none_lacking old dir posts is.filed n (number_there old dir alike) (λ some. index_same) lacks
  thread_bad name (inr (inl (g, less, named, none))) = none_index old dir posts is.filed g less (group_there old dir alike g less) none
  thread_bad name (inr (inr (inl (f, less, named, none)))) =
      let threads = (is.threaded).threads f in
      none threads (subst (λ (t : Option Text). IsThreadFile f t threads) (file_there old dir alike f less) ((is.threaded).files f less))
  thread_bad name (inr (inr (inr bad))) =
      let found = bad.found in
      let index = index_there old dir n found.0 index_same found.1 in
      let own = indexed_is dir posts is.filed (n / 100) found.0 (group_low n most) index in
      let high = entry_own posts n bad.entry low (sym (ap (entry_at n) own) ∙ found.2) in
      no_bad_known dir prefix posts is n low high name (inr (inr (inr (record {
        entry = bad.entry;
        found = (found.0, index, found.2);
        named = bad.named;
        threads = bad.threads;
        file = subst (λ (t : Option Text). IsThreadFile (thread_place (subject_key prefix (bad.entry).subject)) t bad.threads) (sym (file_there old dir alike (thread_place (subject_key prefix (bad.entry).subject)) (key_low old dir alike (subject_key prefix (bad.entry).subject)))) bad.file;
        lacks = lost bad.lacks;
      }))))
    where
      lost : ((¬ IsAmong (numbers_under (subject_key prefix (bad.entry).subject) bad.threads) n) ⊎ ((m : ℕ) × IsAmong (numbers_under (subject_key prefix (bad.entry).subject) bad.threads) m × HasNoEntry old m)) → (¬ IsAmong (numbers_under (subject_key prefix (bad.entry).subject) bad.threads) n) ⊎ ((m : ℕ) × IsAmong (numbers_under (subject_key prefix (bad.entry).subject) bad.threads) m × HasNoEntry dir m)
      lost (inl none) = inl none
      lost (inr (m, among, none)) =
          let few = each_among (λ (m : ℕ). m ≤ 99_999_999) (numbers_under (subject_key prefix (bad.entry).subject) bad.threads) m (under_few (thread_place (subject_key prefix (bad.entry).subject)) (subject_key prefix (bad.entry).subject) bad.threads (bad.file).each) among in
          inr (m, among, (none.0, index_there old dir m none.0 (group_there old dir alike (m / 100) (group_low m few)) none.1, none.2))

  pub thread_none : (name : Name) → IsBadFor old (ThreadOf prefix n) name → ⊥
  thread_none name (of, inl bad) = thread_bad name bad
  thread_none name (of, inr (row, by, (m, among, bad))) =
      let there = subst (λ (ns : List ℕ). IsAmong ns m) (thread_apart old dir alike prefix posts n row is by) among in
      let one = one_among posts (cut (in_thread prefix n posts)) m (thread_ones posts prefix n) there in
      post_none old dir posts is.filed m name (each_of_thread row old dir alike m among) one.0 one.1 bad

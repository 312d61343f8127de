-- If the archive stands for posts up to their number, no file breaks it; and if an audit finds nothing, the archive
-- stands for posts.
use Rattle.std.proofs.Common.{◌≡◌, ◌<◌, ◌≤◌, ◌+◌, ◌/◌, ◌==◌, ℕ, zero, suc, List, [], ◌∷◌, length, map, slice_get, Option, Some, None, refl, sym, ap, ◌∙◌, subst, arith, ◌⊎◌, inl, inr}
use Rattle.std.specs.Prelude.{unwrap_or, IsTrue}
use Rattle.std.specs.List.{AllByRecursion, IsAmong}
use Rattle.std.specs.Option.{option_map}
use Rattle.std.proofs.lemmas.Bool.{cases_lt}
use Rattle.ml_base.specs.Bytes.{Text}
use Rattle.ml_base.specs.Dir.{Dir}
use Rattle.ml_base.specs.Name.{is_in_table}
use Rattle.ml_base.specs.declared.names.Name.{Name}
use Rattle.ml_filing.specs.Answers.{IsOtherSize}
use Rattle.ml_filing.specs.Archive.{ArePosts, IsIndexFile, IsNumberFile, index_name, number_name, post_name}
use Rattle.ml_filing.specs.Posts.{Numbered, entry, index_of, group, numbers, of_key, post_at}
use Rattle.ml_filing.specs.Threads.{IsArchive, IsThreadFile, numbers_under, thread_name, thread_place}
use Rattle.ml_filing.specs.declared.posts.Thread.{Thread}
use Rattle.ml_filing.specs.declared.posts.Entry.{Entry}
use Rattle.ml_filing.specs.declared.posts.Post.{Post}
use Rattle.ml_filing.proofs.ByFiles.{IsOne, filtered_ones}
use Rattle.ml_filing.proofs.Exact.{count_one, index_one}
use Rattle.ml_filing.proofs.Looking.{group_in_table}
use Rattle.ml_filing.proofs.Represented.{in_table, posts_one}
use Rattle.ml_archive.specs.Breaks.{Breaks, HasAll, HasThreads, IsBadGroup}
use Rattle.ml_archive.specs.Counted.{AreCountedPosts, IsCountedArchive, first_of, up_to}
use Rattle.ml_archive.specs.declared.keys.Places.{Places}
use Rattle.ml_archive.specs.Found.{AreEntries, AreKeyedBelow, AreOrdered, ArePosted, HasOtherText, IsPlace, Keys, groups_of, text_at, threads_at}
use Rattle.ml_archive.proofs.Keyed.{no_other, thread_file, under_keys}
use Rattle.ml_archive.proofs.Sized.{all_entries}
use Rattle.ml_archive.proofs.Posted.{group_there, index_full, index_none, keys_made, kept_index, kept_post, no_index, past_index, past_post, post_past, posts_filed, posts_long, posts_of, total}

-- an archive that stands for posts also does so up to their number
pub whole_counted : (dir : Dir) (prefix : Text) (posts : List Post) → IsArchive dir prefix posts → IsCountedArchive dir prefix posts
whole_counted dir prefix posts is = record {
  filed = record {
    each = (is.filed).each;
    files = files;
    indexes = indexes;
    counted = (is.filed).counted;
  };
  threaded = record {
    threads = (is.threaded).threads;
    files = (is.threaded).files;
    by_key = (is.threaded).by_key;
  };
}
  where
    files : (n : ℕ) → IsTrue (is_in_table (post_name n)) → up_to (length posts) dir (post_name n) ≡ option_map (λ (p : Post). p.bytes) (post_at posts n)
    files n there = go (cases_lt (length posts) n)
      where
        past : (n : ℕ) → length posts < n → post_at posts n ≡ None
        past zero less = absurd (omega (arith, less))
        past (suc i) less = post_past posts i (omega (arith, less))

        go : ((length posts < n) ⊎ (n ≤ length posts)) → up_to (length posts) dir (post_name n) ≡ option_map (λ (p : Post). p.bytes) (post_at posts n)
        go (inl less) = past_post (length posts) n dir less ∙ sym (ap (option_map (λ (p : Post). p.bytes)) (past n less))
        go (inr le) = kept_post (length posts) n dir le ∙ (is.filed).files n there

    indexes : (g : ℕ) → IsTrue (is_in_table (index_name g)) → IsIndexFile g (up_to (length posts) dir (index_name g)) (index_of g posts)
    indexes g there = go (cases_lt (length posts) (first_of g))
      where
        go : ((length posts < first_of g) ⊎ (first_of g ≤ length posts)) → IsIndexFile g (up_to (length posts) dir (index_name g)) (index_of g posts)
        go (inl less) = subst (λ (o : Option Text). IsIndexFile g o (index_of g posts)) (sym (past_index (length posts) g dir less)) (no_index g (index_of g posts) (index_none g posts less))
        go (inr le) = subst (λ (o : Option Text). IsIndexFile g o (index_of g posts)) (sym (kept_index (length posts) g dir le)) ((is.filed).indexes g there)

-- an entry of a group is the entry of one of the posts
entry_one : (posts : List Post) (xs : List Numbered) (e : Entry) → AllByRecursion (IsOne posts) xs → IsAmong (map entry xs) e → (x : Numbered) × IsOne posts x × (e ≡ entry x)
entry_one posts [] e all (i, (less, at)) = absurd (omega (arith, less))
entry_one posts (x ∷ xs) e all (zero, (less, at)) = (x, all.0, at)
entry_one posts (x ∷ xs) e all (suc i, (less, at)) = entry_one posts xs e all.1 (i, (omega (arith, less), at))

is_inside : (ps : List Post) (i : ℕ) (p : Post) → slice_get ps i ≡ Some p → i < length ps
is_inside [] i p e = absurd (cc)
is_inside (y ∷ ys) zero p e = omega arith
is_inside (y ∷ ys) (suc i) p e = let more = is_inside ys i p e in omega (arith, more)

module _ (dir : Dir) (posts : List Post) (is : AreCountedPosts dir posts) where
  few : length posts ≤ 99_999_999
  few = (is.counted).few

  index_there : (g : ℕ) → first_of g ≤ length posts → IsIndexFile g (dir (index_name g)) (index_of g posts)
  index_there g le =
      let small = few in
      subst (λ (o : Option Text). IsIndexFile g o (index_of g posts)) (kept_index (length posts) g dir le) (is.indexes g (group_in_table g (omega (arith, le, small))))

  post_there : (i : ℕ) (p : Post) → slice_get posts i ≡ Some p → dir (post_name (suc i)) ≡ Some p.bytes
  post_there i p e =
      let inside = is_inside posts i p e in
      let small = few in
      sym (kept_post (length posts) (suc i) dir (omega (arith, inside)))
      ∙ is.files (suc i) (in_table 9 (suc i) 1 99_999_999 refl refl (omega arith) (omega (arith, inside, small))) ∙ ap (option_map (λ (p : Post). p.bytes)) e

  right_size : (x : Numbered) → IsOne posts x → ¬ IsOtherSize dir x.0 (entry x).size
  right_size x (i, number, there) other = other (ap (λ (n : ℕ). option_map length (dir (post_name n))) number ∙ ap (option_map length) (post_there i x.1 there))

  no_bad_group : (g : ℕ) (name : Name) → first_of g ≤ length posts → ¬ IsBadGroup dir (length posts) g name
  no_bad_group g name le (inl (named, (es, index, other))) =
      let same = index_one g (dir (index_name g)) (index_of g posts) es (index_there g le) index in
      other (subst (λ (es : List Entry). HasAll (length posts) g es) same (index_full g posts le))
  no_bad_group g name le (inr (named, inl none)) = none (index_of g posts) (index_there g le)
  no_bad_group g name le (inr (named, inr (es, index, (e, among, other)))) =
      let same = index_one g (dir (index_name g)) es (index_of g posts) index (index_there g le) in
      let ones = filtered_ones posts (λ (x : Numbered). (x.0 / 100) == g) 0 posts (λ j. let at : 0 + j ≡ j = omega arith in ap (slice_get posts) at) in
      let one = entry_one posts (group g posts) e ones (subst (λ (es : List Entry). IsAmong es e) same among) in
      right_size one.0 one.1 (subst (λ (e : Entry). IsOtherSize dir e.number e.size) one.2 other)

  same_posts : (others : List Post) → AreCountedPosts dir others → others ≡ posts
  same_posts others are =
      let long : length others ≡ length posts = count_one (dir number_name) (length others) (length posts) are.counted is.counted in
      posts_one (up_to (length posts) dir) others posts (subst (λ (n : ℕ). ArePosts (up_to n dir) others) long are) is

pub no_breaks : (dir : Dir) (prefix : Text) (posts : List Post) → IsCountedArchive dir prefix posts → (name : Name) → ¬ Breaks dir prefix name
no_breaks dir prefix posts is name (inl (named, none)) = none (length posts) (is.filed).counted
no_breaks dir prefix posts is name (inr (inl (count, counted, (g, le, bad)))) =
    let same : count ≡ length posts = count_one (dir number_name) count (length posts) counted (is.filed).counted in
    no_bad_group dir posts is.filed g name (omega (arith, le, same)) (subst (λ (n : ℕ). IsBadGroup dir n g name) same bad)
no_breaks dir prefix posts is name (inr (inr (n, less, named, (others, are, none)))) =
    let same = same_posts dir posts is.filed others are in
    none ((is.threaded).threads n) ((is.threaded).files n less)
    (λ k place. ap (λ (m : ℕ). numbers_under k ((is.threaded).threads m)) (sym place) ∙ (is.threaded).by_key k ∙ ap (λ (ps : List Post). numbers (of_key prefix k ps)) (sym same))

-- what an audit finds of a few thread files
module _ (dir : Dir) (prefix : Text) (count : ℕ) (places : Places) (keys : Keys) (counted : IsNumberFile (dir number_name) count) (below : AreKeyedBelow dir prefix places count (groups_of count) keys) (ordered : AreOrdered keys) where
  few_entries : length below.0 ≤ 99_999_999
  few_entries = let same = total dir count below.0 counted below.1 in let long = posts_long dir 1 below.0 in let small = counted.few in omega (arith, same, long, small)

  pub right_text : (n : ℕ) → IsPlace places n → unwrap_or (dir (thread_name n)) [] ≡ text_at n keys.entries → HasThreads dir prefix n
  right_text n inside right = (
    posts_of dir 1 below.0,
    posts_filed dir count below.0 counted below.1,
    (
      threads_at n keys.entries,
      thread_file prefix below.0 places keys (below.1).numbered few_entries below.2 ordered n (dir (thread_name n)) inside right,
      λ k place. under_keys prefix below.0 places keys (below.1).numbered few_entries below.2 ordered n k inside place ∙ keys_made dir prefix k 1 below.0,
    ),
  )

  pub other_text : places.to ≤ 256 → (name : Name) → HasOtherText dir places keys name → Breaks dir prefix name
  other_text all name (n, inside, named, other) = inr (inr (
    n,
    (let up = inside.1 in omega (arith, up, all)),
    named,
    (posts_of dir 1 below.0, posts_filed dir count below.0 counted below.1, no_other prefix below.0 places keys (below.1).numbered few_entries below.2 ordered dir n (dir (thread_name n)) inside other),
  ))

-- if the groups of posts are whole and their thread files are right, they are an archive
module _ (dir : Dir) (prefix : Text) (count : ℕ) (are : ArePosted dir count) (right : (n : ℕ) → n < 256 → HasThreads dir prefix n) where
  abbrev entries : (es : List Entry) × AreEntries dir count (groups_of count) es
  entries = all_entries dir count (groups_of count) (λ g less. group_there count g (groups_of count) refl less) are.groups

  abbrev posts : List Post
  posts = posts_of dir 1 entries.0

  filed : AreCountedPosts dir posts
  filed = posts_filed dir count entries.0 are.counted entries.1

  file_at : (n : ℕ) → ((n < 256) ⊎ (256 ≤ n)) → List Thread
  file_at n (inl less) = (right n less).2.0
  file_at n (inr up) = []

  there : (n : ℕ) (o : (n < 256) ⊎ (256 ≤ n)) → n < 256 → IsThreadFile n (dir (thread_name n)) (file_at n o)
  unfolding file_at
  there n (inl less) small = (right n less).2.1
  there n (inr up) small = absurd (omega (arith, up, small))

  under : (n : ℕ) (o : (n < 256) ⊎ (256 ≤ n)) (k : Text) → n < 256 → thread_place k ≡ n → numbers_under k (file_at n o) ≡ numbers (of_key prefix k posts)
  unfolding file_at
  under n (inl less) k small place = (right n less).2.2 k place ∙ ap (λ (ps : List Post). numbers (of_key prefix k ps)) (same_posts dir posts filed (right n less).0 (right n less).1)
  under n (inr up) k small place = absurd (omega (arith, up, small))

  pub all_right : (posts : List Post) × IsCountedArchive dir prefix posts
  all_right = (
    posts,
    record {
      filed = filed;
      threaded = record {
        threads = λ n. file_at n (cases_lt n 256);
        files = λ n less. there n (cases_lt n 256) less;
        by_key = λ k. under (thread_place k) (cases_lt (thread_place k) 256) k (omega arith) refl;
      };
    },
  )

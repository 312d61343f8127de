-- The posts that the entries of all groups and the posts' files make.
use Rattle.std.proofs.Common.{◌≡◌, ◌<◌, ◌≤◌, ◌+◌, ◌*◌, ◌/◌, max, min, ℕ, zero, suc, Bool, true, false, cond, ◌==◌, ◌||◌, List, [], ◌∷◌, length, map, filter, slice_get, Option, Some, None, refl, sym, ap, ◌∙◌, subst, arith, ◌⊎◌, inl, inr}
use Rattle.std.specs.Prelude.{unwrap_or, IsTrue}
use Rattle.std.specs.List.{AllByRecursion, enumerate_from}
use Rattle.std.specs.Option.{option_map}
use Rattle.std.specs.Str.{bytes_eq}
use Rattle.std.proofs.lemmas.Bool.{cases_lt, lt-ltb, le-ltb, eqb-true, eqb-false, ne_eqb}
use Rattle.std.proofs.lemmas.List.{length-map}
use Rattle.ml_base.specs.Bytes.{Text}
use Rattle.ml_base.specs.Dir.{Dir}
use Rattle.ml_base.specs.Name.{is_in_table}
use Rattle.ml_filing.specs.Archive.{IsIndexFile, IsNumberFile, index_name, number_name, post_name}
use Rattle.ml_filing.specs.Posts.{IsPost, Numbered, entry, index_of, numbered, numbers, post_at, key_of}
use Rattle.ml_filing.specs.Subjects.{subject_key}
use Rattle.ml_filing.specs.declared.posts.Entry.{Entry}
use Rattle.ml_filing.specs.declared.posts.Post.{Post}
use Rattle.ml_archive.specs.Counted.{AreCountedPosts, first_of, up_to}
use Rattle.ml_archive.specs.Found.{AreEntries, AreNumbered, HaveSizes, groups_of, key_numbers}

-- the post of an entry, whose bytes are those of the file with this number
abbrev post_of : Dir → ℕ → Entry → Post
post_of dir k e = record { sender = e.sender; moment = e.moment; subject = e.subject; bytes = unwrap_or (dir (post_name k)) [] }

abbrev pub posts_of : Dir → ℕ → List Entry → List Post
posts_of dir k [] = []
posts_of dir k (e ∷ es) = post_of dir k e ∷ posts_of dir (k + 1) es

pub posts_long : (dir : Dir) (k : ℕ) (es : List Entry) → length (posts_of dir k es) ≡ length es
posts_long dir k [] = refl
posts_long dir k (e ∷ es) = ap suc (posts_long dir (k + 1) es)

there_with : (o : Option Text) (size : ℕ) → option_map length o ≡ Some size → (o ≡ Some (unwrap_or o [])) × (length (unwrap_or o []) ≡ size)
there_with None size is = absurd (cc)
there_with (Some text) size is = (refl, (cc))

-- the entries of these posts are the entries that they were made of
entries_made : (dir : Dir) (k : ℕ) (es : List Entry) → AreNumbered k es → HaveSizes dir k es → map entry (enumerate_from k (posts_of dir k es)) ≡ es
entries_made dir k [] is have = refl
entries_made dir k (e ∷ es) is have = λ i. one i ∷ entries_made dir (k + 1) es is.2 have.1 i
  where
    one : entry (k, post_of dir k e) ≡ e
    one =
        let size = (there_with (dir (post_name k)) e.size have.0).1 in
        let number = is.0 in
        λ i. record { number = sym number i; moment = e.moment; sender = e.sender; size = size i; subject = e.subject }

filter_entries : (g : ℕ) (xs : List Numbered) → map entry (filter (λ (x : Numbered). (x.0 / 100) == g) xs) ≡ filter (λ (e : Entry). (e.number / 100) == g) (map entry xs)
filter_entries g [] = refl
filter_entries g (x ∷ xs) = go ((x.0 / 100) == g) (filter_entries g xs)
  where
    go : (t : Bool) → map entry (filter (λ (x : Numbered). (x.0 / 100) == g) xs) ≡ filter (λ (e : Entry). (e.number / 100) == g) (map entry xs)
        → map entry (cond t (x ∷ filter (λ (x : Numbered). (x.0 / 100) == g) xs) (filter (λ (x : Numbered). (x.0 / 100) == g) xs))
        ≡ cond t (entry x ∷ filter (λ (e : Entry). (e.number / 100) == g) (map entry xs)) (filter (λ (e : Entry). (e.number / 100) == g) (map entry xs))
    go true e = ap (λ (t : List Entry). entry x ∷ t) e
    go false e = e

index_made : (dir : Dir) (g : ℕ) (es : List Entry) → AreNumbered 1 es → HaveSizes dir 1 es → index_of g (posts_of dir 1 es) ≡ filter (λ (e : Entry). (e.number / 100) == g) es
index_made dir g es is have = filter_entries g (numbered (posts_of dir 1 es)) ∙ ap (filter (λ (e : Entry). (e.number / 100) == g)) (entries_made dir 1 es is have)

-- the entries with a key have the same numbers as the posts with this key
pub keys_made : (dir : Dir) (prefix k : Text) (n : ℕ) (es : List Entry) → key_numbers prefix k n es ≡ numbers (filter (λ (x : Numbered). bytes_eq (key_of prefix x.1) k) (enumerate_from n (posts_of dir n es)))
keys_made dir prefix k n [] = refl
keys_made dir prefix k n (e ∷ es) = go (bytes_eq (subject_key prefix e.subject) k) (keys_made dir prefix k (n + 1) es)
  where
    go : (t : Bool) → key_numbers prefix k (n + 1) es ≡ numbers (filter (λ (x : Numbered). bytes_eq (key_of prefix x.1) k) (enumerate_from (n + 1) (posts_of dir (n + 1) es)))
        → cond t (n ∷ key_numbers prefix k (n + 1) es) (key_numbers prefix k (n + 1) es)
        ≡ numbers (cond t ((n, post_of dir n e) ∷ filter (λ (x : Numbered). bytes_eq (key_of prefix x.1) k) (enumerate_from (n + 1) (posts_of dir (n + 1) es)))
        (filter (λ (x : Numbered). bytes_eq (key_of prefix x.1) k) (enumerate_from (n + 1) (posts_of dir (n + 1) es))))
    go true e = ap (λ (t : List ℕ). n ∷ t) e
    go false e = e

-- the posts are in their ranges, and the files have their bytes
all_posts : (dir : Dir) (k : ℕ) (es : List Entry) → AreNumbered k es → HaveSizes dir k es → AllByRecursion IsPost (posts_of dir k es)
all_posts dir k [] is have = tt
all_posts dir k (e ∷ es) is have =
    let entry_is = is.1 in
    let size = (there_with (dir (post_name k)) e.size have.0).1 in
    let few = entry_is.size in
    (record { sender = entry_is.sender; moment = entry_is.moment; size = omega (arith, size, few) }, all_posts dir (k + 1) es is.2 have.1)

post_there : (dir : Dir) (k i n : ℕ) (es : List Entry) → n ≡ k + i → HaveSizes dir k es → i < length es → dir (post_name n) ≡ option_map (λ (p : Post). p.bytes) (slice_get (posts_of dir k es) i)
post_there dir k i n [] at have less = absurd (omega (arith, less))
post_there dir k zero n (e ∷ es) at have less = let same : n ≡ k = omega (arith, at) in ap (λ (m : ℕ). dir (post_name m)) same ∙ (there_with (dir (post_name k)) e.size have.0).0
post_there dir k (suc i) n (e ∷ es) at have less = post_there dir (k + 1) i n es (omega (arith, at)) have.1 (omega (arith, less))

pub post_past : (posts : List Post) (i : ℕ) → length posts ≤ i → slice_get posts i ≡ None
post_past [] i le = refl
post_past (p ∷ ps) zero le = absurd (omega (arith, le))
post_past (p ∷ ps) (suc i) le = post_past ps i (omega (arith, le))

-- a file up to a number of posts, and beyond it
pub past_post : (count n : ℕ) (dir : Dir) → count < n → up_to count dir (post_name n) ≡ None
past_post count n dir less = ap (λ t. cond (t || false) None (dir (post_name n))) (lt-ltb count n less)

pub kept_post : (count n : ℕ) (dir : Dir) → n ≤ count → up_to count dir (post_name n) ≡ dir (post_name n)
kept_post count n dir le = ap (λ t. cond (t || false) None (dir (post_name n))) (le-ltb count n le)

pub past_index : (count g : ℕ) (dir : Dir) → count < first_of g → up_to count dir (index_name g) ≡ None
past_index count g dir less = ap (λ t. cond t None (dir (index_name g))) (lt-ltb count (first_of g) less)

pub kept_index : (count g : ℕ) (dir : Dir) → first_of g ≤ count → up_to count dir (index_name g) ≡ dir (index_name g)
kept_index count g dir le = ap (λ t. cond t None (dir (index_name g))) (le-ltb count (first_of g) le)

-- an index without entries may be absent
pub no_index : (g : ℕ) (es : List Entry) → es ≡ [] → IsIndexFile g None es
no_index g es none = subst (λ (t : List Entry). IsIndexFile g None t) (sym none) (record { each = tt; numbered = refl; few = omega arith; spelled = refl })

-- how many posts a group has
abbrev is_of : ℕ → Numbered → Bool
is_of g x = (x.0 / 100) == g

pub group_size : (g k : ℕ) (posts : List Post) → length (filter (is_of g) (enumerate_from k posts)) + max k (100 * g) ≡ max (max k (100 * g)) (min (k + length posts) (100 * g + 100))
group_size g k [] = omega arith
group_size g k (p ∷ ps) = go ((k / 100) == g) refl (group_size g (k + 1) ps)
  where
    go : (t : Bool) → ((k / 100) == g) ≡ t → length (filter (is_of g) (enumerate_from (k + 1) ps)) + max (k + 1) (100 * g) ≡ max (max (k + 1) (100 * g)) (min ((k + 1) + length ps) (100 * g + 100))
        → length (cond t ((k, p) ∷ filter (is_of g) (enumerate_from (k + 1) ps)) (filter (is_of g) (enumerate_from (k + 1) ps))) + max k (100 * g) ≡ max (max k (100 * g)) (min (k + suc (length ps)) (100 * g + 100))
    go true e before = let same = eqb-true (k / 100) g e in omega (arith, same, before)
    go false e before = let other = eqb-false (k / 100) g e in omega (arith, other, before)

index_long : (g : ℕ) (posts : List Post) → length (index_of g posts) ≡ length (filter (is_of g) (numbered posts))
index_long g posts = length-map (filter (is_of g) (numbered posts)) entry

none_left : {A : Type 0} (xs : List A) → length xs ≡ 0 → xs ≡ []
none_left [] e = refl
none_left (x ∷ xs) e = absurd (omega (arith, e))

pub index_none : (g : ℕ) (posts : List Post) → length posts < first_of g → index_of g posts ≡ []
index_none g posts less =
    let long = index_long g posts in
    let size = group_size g 1 posts in
    none_left (index_of g posts) (omega (arith, long, size, less))

pub index_full : (g : ℕ) (posts : List Post) → first_of g ≤ length posts → length (index_of g posts) + first_of g ≡ min (length posts + 1) (100 * g + 100)
index_full g posts le =
    let long = index_long g posts in
    let size = group_size g 1 posts in
    omega (arith, long, size, le)

some_groups : (n : ℕ) → groups_of (suc n) ≡ suc n / 100 + 1
some_groups n = ap (λ t. cond t 0 (suc n / 100 + 1)) (ne_eqb (suc n) 0 (λ e. omega (arith, e)))

groups_enough : (count : ℕ) → max 1 (min (count + 1) (100 * groups_of count)) ≡ count + 1
groups_enough zero = refl
groups_enough (suc n) = let some = some_groups n in omega (arith, some)

pub below_groups : (count g : ℕ) → first_of g ≤ count → g < groups_of count
below_groups zero g le = absurd (omega (arith, le))
below_groups (suc n) g le = let some = some_groups n in omega (arith, some, le)

pub group_there : (count g end : ℕ) → end ≡ groups_of count → g < end → first_of g ≤ count
group_there zero g end is less = absurd (omega (arith, is, less))
group_there (suc n) g end is less = let some = some_groups n in omega (arith, is, some, less)

-- the entries of all groups make the posts that the files stand for, except for the thread files
module _ (dir : Dir) (count : ℕ) (es : List Entry) (counted : IsNumberFile (dir number_name) count) (are : AreEntries dir count (groups_of count) es) where
  abbrev posts : List Post
  posts = posts_of dir 1 es

  pub total : length posts ≡ count
  total = let long = are.long in let whole = groups_enough count in let same = posts_long dir 1 es in omega (arith, long, whole, same)

  files : (n : ℕ) → IsTrue (is_in_table (post_name n)) → up_to (length posts) dir (post_name n) ≡ option_map (λ (p : Post). p.bytes) (post_at posts n)
  files zero there = absurd (cc)
  files (suc i) there = go (cases_lt i (length posts))
    where
      go : ((i < length posts) ⊎ (length posts ≤ i)) → up_to (length posts) dir (post_name (suc i)) ≡ option_map (λ (p : Post). p.bytes) (slice_get posts i)
      go (inl less) = kept_post (length posts) (suc i) dir (omega (arith, less)) ∙ post_there dir 1 i (suc i) es (omega arith) are.sizes (let same = posts_long dir 1 es in omega (arith, same, less))
      go (inr up) = past_post (length posts) (suc i) dir (omega (arith, up)) ∙ sym (ap (option_map (λ (p : Post). p.bytes)) (post_past posts i up))

  indexes : (g : ℕ) → IsTrue (is_in_table (index_name g)) → IsIndexFile g (up_to (length posts) dir (index_name g)) (index_of g posts)
  indexes g there = go (cases_lt (length posts) (first_of g))
    where
      go : ((length posts < first_of g) ⊎ (first_of g ≤ length posts)) → IsIndexFile g (up_to (length posts) dir (index_name g)) (index_of g posts)
      go (inl past) = subst (λ (o : Option Text). IsIndexFile g o (index_of g posts)) (sym (past_index (length posts) g dir past)) (no_index g (index_of g posts) (index_none g posts past))
      go (inr up) =
          subst (λ (o : Option Text). IsIndexFile g o (index_of g posts)) (sym (kept_index (length posts) g dir up))
          (subst (λ (t : List Entry). IsIndexFile g (dir (index_name g)) t) (sym (index_made dir g es are.numbered are.sizes)) (are.indexes g (below_groups count g (let same = total in omega (arith, up, same)))))

  pub posts_filed : AreCountedPosts dir posts
  posts_filed = record {
    each = all_posts dir 1 es are.numbered are.sizes;
    files = files;
    indexes = indexes;
    counted = subst (λ (n : ℕ). IsNumberFile (dir number_name) n) (sym total) counted;
  }

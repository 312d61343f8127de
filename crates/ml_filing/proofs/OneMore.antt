-- How numbering, groups and indexes change when a post is added.
use Rattle.std.proofs.Common.{◌≡◌, ◌<◌, ◌≤◌, ◌+◌, ◌*◌, ◌/◌, max, ℕ, zero, suc, Bool, true, false, cond, ◌==◌, ◌&&◌, List, [], ◌∷◌, ◌++◌, length, map, filter, slice_get, Option, Some, refl, sym, ap, ap₂, ◌∙◌, subst, arith, append-nil, length-append}
use Rattle.std.specs.Prelude.{unwrap_or, nat_le}
use Rattle.std.specs.List.{AllByRecursion, enumerate_from, range_with_len}
use Rattle.std.specs.Str.{bytes_eq}
use Rattle.std.proofs.lemmas.Bool.{eqb-true, eqb-false, eq-eqb}
use Rattle.std.proofs.lemmas.Grind.{flat_map-append}
use Rattle.std.proofs.lemmas.List.{length-map}
use Rattle.std.proofs.lemmas.List.Elements.{filter-append}
use Rattle.ml_base.specs.Bytes.{Text}
use Rattle.ml_filing.specs.Appending.{append, next_number, next_post}
use Rattle.ml_filing.specs.Archive.{IsEntry, IsIndexFile, entry_text, index_text}
use Rattle.ml_filing.specs.Posts.{Numbered, numbered, in_range, group, of_key, key_of, post_at, entry, index_of}
use Rattle.ml_filing.specs.declared.posts.Entry.{Entry}
use Rattle.ml_filing.specs.declared.posts.Post.{Post}

-- the numbered posts, and one more
counted_on : (n : ℕ) (posts : List Post) (p : Post) → enumerate_from n (posts ++ p ∷ []) ≡ enumerate_from n posts ++ (n + length posts, p) ∷ []
counted_on n [] p = let e : n ≡ n + 0 = omega arith in ap (λ (k : ℕ). (k, p) ∷ []) e
counted_on n (x ∷ xs) p =
    let e : (n + 1) + length xs ≡ n + suc (length xs) = omega arith in
    ap (λ t. (n, x) ∷ t) (counted_on (n + 1) xs p ∙ ap (λ (k : ℕ). enumerate_from (n + 1) xs ++ (k, p) ∷ []) e)

pub numbered_on : (posts : List Post) (p : Post) → numbered (append p posts) ≡ numbered posts ++ next_post posts p ∷ []
numbered_on posts p =
    let e : 1 + length posts ≡ length posts + 1 = omega arith in counted_on 1 posts p ∙ ap (λ (k : ℕ). numbered posts ++ (k, p) ∷ []) e

-- a filter of them, with the new post at the end if it passes
filtered_on : (f : Numbered → Bool) (posts : List Post) (p : Post) → filter f (numbered (append p posts)) ≡ filter f (numbered posts) ++ cond (f (next_post posts p)) (next_post posts p ∷ []) []
filtered_on f posts p = ap (filter f) (numbered_on posts p) ∙ filter-append f (numbered posts) (next_post posts p ∷ [])

pub range_on : (a b : ℕ) (posts : List Post) (p : Post) → in_range a b (append p posts) ≡ in_range a b posts ++ cond (nat_le a (next_number posts) && nat_le (next_number posts) b) (next_post posts p ∷ []) []
range_on a b posts p = filtered_on (λ (e : Numbered). nat_le a e.0 && nat_le e.0 b) posts p

pub group_on : (g : ℕ) (posts : List Post) (p : Post) → group g (append p posts) ≡ group g posts ++ cond ((next_number posts / 100) == g) (next_post posts p ∷ []) []
group_on g posts p = filtered_on (λ (e : Numbered). (e.0 / 100) == g) posts p

pub key_on : (prefix k : Text) (posts : List Post) (p : Post) → of_key prefix k (append p posts) ≡ of_key prefix k posts ++ cond (bytes_eq (key_of prefix p) k) (next_post posts p ∷ []) []
key_on prefix k posts p = filtered_on (λ (e : Numbered). bytes_eq (key_of prefix e.1) k) posts p

-- post n stays post n
get_kept : (posts : List Post) (p : Post) (i : ℕ) → i < length posts → slice_get (posts ++ p ∷ []) i ≡ slice_get posts i
get_kept [] p i less = absurd (omega (arith, less))
get_kept (x ∷ xs) p zero less = refl
get_kept (x ∷ xs) p (suc i) less = get_kept xs p i (omega (arith, less))

get_new : (posts : List Post) (p : Post) (i : ℕ) → i ≡ length posts → slice_get (posts ++ p ∷ []) i ≡ Some p
get_new [] p zero e = refl
get_new [] p (suc i) e = absurd (omega (arith, e))
get_new (x ∷ xs) p zero e = absurd (omega (arith, e))
get_new (x ∷ xs) p (suc i) e = get_new xs p i (omega (arith, e))

get_past : (posts : List Post) (p : Post) (i : ℕ) → length posts < i → slice_get (posts ++ p ∷ []) i ≡ slice_get posts i
get_past [] p zero less = absurd (omega (arith, less))
get_past [] p (suc i) less = refl
get_past (x ∷ xs) p zero less = absurd (omega (arith, less))
get_past (x ∷ xs) p (suc i) less = get_past xs p i (omega (arith, less))

pub post_kept : (posts : List Post) (p : Post) (n : ℕ) → n ≤ length posts → post_at (append p posts) n ≡ post_at posts n
post_kept posts p zero le = refl
post_kept posts p (suc n) le = get_kept posts p n (omega (arith, le))

pub post_new : (posts : List Post) (p : Post) (n : ℕ) → n ≡ next_number posts → post_at (append p posts) n ≡ Some p
post_new posts p zero e = absurd (omega (arith, e))
post_new posts p (suc n) e = get_new posts p n (omega (arith, e))

pub post_past : (posts : List Post) (p : Post) (n : ℕ) → next_number posts < n → post_at (append p posts) n ≡ post_at posts n
post_past posts p zero less = refl
post_past posts p (suc n) less = get_past posts p n (omega (arith, less))

-- how many posts a group has, if the next post is of that group
counted_group : (g k : ℕ) (posts : List Post) → 1 ≤ k → max 1 (100 * g) ≤ k + length posts → k + length posts ≤ 100 * g + 100
    → length (filter (λ (e : Numbered). (e.0 / 100) == g) (enumerate_from k posts)) + max k (max 1 (100 * g)) ≡ k + length posts
counted_group g k [] low first high = omega (arith, low, first, high)
counted_group g k (x ∷ xs) low first high = go ((k / 100) == g) refl (counted_group g (k + 1) xs (omega (arith, low)) (omega (arith, first)) (omega (arith, high)))
  where
    go : (t : Bool) → ((k / 100) == g) ≡ t → length (filter (λ (e : Numbered). (e.0 / 100) == g) (enumerate_from (k + 1) xs)) + max (k + 1) (max 1 (100 * g)) ≡ (k + 1) + length xs
        → length (filter (λ (e : Numbered). (e.0 / 100) == g) (enumerate_from k (x ∷ xs))) + max k (max 1 (100 * g)) ≡ k + suc (length xs)
    go true is more = let here = eqb-true (k / 100) g is in rw is (omega (arith, here, more, low, first, high))
    go false is more = let away = eqb-false (k / 100) g is in rw is (omega (arith, away, more, low, first, high))

pub range_on_end : (a n : ℕ) → range_with_len a (n + 1) ≡ range_with_len a n ++ (a + n) ∷ []
range_on_end a zero = let e : a ≡ a + 0 = omega arith in ap (λ (k : ℕ). k ∷ []) e
range_on_end a (suc n) =
    let one : suc n + 1 ≡ suc (n + 1) = omega arith in
    let e : (a + 1) + n ≡ a + suc n = omega arith in
    ap (range_with_len a) one ∙ ap (λ t. a ∷ t) (range_on_end (a + 1) n ∙ ap (λ (k : ℕ). range_with_len (a + 1) n ++ k ∷ []) e)

pub map_on : {A B : Type 0} (f : A → B) (xs : List A) (x : A) → map f (xs ++ x ∷ []) ≡ map f xs ++ f x ∷ []
map_on f [] x = refl
map_on f (y ∷ ys) x = ap (λ t. f y ∷ t) (map_on f ys x)

pub all_on : {A : Type 0} (P : A → Type 0) (xs : List A) (x : A) → AllByRecursion P xs → P x → AllByRecursion P (xs ++ x ∷ [])
all_on P [] x all is = (is, tt)
all_on P (y ∷ ys) x all is = (all.0, all_on P ys x all.1 is)

-- the index of a group, with the new post's entry at the end if it is of the group
pub index_on : (g : ℕ) (posts : List Post) (p : Post) (t : Bool) → ((next_number posts / 100) == g) ≡ t → index_of g (append p posts) ≡ index_of g posts ++ cond t (entry (next_post posts p) ∷ []) []
index_on g posts p true is = ap (map entry) (group_on g posts p ∙ ap (λ b. group g posts ++ cond b (next_post posts p ∷ []) []) is) ∙ map_on entry (group g posts) (next_post posts p)
index_on g posts p false is =
    ap (map entry) (group_on g posts p ∙ ap (λ b. group g posts ++ cond b (next_post posts p ∷ []) []) is ∙ append-nil (group g posts)) ∙ sym (append-nil (index_of g posts))

abbrev next_entry : List Post → Post → Entry
next_entry posts p = entry (next_post posts p)

-- how many entries the group of the next post has
pub index_size : (g : ℕ) (posts : List Post) → next_number posts / 100 ≡ g → length (index_of g posts) + max 1 (100 * g) ≡ next_number posts
index_size g posts here =
    let counted = counted_group g 1 posts (omega arith) (omega (arith, here)) (omega (arith, here)) in
    let same = length-map (group g posts) entry in
    omega (arith, counted, same)

-- the file of the index with the new post's entry after those of its group
pub index_file_on : (g : ℕ) (posts : List Post) (p : Post) (file : Option Text) → next_number posts / 100 ≡ g → IsEntry (next_entry posts p) → IsIndexFile g file (index_of g posts)
    → IsIndexFile g (Some (unwrap_or file [] ++ entry_text (next_entry posts p))) (index_of g (append p posts))
index_file_on g posts p file here entry_is is =
    subst (λ es. IsIndexFile g (Some (unwrap_or file [] ++ entry_text (next_entry posts p))) es) (sym (index_on g posts p true (eq-eqb (next_number posts / 100) g here))) longer
  where
    old : List Entry
    old = index_of g posts

    size : length (index_of g posts) + max 1 (100 * g) ≡ next_number posts
    size = index_size g posts here

    longer : IsIndexFile g (Some (unwrap_or file [] ++ entry_text (next_entry posts p))) (index_of g posts ++ next_entry posts p ∷ [])
    longer =
        let total = length-append (index_of g posts) (next_entry posts p ∷ []) in
        let last : max 1 (100 * g) + length (index_of g posts) ≡ next_number posts = omega (arith, size) in
        let long : length (index_of g posts) + 1 ≡ length (index_of g posts ++ next_entry posts p ∷ []) = omega (arith, total) in
        record {
          each = all_on IsEntry (index_of g posts) (next_entry posts p) is.each entry_is;
          numbered =
              map_on (λ (e : Entry). e.number) (index_of g posts) (next_entry posts p)
              ∙ ap₂ (λ (ns : List ℕ) (n : ℕ). ns ++ n ∷ []) is.numbered (sym last)
              ∙ sym (range_on_end (max 1 (100 * g)) (length (index_of g posts))) ∙ ap (range_with_len (max 1 (100 * g))) long;
          few = omega (arith, total, size, here);
          spelled =
              ap (λ t. t ++ entry_text (next_entry posts p)) is.spelled
              ∙ sym (flat_map-append entry_text (index_of g posts) (next_entry posts p ∷ []) ∙ ap (λ t. index_text (index_of g posts) ++ t) (append-nil (entry_text (next_entry posts p))));
        }

-- the index of another group stays as it is
pub index_file_kept : (g : ℕ) (posts : List Post) (p : Post) (file : Option Text) → ((next_number posts / 100) == g) ≡ false → IsIndexFile g file (index_of g posts) → IsIndexFile g file (index_of g (append p posts))
index_file_kept g posts p file away is = subst (λ es. IsIndexFile g file es) (sym (index_on g posts p false away ∙ append-nil (index_of g posts))) is

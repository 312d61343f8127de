-- The files of the archive stand for at most one list of posts, and no other file matters.
use Rattle.std.proofs.Common.{◌≡◌, ◌≢◌, ◌<◌, ◌≤◌, ◌+◌, ◌/◌, ℕ, zero, suc, Bool, true, false, ◌==◌, ◌&&◌, leb, List, [], ◌∷◌, length, map, filter, find, slice_get, Option, Some, None, refl, sym, ap, ap₂, ◌∙◌, subst, arith, ◌⊎◌, inl, inr}
use Rattle.std.specs.Prelude.{unwrap_or, IsTrue}
use Rattle.std.specs.List.{enumerate_from}
use Rattle.std.specs.Option.{option_map}
use Rattle.std.proofs.lemmas.Bool.{eq-eqb, ne_eqb, and_from, le-leb, cases_lt}
use Rattle.std.proofs.lemmas.Nat.{div_below}
use Rattle.ml_base.specs.Bytes.{Text}
use Rattle.ml_base.specs.Dir.{Dir}
use Rattle.ml_base.specs.Name.{is_in_table}
use Rattle.ml_base.specs.declared.names.Name.{Name}
use Rattle.ml_keyed.proofs.Exact.{file_absent}
use Rattle.ml_rows.proofs.RowLaws.{none_some}
use Rattle.ml_filing.specs.Archive.{ArePosts, IsIndexFile, IsNumberFile, post_name, index_name, number_name, number_text, is_of_posts}
use Rattle.ml_filing.specs.Posts.{index_of, entry, post_at}
use Rattle.ml_filing.specs.Reading.{count_in, index_in, threads_in}
use Rattle.ml_filing.specs.Threads.{Thread, IsArchive, IsThread, IsThreadFile, thread_name, thread_text, is_of_archive}
use Rattle.ml_filing.specs.declared.posts.Entry.{Entry}
use Rattle.ml_filing.specs.declared.posts.Post.{Post}
use Rattle.ml_filing.proofs.Exact.{index_one, index_written, threads_written, count_one, count_written}

-- the entry with a number is that of the post with this number
pub looked_up : (k n i : ℕ) (posts : List Post) → n ≡ k + i
    → find (λ (e : Entry). e.number == n) (map entry (filter (λ (e : ℕ × Post). (e.0 / 100) == (n / 100)) (enumerate_from k posts))) ≡ option_map (λ (p : Post). entry (n, p)) (slice_get posts i)
looked_up k n i [] e = refl
looked_up k n zero (x ∷ xs) e =
    let same : k ≡ n = omega (arith, e) in
    rw (eq-eqb (k / 100) (n / 100) (ap (λ m. m / 100) same), eq-eqb k n same) (ap (λ m. Some (entry (m, x))) same)
looked_up k n (suc i) (x ∷ xs) e = go ((k / 100) == (n / 100)) refl (looked_up (k + 1) n i xs (omega (arith, e)))
  where
    other : k ≢ n
    other h = omega (arith, e, h)

    go : (b : Bool) → ((k / 100) == (n / 100)) ≡ b → find (λ (e : Entry). e.number == n) (map entry (filter (λ (e : ℕ × Post). (e.0 / 100) == (n / 100)) (enumerate_from (k + 1) xs))) ≡ option_map (λ (p : Post). entry (n, p)) (slice_get xs i)
        → find (λ (e : Entry). e.number == n) (map entry (filter (λ (e : ℕ × Post). (e.0 / 100) == (n / 100)) (enumerate_from k (x ∷ xs)))) ≡ option_map (λ (p : Post). entry (n, p)) (slice_get xs i)
    go true h more = rw (h, ne_eqb k n other) more
    go false h more = rw h more

get_none : {A : Type 0} (xs : List A) (i : ℕ) → length xs ≤ i → slice_get xs i ≡ None
get_none [] i le = refl
get_none (x ∷ xs) zero le = absurd (omega (arith, le))
get_none (x ∷ xs) (suc i) le = get_none xs i (omega (arith, le))

pub get_some : {A : Type 0} (xs : List A) (i : ℕ) → i < length xs → (x : A) × (slice_get xs i ≡ Some x)
get_some [] i lt = absurd (omega (arith, lt))
get_some (x ∷ xs) zero lt = (x, refl)
get_some (x ∷ xs) (suc i) lt = get_some xs i (omega (arith, lt))

by_get : {A : Type 0} (xs ys : List A) → ((i : ℕ) → slice_get xs i ≡ slice_get ys i) → xs ≡ ys
by_get [] [] h = refl
by_get {A} [] (y ∷ ys) h = absurd (let bad : None ≡ Some y = h 0 in cc)
by_get {A} (x ∷ xs) [] h = absurd (let bad : Some x ≡ None = h 0 in cc)
by_get {A} (x ∷ xs) (y ∷ ys) h =
    let first : Some x ≡ Some y = h 0 in
    let same : x ≡ y = cc in
    ap₂ (λ (z : A) (zs : List A). z ∷ zs) same (by_get xs ys (λ i. h (suc i)))

pub in_table : (kind at : ℕ) (first last : ℕ) → is_in_table (record { kind = kind; at = at }) ≡ (leb kind 21 && leb first at && leb at last) → leb kind 21 ≡ true → first ≤ at → at ≤ last → is_in_table (record { kind = kind; at = at }) ≡ true
in_table kind at first last is known least most = is ∙ and_from (leb kind 21 && leb first at) (leb at last) (and_from (leb kind 21) (leb first at) known (le-leb first at least)) (le-leb at last most)

same_post : (n : ℕ) (p q : Post) → entry (n, p) ≡ entry (n, q) → p.bytes ≡ q.bytes → p ≡ q
same_post n p q e bytes = λ i. record { sender = (e i).sender; moment = (e i).moment; subject = (e i).subject; bytes = bytes i }

pub posts_one : (dir : Dir) (a b : List Post) → ArePosts dir a → ArePosts dir b → a ≡ b
posts_one dir a b is other = by_get a b (λ i. go i (cases_lt i (length a)))
  where
    size : length a ≡ length b
    size = count_one (dir number_name) (length a) (length b) is.counted other.counted

    go : (i : ℕ) → ((i < length a) ⊎ (length a ≤ i)) → slice_get a i ≡ slice_get b i
    go i (inr high) = get_none a i high ∙ sym (get_none b i (omega (arith, high, size)))
    go i (inl low) =
        let n = suc i in
        let few = (is.counted).few in
        let p = get_some a i low in
        let q = get_some b i (omega (arith, low, size)) in
        let post_there = in_table 9 n 1 99_999_999 refl refl (omega arith) (omega (arith, low, few)) in
        let group_low : n / 100 < 1_000_000 = div_below n 100 1_000_000 (omega arith) (omega (arith, low, few)) in
        let group_there = in_table 10 (n / 100) 0 999_999 refl refl (omega arith) (omega (arith, group_low)) in
        let bytes : Some (p.0).bytes ≡ Some (q.0).bytes =
        sym (ap (λ o. option_map (λ (p : Post). p.bytes) o) p.1) ∙ sym (is.files n post_there) ∙ other.files n post_there ∙ ap (λ o. option_map (λ (p : Post). p.bytes) o) q.1 in
        let same_bytes : (p.0).bytes ≡ (q.0).bytes = cc in
        let indexes = index_one (n / 100) (dir (index_name (n / 100))) (index_of (n / 100) a) (index_of (n / 100) b) (is.indexes (n / 100) group_there) (other.indexes (n / 100) group_there) in
        let entries : Some (entry (n, p.0)) ≡ Some (entry (n, q.0)) =
        sym (ap (λ o. option_map (λ (p : Post). entry (n, p)) o) p.1) ∙ sym (looked_up 1 n i a (omega arith)) ∙ ap (find (λ (e : Entry). e.number == n)) indexes
        ∙ looked_up 1 n i b (omega arith) ∙ ap (λ o. option_map (λ (p : Post). entry (n, p)) o) q.1 in
        let same_entry : entry (n, p.0) ≡ entry (n, q.0) = cc in
        p.1 ∙ ap (λ (x : Post). Some x) (same_post n p.0 q.0 same_entry same_bytes) ∙ sym q.1

pub archive_one : (dir : Dir) (prefix : Text) (a b : List Post) → IsArchive dir prefix a → IsArchive dir prefix b → a ≡ b
archive_one dir prefix a b is other = posts_one dir a b is.filed other.filed

pub posts_own : (dir other : Dir) (posts : List Post) → ((name : Name) → is_of_posts name ≡ true → other name ≡ dir name) → ArePosts dir posts → ArePosts other posts
posts_own dir other posts same is = record {
  each = is.each;
  files = λ n there. same (post_name n) refl ∙ is.files n there;
  indexes = λ g there. subst (λ (f : Option Text). IsIndexFile g f (index_of g posts)) (sym (same (index_name g) refl)) (is.indexes g there);
  counted = subst (λ (f : Option Text). IsNumberFile f (length posts)) (sym (same number_name refl)) is.counted;
}

pub archive_own : (dir other : Dir) (prefix : Text) (posts : List Post) → ((name : Name) → is_of_archive name ≡ true → other name ≡ dir name) → IsArchive dir prefix posts → IsArchive other prefix posts
archive_own dir other prefix posts same is = record {
  filed = record {
    each = (is.filed).each;
    files = λ n there. same (post_name n) refl ∙ (is.filed).files n there;
    indexes = λ g there. subst (λ (f : Option Text). IsIndexFile g f (index_of g posts)) (sym (same (index_name g) refl)) ((is.filed).indexes g there);
    counted = subst (λ (f : Option Text). IsNumberFile f (length posts)) (sym (same number_name refl)) (is.filed).counted;
  };
  threaded = record {
    threads = (is.threaded).threads;
    files = λ n less. subst (λ (f : Option Text). IsThreadFile n f ((is.threaded).threads n)) (sym (same (thread_name n) refl)) ((is.threaded).files n less);
    by_key = (is.threaded).by_key;
  };
}

pub broken_index : (dir : Dir) (g : ℕ) (posts : List Post) → IsTrue (is_in_table (index_name g)) → index_in g (unwrap_or (dir (index_name g)) []) ≡ None → ¬ ArePosts dir posts
broken_index dir g posts there e is = none_some (index_of g posts) (sym e ∙ index_written g (dir (index_name g)) (index_of g posts) (is.indexes g there))

pub broken_threads : (dir : Dir) (prefix : Text) (n : ℕ) (posts : List Post) → n < 256 → threads_in n (unwrap_or (dir (thread_name n)) []) ≡ None → ¬ IsArchive dir prefix posts
broken_threads dir prefix n posts less e is =
    none_some ((is.threaded).threads n) (sym e ∙ threads_written n (dir (thread_name n)) ((is.threaded).threads n) ((is.threaded).files n less))

pub broken_count : (dir : Dir) (posts : List Post) → count_in (unwrap_or (dir number_name) []) ≡ None → ¬ ArePosts dir posts
broken_count dir posts e is = none_some (length posts) (sym e ∙ count_written (dir number_name) (length posts) is.counted)

no_post : (n : ℕ) → option_map (λ (p : Post). p.bytes) (post_at [] n) ≡ None
no_post zero = refl
no_post (suc n) = refl

pub archive_nothing : (dir : Dir) (prefix : Text) → ((name : Name) → is_of_archive name ≡ true → name.kind ≢ 11 → dir name ≡ None) → dir number_name ≡ Some (number_text 0) → IsArchive dir prefix []
archive_nothing dir prefix none count = record {
  filed = record {
    each = tt;
    files = λ n there. none (post_name n) refl (λ e. omega (arith, e)) ∙ sym (no_post n);
    indexes = λ g there. record { each = tt; numbered = refl; few = omega arith; spelled = ap (λ (f : Option Text). unwrap_or f []) (none (index_name g) refl (λ e. omega (arith, e))) };
    counted = record { few = omega arith; spelled = count };
  };
  threaded = record {
    threads = λ n. [];
    files = λ n less. file_absent IsThread (λ (t : Thread). t.key) thread_text n (dir (thread_name n)) (none (thread_name n) refl (λ e. omega (arith, e)));
    by_key = λ k. refl;
  };
}

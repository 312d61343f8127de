-- Posts by their numbers, and their texts.
use Rattle.std.proofs.Common.{◌≡◌, inl, inr, ◌<◌, ℕ, zero, suc, ◌-◌, ◌/◌, min, Bool, true, false, cond, ◌&&◌, ◌==◌, nat_lt, nat_le, List, [], ◌∷◌, ◌++◌, length, map, filter, Option, Some, None, codes, get_or, refl, sym, ap, ap₂, ◌∙◌, arith, subst, zero-add}
use Rattle.std.proofs.lemmas.Bool.{and_from, le-leb, lt-ltb, ltb-true, or_left, or_right}
use Rattle.std.specs.Prelude.{slice_get}
use Rattle.std.specs.List.{flat_map, AllByRecursion, IsAmong}
use Rattle.std.specs.Fmt.{decimal}
use Rattle.ml_base.specs.Bytes.{Text}
use Rattle.ml_base.specs.Cuts.{within, one_or_within}
use Rattle.ml_base.specs.Dir.{Dir, same_name}
use Rattle.ml_base.specs.Texts.{lines_text}
use Rattle.ml_base.specs.declared.names.Name.{Name}
use Rattle.ml_filing.specs.Answers.{IsPostName, IsThreadName}
use Rattle.ml_filing.specs.Archive.{ArePosts, number_name, index_name}
use Rattle.ml_filing.specs.Posts.{IsPost, Numbered, as_post, cut, entry, group, in_range, in_thread, numbered, numbers, post_at, size_of}
use Rattle.ml_filing.specs.Reads.{IsOfRange, IsOfRow, IsOfSubject, IsOfThread, IsWithin}
use Rattle.ml_filing.specs.declared.posts.Entry.{Entry}
use Rattle.ml_filing.specs.declared.posts.Post.{Post}
use Rattle.ml_filing.proofs.Asked.{each_among}
use Rattle.ml_filing.proofs.ByFiles.{IsOne, filtered_ones}
use Rattle.ml_plain.specs.ArchiveText.{index_entry, texts_of, whole_post}
use Rattle.ml_plain.specs.Plain.{Plain}
use Rattle.ml_reply.specs.Dates.{date_text}
use Rattle.ml_acts.specs.Doing.{is_index, is_thread_file}
use Rattle.ml_acts.proofs.Damages.{same_self}
use Rattle.ml_acts.proofs.Placed.{index_placed, threads_placed}
use Rattle.ml_manage.specs.Reads.{is_of_index, is_of_posts, is_of_range, is_of_thread}
use Rattle.ml_manage.specs.Texts.{entries_text, entry_text, if_post, post_text, posts_text}

-- what all of a row has, what is taken of it has
module _ {A : Type 0} (size : A → ℕ) (P : A → Type 0) where
  within_all : (count room : ℕ) (xs : List A) → AllByRecursion P xs → AllByRecursion P (within size count room xs)
  within_all count room [] all = tt
  within_all count room (x ∷ xs) all = go (nat_lt 0 count && nat_le (size x) room) (within_all (count - 1) (room - size x) xs all.1)
    where
      go : (t : Bool) → AllByRecursion P (within size (count - 1) (room - size x) xs) → AllByRecursion P (cond t (x ∷ within size (count - 1) (room - size x) xs) [])
      go true more = (all.0, more)
      go false more = tt

  pub cut_all : (count room : ℕ) (xs : List A) → AllByRecursion P xs → AllByRecursion P (one_or_within size count room xs)
  cut_all count room [] all = tt
  cut_all count room (x ∷ xs) all = go (nat_le (size x) room)
    where
      go : (t : Bool) → AllByRecursion P (cond t (x ∷ within size (count - 1) (room - size x) xs) (x ∷ []))
      go true = (all.0, within_all (count - 1) (room - size x) xs all.1)
      go false = (all.0, tt)

module _ (posts : List Post) where
  filtered : (f : Numbered → Bool) → AllByRecursion (IsOne posts) (filter f (numbered posts))
  filtered f = filtered_ones posts f 0 posts (λ j. ap (slice_get posts) (zero-add j))

  pub range_ones : (a b : ℕ) → AllByRecursion (IsOne posts) (cut (in_range a b posts))
  range_ones a b = cut_all size_of (IsOne posts) 100 4_194_304 (in_range a b posts) (filtered (λ e. nat_le a e.0 && nat_le e.0 b))

  pub thread_ones : (prefix : Text) (n : ℕ) → AllByRecursion (IsOne posts) (cut (in_thread prefix n posts))
  thread_ones prefix n = cut_all size_of (IsOne posts) 100 4_194_304 (in_thread prefix n posts) (go (post_at posts n))
    where
      go : (found : Option Post) → AllByRecursion (IsOne posts) (as_post prefix posts found)
      go None = tt
      go (Some p) = filtered _

  group_ones : (g : ℕ) → AllByRecursion (IsOne posts) (group g posts)
  group_ones g = filtered (λ e. (e.0 / 100) == g)

one_text : (p : Plain) (e : Numbered) → IsOne p.posts e → post_text p e.0 ≡ whole_post p.config e
one_text p e is = ap (if_post p.config e.0) (ap (post_at p.posts) is.1 ∙ is.2)

texts_joined : (p : Plain) (es : List Numbered) → AllByRecursion (IsOne p.posts) es → flat_map (post_text p) (numbers es) ≡ flat_map (whole_post p.config) es
texts_joined p [] all = refl
texts_joined p (e ∷ es) all = ap₂ (λ a b. a ++ b) (one_text p e all.0) (texts_joined p es all.1)

-- the posts of their numbers
pub posts_are : (p : Plain) (es : List Numbered) → AllByRecursion (IsOne p.posts) es → posts_text p (numbers es) ≡ texts_of (whole_post p.config) es
posts_are p [] all = refl
posts_are p (e ∷ es) all = texts_joined p (e ∷ es) all

one_post : (posts : List Post) (i : ℕ) (p : Post) → AllByRecursion IsPost posts → slice_get posts i ≡ Some p → IsPost p
one_post [] i p all e = absurd (let bad : None ≡ Some p = e in cc)
one_post (q ∷ posts) zero p all e = let same : q ≡ p = cc in subst IsPost same all.0
one_post (q ∷ posts) (suc i) p all e = one_post posts i p all.1 e

abbrev lines_at : ℕ → Entry → Text
lines_at moment e = lines_text ((decimal e.number ++ codes ": " ++ date_text moment ++ codes "; " ++ e.sender) ∷ (9 ∷ e.subject) ∷ [])

entry_is : (e : Numbered) → IsPost e.1 → entry_text (entry e) ≡ index_entry e
entry_is e is =
    let low : e.1.moment < 253_402_300_800 = ltb-true e.1.moment 253_402_300_800 is.moment in
    let same : min e.1.moment 253_402_300_799 ≡ e.1.moment = omega (arith, low) in
    ap (λ m. lines_at m (entry e)) same

entries_joined : (posts : List Post) (es : List Numbered) → AllByRecursion IsPost posts → AllByRecursion (IsOne posts) es → flat_map entry_text (map entry es) ≡ flat_map index_entry es
entries_joined posts [] are all = refl
entries_joined posts (e ∷ es) are all = let one = all.0 in ap₂ (λ a b. a ++ b) (entry_is e (one_post posts one.0 e.1 are one.2)) (entries_joined posts es are all.1)

entries_are : (posts : List Post) (es : List Numbered) → AllByRecursion IsPost posts → AllByRecursion (IsOne posts) es → entries_text (map entry es) ≡ texts_of index_entry es
entries_are posts [] are all = refl
entries_are posts (e ∷ es) are all = entries_joined posts (e ∷ es) are all

-- the index of a group
pub index_is : (dir : Dir) (posts : List Post) (g : ℕ) → ArePosts dir posts → entries_text (map entry (group g posts)) ≡ texts_of index_entry (group g posts)
index_is dir posts g are = entries_are posts (group g posts) are.each (group_ones posts g)

-- the files that are named
pub of_index : (g : ℕ) (name : Name) → g < 1_000_000 → name ≡ index_name g → is_of_range name ≡ true
of_index g name less e = or_left (is_index name) (same_name name number_name) (index_placed g name less e)

pub is_number : (name : Name) → name ≡ number_name → is_of_range name ≡ true
is_number name e = subst (λ (n : Name). is_of_range n ≡ true) (sym e) refl

pub range_read : (a b : ℕ) (name : Name) → IsOfRange a b name → is_of_posts a b name ≡ true
range_read a b name (inl e) = subst (λ (n : Name). is_of_posts a b n ≡ true) (sym e) refl
range_read a b name (inr (m, low, high, few, e)) =
    or_left (is_index name && (nat_le (a / 100) name.at && nat_le name.at (b / 100))) (same_name name number_name)
    (and_from (is_index name) (nat_le (a / 100) name.at && nat_le name.at (b / 100)) (index_placed (m / 100) name (omega (arith, few)) e)
    (subst (λ (n : Name). (nat_le (a / 100) n.at && nat_le n.at (b / 100)) ≡ true) (sym e)
    (and_from (nat_le (a / 100) (m / 100)) (nat_le (m / 100) (b / 100)) (le-leb (a / 100) (m / 100) (omega (arith, low))) (le-leb (m / 100) (b / 100) (omega (arith, high))))))

pub row_read : (a b : ℕ) (ns : List ℕ) (name : Name) → AllByRecursion (IsWithin a b) ns → IsOfRow number_name ns name → is_of_posts a b name ≡ true
row_read a b ns name all (inl e) = range_read a b name (inl e)
row_read a b ns name all (inr (m, among, few, e)) = let within = each_among (IsWithin a b) ns m all among in range_read a b name (inr (m, within.0, within.1, few, e))

pub among_at : (ns : List ℕ) (i : ℕ) → i < length ns → IsAmong ns (get_or ns i 0)
among_at [] i low = absurd (omega (arith, low))
among_at (n ∷ ns) zero low = (0, (omega arith, refl))
among_at (n ∷ ns) (suc i) low = let more = among_at ns i (omega (arith, low)) in (suc more.0, (let less = more.1.0 in omega (arith, less), more.1.1))

pub one_of_row : (ns : List ℕ) (i : ℕ) (name : Name) → i < length ns → IsPostName (get_or ns i 0) name → IsOfRow number_name ns name
one_of_row ns i name low (inl e) = inl e
one_of_row ns i name low (inr is) = inr (get_or ns i 0, among_at ns i low, is.0, is.1)

pub row_thread_read : (ns : List ℕ) (name : Name) → IsOfRow number_name ns name → is_of_thread name ≡ true
row_thread_read ns name (inl e) = or_left (is_of_range name) (is_thread_file name) (is_number name e)
row_thread_read ns name (inr (m, among, few, e)) = or_left (is_of_range name) (is_thread_file name) (of_index (m / 100) name (omega (arith, few)) e)

pub row_of_thread : (dir : Dir) (prefix : Text) (n : ℕ) (ns : List ℕ) (name : Name) → ((m : ℕ) → IsAmong ns m → IsOfSubject dir prefix n m) → IsOfRow number_name ns name → IsOfThread dir prefix n name
row_of_thread dir prefix n ns name of (inl e) = inl (inl e)
row_of_thread dir prefix n ns name of (inr (m, among, few, e)) = inr (inr (m, of m among, few, e))

pub thread_read : (name : Name) → IsThreadName name → is_of_thread name ≡ true
thread_read name (inl e) = or_left (is_of_range name) (is_thread_file name) (is_number name e)
thread_read name (inr (inl found)) = or_left (is_of_range name) (is_thread_file name) (of_index found.0 name found.1 found.2)
thread_read name (inr (inr found)) = or_right (is_of_range name) (is_thread_file name) (threads_placed found.0 name found.1 found.2)

pub index_read : (at : ℕ) (name : Name) → at / 100 < 1_000_000 → name ≡ index_name (at / 100) → is_of_index at name ≡ true
index_read at name less e =
    and_from (nat_lt (at / 100) 1_000_000) (same_name name (index_name (at / 100))) (lt-ltb (at / 100) 1_000_000 less)
    (subst (λ (n : Name). same_name n (index_name (at / 100)) ≡ true) (sym e) (same_self (index_name (at / 100))))

-- when there are some
pub some_posts : (p : Plain) (ns : List ℕ) (t : Bool) → t ≡ (length ns == 0) → t ≡ false → flat_map (post_text p) ns ≡ posts_text p ns
some_posts p [] t e f = absurd (let bad : true ≡ false = sym e ∙ f in cc)
some_posts p (n ∷ ns) t e f = refl

pub some_entries : (es : List Entry) (t : Bool) → t ≡ (length es == 0) → t ≡ false → flat_map entry_text es ≡ entries_text es
some_entries [] t e f = absurd (let bad : true ≡ false = sym e ∙ f in cc)
some_entries (e ∷ es) t h f = refl

-- A range that is read from a few files is the same as if all posts were filtered.
use Rattle.std.proofs.Common.{◌≡◌, ◌<◌, ◌≤◌, ◌+◌, ◌-◌, min, max, ℕ, zero, suc, Bool, true, false, cond, ◌&&◌, List, [], ◌∷◌, length, map, filter, take, slice_get, Some, refl, sym, ap, ap₂, ◌∙◌, subst, arith, inl, inr}
use Rattle.std.specs.Prelude.{nat_le}
use Rattle.std.specs.List.{AllByRecursion, AllZip, IsAmong, enumerate_from, range_with_len}
use Rattle.std.proofs.lemmas.Bool.{leb-true, leb-false}
use Rattle.std.proofs.lemmas.List.{length-map}
use Rattle.std.proofs.lemmas.List.FromFn.{length-range_with_len, get_or-range_with_len}
use Rattle.ml_base.specs.Cuts.{one_or_within}
use Rattle.ml_base.specs.Dir.{Dir}
use Rattle.ml_base.specs.declared.names.Name.{Name}
use Rattle.ml_rows.proofs.CutLaws.{cut_is}
use Rattle.ml_rows.proofs.RowLaws.{one_some, none_some}
use Rattle.ml_filing.specs.Answers.{AreSizes, IsEntryByFiles, IsRangeByFiles, IsBadForRow, IsBadForRange, first_numbers}
use Rattle.ml_filing.specs.Archive.{ArePosts, IsNumberFile, number_name}
use Rattle.ml_filing.specs.Posts.{Numbered, numbers, in_range, cut, entry, post_at}
use Rattle.ml_filing.specs.declared.posts.Entry.{Entry}
use Rattle.ml_filing.specs.declared.posts.Post.{Post}
use Rattle.ml_filing.proofs.ByFiles.{IsOne, filtered_ones, taken_all, take_numbers, cut_entries, cut_made}
use Rattle.ml_filing.proofs.Looking.{counted_is, entry_is, entry_named, no_bad_count, no_bad_index, no_missing}

-- numbers that posts can have
pub all_few : (a n : ℕ) → (0 < n → a + n ≤ 100_000_000) → AllByRecursion (λ m. m ≤ 99_999_999) (range_with_len a n)
all_few a zero few = tt
all_few a (suc n) few = let here = few (omega arith) in (omega (arith, here), all_few (a + 1) n (λ some. omega (arith, here)))

pub among_range : (a n m : ℕ) → IsAmong (range_with_len a n) m → (a ≤ m) × (m < a + n)
among_range a n m among =
    let long = length-range_with_len a n in
    let less = among.1.0 in
    let at = get_or-range_with_len a n among.0 m (omega (arith, less, long)) in
    let is = among.1.1 in
    (omega (arith, is, at), omega (arith, is, at, less, long))

-- entries with these sizes
pub sized_entries : (dir : Dir) (ns ss : List ℕ) → AreSizes dir ns ss → (es : List Entry) × AllZip (IsEntryByFiles dir) ns es × (map (λ (e : Entry). e.size) es ≡ ss) × (map (λ (e : Entry). e.number) es ≡ ns)
sized_entries dir [] [] all = ([], tt, refl, refl)
sized_entries dir [] (s ∷ ss) all = absurd all
sized_entries dir (n ∷ ns) [] all = absurd all
sized_entries dir (n ∷ ns) (s ∷ ss) all =
    let first = all.0 in
    let rest = sized_entries dir ns ss all.1 in
    let named = entry_named n (first.1).0 first.0 (first.1).2 in
    (first.0 ∷ rest.0, (first.1, rest.1), ap₂ (λ (x : ℕ) (xs : List ℕ). x ∷ xs) first.2 rest.2, ap₂ (λ (x : ℕ) (xs : List ℕ). x ∷ xs) named rest.3)

take_map : {A B : Type 0} (f : A → B) (k : ℕ) (xs : List A) → take k (map f xs) ≡ map f (take k xs)
take_map f zero xs = refl
take_map f (suc k) [] = refl
take_map f (suc k) (x ∷ xs) = ap (λ t. f x ∷ t) (take_map f k xs)

-- as many numbers as the cut of the entries has
pub cut_sizes : (es : List Entry) (ss ns : List ℕ) → map (λ (e : Entry). e.size) es ≡ ss → map (λ (e : Entry). e.number) es ≡ ns
    → take (length (one_or_within (λ (s : ℕ). s) 100 4_194_304 ss)) ns ≡ map (λ (e : Entry). e.number) (one_or_within (λ (e : Entry). e.size) 100 4_194_304 es)
cut_sizes es ss ns sizes named =
    let front = one_or_within (λ (e : Entry). e.size) 100 4_194_304 es in
    let made : one_or_within (λ (s : ℕ). s) 100 4_194_304 ss ≡ map (λ (e : Entry). e.size) front = ap (one_or_within (λ (s : ℕ). s) 100 4_194_304) (sym sizes) ∙ cut_made (λ (e : Entry). e.size) (λ (s : ℕ). s) 100 4_194_304 es in
    let long : length (one_or_within (λ (s : ℕ). s) 100 4_194_304 ss) ≡ length front = ap length made ∙ length-map front (λ (e : Entry). e.size) in
    let some : 0 < 100 = omega arith in
    let is = (cut_is (λ (e : Entry). e.size) 100 4_194_304 es some).is_front in
    ap₂ (λ (k : ℕ) (t : List ℕ). take k t) long (sym named) ∙ take_map (λ (e : Entry). e.number) (length front) es ∙ ap (map (λ (e : Entry). e.number)) (sym is)

-- the numbers of the posts in a range
pub ranged : (a b k : ℕ) (posts : List Post) → map (λ (e : Numbered). e.0) (filter (λ (e : Numbered). nat_le a e.0 && nat_le e.0 b) (enumerate_from k posts)) ≡ range_with_len (max a k) (min (b + 1) (k + length posts) - max a k)
ranged a b k [] = let none : 0 ≡ min (b + 1) (k + 0) - max a k = omega arith in ap (range_with_len (max a k)) none
ranged a b k (x ∷ xs) = go (nat_le a k) refl (nat_le k b) refl (ranged a b (k + 1) xs)
  where
    go : (s : Bool) → nat_le a k ≡ s → (t : Bool) → nat_le k b ≡ t
        → map (λ (e : Numbered). e.0) (filter (λ (e : Numbered). nat_le a e.0 && nat_le e.0 b) (enumerate_from (k + 1) xs)) ≡ range_with_len (max a (k + 1)) (min (b + 1) ((k + 1) + length xs) - max a (k + 1))
        → map (λ (e : Numbered). e.0) (cond (nat_le a k && nat_le k b) ((k, x) ∷ filter (λ (e : Numbered). nat_le a e.0 && nat_le e.0 b) (enumerate_from (k + 1) xs)) (filter (λ (e : Numbered). nat_le a e.0 && nat_le e.0 b) (enumerate_from (k + 1) xs)))
        ≡ range_with_len (max a k) (min (b + 1) (k + suc (length xs)) - max a k)
    go true low true high more =
        let l = leb-true a k low in
        let h = leb-true k b high in
        let first : max a k ≡ k = omega (arith, l) in
        let next : max a (k + 1) ≡ k + 1 = omega (arith, l) in
        let size : min (b + 1) (k + suc (length xs)) - max a k ≡ suc (min (b + 1) ((k + 1) + length xs) - max a (k + 1)) = omega (arith, l, h) in
        rw (low, high) (ap (λ (t : List ℕ). k ∷ t) (more ∙ ap (λ (n : ℕ). range_with_len n (min (b + 1) ((k + 1) + length xs) - max a (k + 1))) next)
        ∙ sym (ap₂ (λ (n m : ℕ). range_with_len n m) first size))
    go true low false high more =
        let l = leb-true a k low in
        let h = leb-false k b high in
        let here : min (b + 1) (k + suc (length xs)) - max a k ≡ 0 = omega (arith, l, h) in
        let there : min (b + 1) ((k + 1) + length xs) - max a (k + 1) ≡ 0 = omega (arith, l, h) in
        rw (low, high) (more ∙ ap (range_with_len (max a (k + 1))) there ∙ sym (ap (range_with_len (max a k)) here))
    go false low t high more =
        let l = leb-false a k low in
        let same : max a (k + 1) ≡ max a k = omega (arith, l) in
        let size : min (b + 1) ((k + 1) + length xs) - max a (k + 1) ≡ min (b + 1) (k + suc (length xs)) - max a k = omega (arith, l) in
        rw low (more ∙ ap₂ (λ (n m : ℕ). range_with_len n m) same size)

take_range : (k a n : ℕ) → take k (range_with_len a n) ≡ range_with_len a (min k n)
take_range zero a n = let none : 0 ≡ min 0 n = omega arith in ap (range_with_len a) none
take_range (suc k) a zero = let none : 0 ≡ min (suc k) 0 = omega arith in ap (range_with_len a) none
take_range (suc k) a (suc n) = let one : suc (min k n) ≡ min (suc k) (suc n) = omega arith in ap (λ (t : List ℕ). a ∷ t) (take_range k (a + 1) n) ∙ ap (range_with_len a) one

-- the first hundred numbers of a range
first_is : (a b count : ℕ) (posts : List Post) → count ≡ length posts → first_numbers a b count ≡ numbers (take 100 (in_range a b posts))
first_is a b count posts same =
    let size : min 100 (min (b + 1) (1 + length posts) - max a 1) ≡ min 100 (min b count + 1 - max a 1) = omega (arith, same) in
    sym (sym (take_numbers 100 (in_range a b posts)) ∙ ap (take 100) (ranged a b 1 posts) ∙ take_range 100 (max a 1) (min (b + 1) (1 + length posts) - max a 1) ∙ ap (range_with_len (max a 1)) size)

module _ (dir : Dir) (posts : List Post) (is : ArePosts dir posts) where
  within_list : (ps : List Post) (i : ℕ) (p : Post) → slice_get ps i ≡ Some p → i < length ps
  within_list [] i p e = absurd (none_some p e)
  within_list (x ∷ xs) zero p e = omega arith
  within_list (x ∷ xs) (suc i) p e = let more = within_list xs i p e in omega (arith, more)

  -- entries that are found by the files are those of posts of the list
  pub entries_are : (xs : List Numbered) (es : List Entry) → AllByRecursion (IsOne posts) xs → AllZip (IsEntryByFiles dir) (numbers xs) es → es ≡ map entry xs
  entries_are [] [] ones all = refl
  entries_are [] (e ∷ es) ones all = absurd all
  entries_are (x ∷ xs) [] ones all = absurd all
  entries_are (x ∷ xs) (e ∷ es) ones all = ap₂ (λ (a : Entry) (rest : List Entry). a ∷ rest) (own x e ones.0 all.0) (entries_are xs es ones.1 all.1)
    where
      own : (x : Numbered) (e : Entry) → IsOne posts x → IsEntryByFiles dir x.0 e → e ≡ entry x
      own x e one found =
          let number = one.1 in
          let less = within_list posts one.0 x.1 one.2 in
          let there = entry_is dir posts is x.0 e (omega (arith, number)) (omega (arith, number, less)) found in
          let get : post_at posts x.0 ≡ Some x.1 = ap (post_at posts) number ∙ one.2 in
          there.2 ∙ ap (λ (p : Post). entry (x.0, p)) (one_some there.0 x.1 (sym there.1 ∙ get))

  -- the range that the files give is the range of the list
  pub range_is : (a b : ℕ) (answer : List ℕ) → IsRangeByFiles dir a b answer → answer ≡ numbers (cut (in_range a b posts))
  range_is a b answer by =
      let same = counted_is dir posts is by.count by.counted in
      let row = first_is a b by.count posts same in
      let ones = taken_all (IsOne posts) 100 (in_range a b posts) (filtered_ones posts (λ (e : Numbered). nat_le a e.0 && nat_le e.0 b) 0 posts (λ j. let e : 0 + j ≡ j = omega arith in ap (slice_get posts) e)) in
      let entries = entries_are (take 100 (in_range a b posts)) by.entries ones (subst (λ (ns : List ℕ). AllZip (IsEntryByFiles dir) ns by.entries) row by.each) in
      by.cut ∙ ap (λ (es : List Entry). map (λ (e : Entry). e.number) (one_or_within (λ (e : Entry). e.size) 100 4_194_304 es)) entries ∙ cut_entries (in_range a b posts)

  pub no_bad_range : (a b : ℕ) (name : Name) → ¬ IsBadForRange dir a b name
  no_bad_range a b name (inl (named, inl none)) = no_bad_count dir posts is none
  no_bad_range a b name (inl (named, inr (m, low, high, lacks))) =
      let within = lacks.high in
      let same = counted_is dir posts is lacks.count lacks.counted in
      no_missing dir posts is m lacks.low (omega (arith, within, same)) (lacks.entries, lacks.index, lacks.lacks)
  no_bad_range a b name (inr (g, less, named, none)) = no_bad_index dir posts is g less none

-- what was looked up is the range that the files give
pub range_by_files : (dir : Dir) (a b count : ℕ) (row ss answer : List ℕ) → IsNumberFile (dir number_name) count → row ≡ first_numbers a b count → AreSizes dir row ss → answer ≡ take (length (one_or_within (λ (s : ℕ). s) 100 4_194_304 ss)) row
    → IsRangeByFiles dir a b answer
range_by_files dir a b count row ss answer counted is sizes front =
    let es = sized_entries dir row ss sizes in
    record {
      count = count;
      counted = counted;
      entries = es.0;
      each = subst (λ (ns : List ℕ). AllZip (IsEntryByFiles dir) ns es.0) is es.1;
      cut = front ∙ cut_sizes es.0 ss row es.2 es.3;
    }

pub range_bad : (dir : Dir) (a b count : ℕ) (row : List ℕ) (name : Name) → IsNumberFile (dir number_name) count → row ≡ first_numbers a b count → IsBadForRow dir number_name row name → IsBadForRange dir a b name
range_bad dir a b count row name counted is (inr bad) = inr bad
range_bad dir a b count row name counted is (inl (named, (m, among, lost))) =
    let here = among_range (max a 1) (min 100 (min b count + 1 - max a 1)) m (subst (λ (ns : List ℕ). IsAmong ns m) is among) in
    let low = here.0 in
    let high = here.1 in
    inl (named, inr (m, omega (arith, low), omega (arith, low, high), record { count = count; counted = counted; low = omega (arith, low); high = omega (arith, low, high); entries = lost.0; index = lost.1; lacks = lost.2 }))

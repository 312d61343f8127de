-- How a thread is looked up: the files it is read from, and what it is if they stand for an archive.
use Rattle.std.proofs.Common.{◌≡◌, ◌<◌, ◌≤◌, ◌+◌, ◌/◌, ℕ, zero, suc, Bool, true, false, ◌==◌, ◌||◌, List, [], ◌∷◌, length, take, slice_get, Option, Some, None, option_map, refl, sym, ap, ◌∙◌, subst, arith, ◌⊎◌, inl, inr}
use Rattle.std.specs.Prelude.{unwrap_or}
use Rattle.std.specs.List.{AllByRecursion, AllZip, IsAmong, list_any}
use Rattle.std.specs.Str.{bytes_eq}
use Rattle.std.proofs.lemmas.Bool.{eq-eqb, eqb-true, false≢true, or_left, or_right}
use Rattle.std.proofs.lemmas.Nat.{div_below}
use Rattle.ml_base.specs.Bytes.{Text}
use Rattle.ml_base.specs.Cuts.{one_or_within}
use Rattle.ml_base.specs.Dir.{Dir}
use Rattle.ml_base.specs.Sorted.{byte_cmp, entry_of}
use Rattle.ml_base.specs.declared.names.Name.{Name}
use Rattle.ml_base.proofs.SortedLaws.{found_is}
use Rattle.ml_rows.proofs.RowLaws.{one_some, none_some}
use Rattle.ml_filing.specs.Answers.{AreSizes, HasNoEntry, IsBadForEntry, IsBadForKnown, IsBadForRow, IsBadForThread, IsBadThreads, IsEntryByFiles, IsKeyByFiles, IsPostName, IsRowByFiles, IsRowName, IsThreadName, IsWholeByFiles, LacksThread}
use Rattle.ml_filing.specs.Archive.{IsIndexFile, IsNumberFile, index_name, number_name}
use Rattle.ml_filing.specs.Posts.{Numbered, numbers, of_key, key_of, in_thread, as_post, cut}
use Rattle.ml_filing.specs.Reading.{index_in}
use Rattle.ml_filing.specs.Subjects.{subject_key}
use Rattle.ml_filing.specs.Threads.{Thread, IsArchive, IsThread, IsThreadByFiles, IsThreadFile, entry_at, numbers_under, whole_thread, thread_name, thread_place, thread_of_post}
use Rattle.ml_filing.specs.declared.posts.Entry.{Entry}
use Rattle.ml_filing.specs.declared.posts.Post.{Post}
use Rattle.ml_filing.proofs.ByFiles.{IsOne, filtered_ones, threads_there}
use Rattle.ml_filing.proofs.Exact.{at_most, index_one, index_written, threads_one}
use Rattle.ml_filing.proofs.Looking.{entry_is, no_bad_index, no_missing, post_none}
use Rattle.ml_filing.proofs.Ranged.{cut_sizes, sized_entries}

place_below : (k : Text) → thread_place k < 256
place_below k = omega arith

group_below : (n : ℕ) → n ≤ 99_999_999 → n / 100 < 1_000_000
group_below n few = div_below n 100 1_000_000 (omega arith) (omega (arith, few))

pub any_among : (n : ℕ) (ns : List ℕ) → list_any (λ m. m == n) ns ≡ true → IsAmong ns n
any_among n [] e = absurd (false≢true e)
any_among n (m ∷ ms) e = go (m == n) refl e (any_among n ms)
  where
    go : (t : Bool) → (m == n) ≡ t → (t || list_any (λ m. m == n) ms) ≡ true → (list_any (λ m. m == n) ms ≡ true → IsAmong ms n) → IsAmong (m ∷ ms) n
    go true same e later = (0, (omega arith, sym (eqb-true m n same)))
    go false other e later = let more = later e in (suc more.0, (let less = more.1.0 in omega (arith, less), more.1.1))

pub among_any : (n : ℕ) (ns : List ℕ) → IsAmong ns n → list_any (λ m. m == n) ns ≡ true
among_any n [] among = absurd (let less = among.1.0 in omega (arith, less))
among_any n (m ∷ ms) (zero, is) = or_left (m == n) _ (eq-eqb m n (sym is.1))
among_any n (m ∷ ms) (suc i, is) = let less = is.0 in or_right (m == n) _ (among_any n ms (i, (omega (arith, less), is.1)))

pub among_taken : (k m : ℕ) (ns : List ℕ) → IsAmong (take k ns) m → IsAmong ns m
among_taken zero m ns among = absurd (let less = among.1.0 in omega (arith, less))
among_taken (suc k) m [] among = absurd (let less = among.1.0 in omega (arith, less))
among_taken (suc k) m (n ∷ ns) (zero, is) = (0, (omega arith, is.1))
among_taken (suc k) m (n ∷ ns) (suc i, is) =
    let less = is.0 in
    let more = among_taken k m ns (i, (omega (arith, less), is.1)) in
    (suc more.0, (let below = more.1.0 in omega (arith, below), more.1.1))

-- the numbers of threads are those that posts can have
pub under_few : (f : ℕ) (k : Text) (ts : List Thread) → AllByRecursion (IsThread f) ts → AllByRecursion (λ m. m ≤ 99_999_999) (numbers_under k ts)
under_few f k ts all = go (entry_of byte_cmp (λ (t : Thread). t.key) k ts) refl
  where
    go : (o : Option Thread) → entry_of byte_cmp (λ (t : Thread). t.key) k ts ≡ o → AllByRecursion (λ m. m ≤ 99_999_999) (unwrap_or (option_map (λ (t : Thread). t.numbers) o) [])
    go None found = tt
    go (Some t) found = at_most f t (found_is byte_cmp (λ (t : Thread). t.key) (IsThread f) k t ts all found).0

pub take_few : (k : ℕ) (ns : List ℕ) → AllByRecursion (λ m. m ≤ 99_999_999) ns → AllByRecursion (λ m. m ≤ 99_999_999) (take k ns)
take_few zero ns all = tt
take_few (suc k) [] all = tt
take_few (suc k) (n ∷ ns) all = (all.0, take_few k ns all.1)

-- the files of one post are among those that a thread is looked up in
pub key_named : (n : ℕ) (name : Name) → n ≤ 99_999_999 → IsPostName n name → IsThreadName name
key_named n name few (inl is) = inl is
key_named n name few (inr is) = inr (inl (n / 100, group_below n few, is.1))

pub key_bad : (dir : Dir) (prefix : Text) (n : ℕ) (name : Name) → n ≤ 99_999_999 → IsBadForEntry dir n name → IsBadForKnown dir prefix n name
key_bad dir prefix n name few (inl bad) = inl bad
key_bad dir prefix n name few (inr bad) = inr (inl (n / 100, group_below n few, bad.0, bad.1))

pub row_named : (k : Text) (name : Name) → name ≡ thread_name (thread_place k) → IsThreadName name
row_named k name is = inr (inr (thread_place k, place_below k, is))

pub row_bad : (dir : Dir) (prefix k : Text) (n : ℕ) (name : Name) → IsKeyByFiles dir prefix n k → name ≡ thread_name (thread_place k) → IsBadThreads dir k n → IsBadForKnown dir prefix n name
row_bad dir prefix k n name key named (inl none) = inr (inr (inl (thread_place k, place_below k, named, none)))
row_bad dir prefix k n name (e, found, is) named (inr (threads, file, lacks)) = inr (inr (inr (record {
  entry = e;
  found = found;
  named = named ∙ ap (λ (k : Text). thread_name (thread_place k)) is;
  threads = threads;
  file = subst (λ (k : Text). IsThreadFile (thread_place k) (dir (thread_name (thread_place k))) threads) is file;
  lacks = inl (subst (λ (k : Text). ¬ IsAmong (numbers_under k threads) n) is lacks);
})))

pub sizes_named : (k : Text) (missing name : Name) → missing ≡ thread_name (thread_place k) → IsRowName missing name → IsThreadName name
sizes_named k missing name is (inl named) = row_named k name (named ∙ is)
sizes_named k missing name is (inr (g, less, named)) = inr (inl (g, less, named))

pub sizes_bad : (dir : Dir) (prefix k : Text) (n : ℕ) (row : List ℕ) (missing name : Name) → missing ≡ thread_name (thread_place k) → IsKeyByFiles dir prefix n k → IsRowByFiles dir k n row → IsBadForRow dir missing row name
    → IsBadForKnown dir prefix n name
sizes_bad dir prefix k n row missing name is key found (inr (g, less, named, none)) = inr (inl (g, less, named, none))
sizes_bad dir prefix k n row missing name is (e, entry, key_is) (threads, file, among, row_is) (inl (named, (m, in_row, lost))) = inr (inr (inr (record {
  entry = e;
  found = entry;
  named = named ∙ is ∙ ap (λ (k : Text). thread_name (thread_place k)) key_is;
  threads = threads;
  file = subst (λ (k : Text). IsThreadFile (thread_place k) (dir (thread_name (thread_place k))) threads) key_is file;
  lacks = inr (m, subst (λ (k : Text). IsAmong (numbers_under k threads) m) key_is (among_taken 100 m (numbers_under k threads) (subst (λ (ns : List ℕ). IsAmong ns m) row_is in_row)), lost);
})))

-- the entries of every group, as its index has them
abbrev indexes : Dir → ℕ → List Entry
indexes dir g = unwrap_or (index_in g (unwrap_or (dir (index_name g)) [])) []

index_is : (dir : Dir) (g : ℕ) (es : List Entry) → IsIndexFile g (dir (index_name g)) es → es ≡ indexes dir g
index_is dir g es file = sym (ap (λ (o : Option (List Entry)). unwrap_or o []) (index_written g (dir (index_name g)) es file))

abbrev IsFound : Dir → ℕ → Entry → Type 0
IsFound dir m e = IsIndexFile (m / 100) (dir (index_name (m / 100))) (indexes dir (m / 100)) × (entry_at m (indexes dir (m / 100)) ≡ Some e)

found : (dir : Dir) (m : ℕ) (e : Entry) → IsEntryByFiles dir m e → IsFound dir m e
found dir m e (es, file, at) = let is = index_is dir (m / 100) es file in (subst (λ (x : List Entry). IsIndexFile (m / 100) (dir (index_name (m / 100))) x) is file, sym (ap (entry_at m) is) ∙ at)

all_found : (dir : Dir) (ns : List ℕ) (es : List Entry) → AllZip (IsEntryByFiles dir) ns es → AllZip (IsFound dir) ns es
all_found dir [] [] all = tt
all_found dir [] (e ∷ es) all = absurd all
all_found dir (n ∷ ns) [] all = absurd all
all_found dir (n ∷ ns) (e ∷ es) all = (found dir n e all.0, all_found dir ns es all.1)

pub thread_by_files : (dir : Dir) (prefix k : Text) (n : ℕ) (row ss answer : List ℕ) → IsKeyByFiles dir prefix n k → IsRowByFiles dir k n row → AreSizes dir row ss
    → answer ≡ take (length (one_or_within (λ (s : ℕ). s) 100 4_194_304 ss)) row → IsThreadByFiles dir prefix n answer
thread_by_files dir prefix k n row ss answer (e, entry, key_is) (threads, file, among, row_is) sizes front =
    let own = found dir n e entry in
    let es = sized_entries dir row ss sizes in
    record {
      indexes = indexes dir;
      index = own.0;
      entry = e;
      found = own.1;
      threads = threads;
      file = subst (λ (k : Text). IsThreadFile (thread_place k) (dir (thread_name (thread_place k))) threads) key_is file;
      named = subst (λ (k : Text). IsAmong (numbers_under k threads) n) key_is among;
      entries = es.0;
      each = subst (λ (ns : List ℕ). AllZip (IsFound dir) ns es.0) (row_is ∙ ap (λ (k : Text). take 100 (numbers_under k threads)) key_is) (all_found dir row es.0 es.1);
      cut = front ∙ cut_sizes es.0 ss row es.2 es.3;
    }

pub known_bad : (dir : Dir) (prefix : Text) (n count : ℕ) (name : Name) → IsNumberFile (dir number_name) count → 1 ≤ n → n ≤ count → IsBadForKnown dir prefix n name → IsBadForThread dir prefix n name
known_bad dir prefix n count name counted low high (inl (named, (es, index, lacks))) = inl (named, inr (record { count = count; counted = counted; low = low; high = high; entries = es; index = index; lacks = lacks }))
known_bad dir prefix n count name counted low high (inr bad) = inr bad

ones_among : (posts : List Post) (xs : List Numbered) (m : ℕ) → AllByRecursion (IsOne posts) xs → IsAmong (numbers xs) m → (i : ℕ) × (m ≡ suc i) × (i < length posts)
ones_among posts [] m all among = absurd (let less = among.1.0 in omega (arith, less))
ones_among posts (x ∷ xs) m all (zero, is) = let one = all.0 in (one.0, is.1 ∙ one.1, inside posts one.0 x.1 one.2)
  where
    inside : (ps : List Post) (i : ℕ) (p : Post) → slice_get ps i ≡ Some p → i < length ps
    inside [] i p e = absurd (none_some p e)
    inside (y ∷ ys) zero p e = omega arith
    inside (y ∷ ys) (suc i) p e = let more = inside ys i p e in omega (arith, more)
ones_among posts (x ∷ xs) m all (suc i, is) = let less = is.0 in ones_among posts xs m all.1 (i, (omega (arith, less), is.1))

module _ (dir : Dir) (prefix : Text) (posts : List Post) (is : IsArchive dir prefix posts) (n : ℕ) (low : 1 ≤ n) (high : n ≤ length posts) where
  lacks_none : (name : Name) → ¬ LacksThread dir prefix n name
  lacks_none name bad =
      let there = threads_there dir prefix posts n is low high in
      let same_index = index_one (n / 100) (dir (index_name (n / 100))) (bad.found).0 (there.indexes (n / 100)) (bad.found).1 there.index in
      let same_entry : bad.entry ≡ there.entry = one_some bad.entry there.entry (sym (bad.found).2 ∙ ap (entry_at n) same_index ∙ there.found) in
      let key = ap (λ (e : Entry). subject_key prefix e.subject) same_entry in
      let k = subject_key prefix (bad.entry).subject in
      let mine = (is.threaded).files (thread_place k) (place_below k) in
      let own = threads_one (thread_place k) (dir (thread_name (thread_place k))) bad.threads ((is.threaded).threads (thread_place k)) bad.file mine in
      let under : numbers_under k bad.threads ≡ numbers (of_key prefix k posts) = ap (numbers_under k) own ∙ (is.threaded).by_key k in
      let other = threads_one (thread_place k) (dir (thread_name (thread_place k))) bad.threads there.threads bad.file (subst (λ (a : Text). IsThreadFile (thread_place a) (dir (thread_name (thread_place a))) there.threads) (sym key) there.file) in
      let named : IsAmong (numbers_under k bad.threads) n = subst (λ (ns : List ℕ). IsAmong ns n) (sym (ap (numbers_under k) other ∙ ap (λ (a : Text). numbers_under a there.threads) key)) there.named in
      go k under named bad.lacks
    where
      go : (k : Text) → numbers_under k bad.threads ≡ numbers (of_key prefix k posts) → IsAmong (numbers_under k bad.threads) n
          → ((¬ IsAmong (numbers_under k bad.threads) n) ⊎ ((m : ℕ) × IsAmong (numbers_under k bad.threads) m × HasNoEntry dir m)) → ⊥
      go k under named (inl none) = none named
      go k under named (inr (m, among, lost)) =
          let ones = filtered_ones posts (λ (e : Numbered). bytes_eq (key_of prefix e.1) k) 0 posts (λ j. let e : 0 + j ≡ j = omega arith in ap (slice_get posts) e) in
          let one = ones_among posts (of_key prefix k posts) m ones (subst (λ (ns : List ℕ). IsAmong ns m) under among) in
          let number = one.1 in
          let less = one.2 in
          no_missing dir posts is.filed m (omega (arith, number)) (omega (arith, number, less)) lost

  pub no_bad_known : (name : Name) → ¬ IsBadForKnown dir prefix n name
  no_bad_known name (inl bad) = no_missing dir posts is.filed n low high bad.1
  no_bad_known name (inr (inl (g, less, named, none))) = no_bad_index dir posts is.filed g less none
  no_bad_known name (inr (inr (inl (f, less, named, none)))) = none ((is.threaded).threads f) ((is.threaded).files f less)
  no_bad_known name (inr (inr (inr bad))) = lacks_none name bad

-- a post that isn't there has no thread
pub thread_none : (dir : Dir) (prefix : Text) (posts : List Post) (n count : ℕ) → IsArchive dir prefix posts → IsNumberFile (dir number_name) count → ((n ≡ 0) ⊎ (count < n)) → [] ≡ numbers (cut (in_thread prefix n posts))
thread_none dir prefix posts n count is counted out = ap (λ (o : Option Post). numbers (cut (as_post prefix posts o))) (post_none dir posts is.filed n count counted out)

-- the whole thread that the files give is the same as if all posts were filtered
pub whole_is : (dir : Dir) (prefix : Text) (posts : List Post) (n : ℕ) (t : Thread) → IsArchive dir prefix posts → 1 ≤ n → n ≤ length posts → IsWholeByFiles dir prefix n t → Some t ≡ whole_thread prefix n posts
whole_is dir prefix posts n t is low high ((e, found, key_is), (threads, file, among, numbers_are)) =
    let mine = (is.threaded).files (thread_place t.key) (place_below t.key) in
    let own = threads_one (thread_place t.key) (dir (thread_name (thread_place t.key))) threads ((is.threaded).threads (thread_place t.key)) file mine in
    let under : t.numbers ≡ numbers (of_key prefix t.key posts) = numbers_are ∙ ap (numbers_under t.key) own ∙ (is.threaded).by_key t.key in
    let known = entry_is dir posts is.filed n e low high found in
    let key : t.key ≡ key_of prefix known.0 = key_is ∙ ap (λ (x : Entry). subject_key prefix x.subject) known.2 in
    let same : t ≡ thread_of_post prefix posts known.0 = λ i. record { key = key i; numbers = (under ∙ ap (λ (k : Text). numbers (of_key prefix k posts)) key) i } in
    ap Some same ∙ sym (ap (option_map (thread_of_post prefix posts)) known.1)

pub whole_none : (dir : Dir) (prefix : Text) (posts : List Post) (n count : ℕ) → IsArchive dir prefix posts → IsNumberFile (dir number_name) count → ((n ≡ 0) ⊎ (count < n)) → None ≡ whole_thread prefix n posts
whole_none dir prefix posts n count is counted out = ap (option_map (thread_of_post prefix posts)) (post_none dir posts is.filed n count counted out)

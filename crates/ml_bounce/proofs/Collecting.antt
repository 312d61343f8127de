-- What all files of a ledger have together: its due entries, and the ledger itself.
use Rattle.std.proofs.Common.{◌≡◌, ◌<◌, ◌+◌, ℕ, Bool, true, false, cond, [], ◌∷◌, ◌++◌, Option, Some, None, refl, sym, ap, ◌∙◌, subst, arith}
use Rattle.std.specs.Prelude.{IsTrue}
use Rattle.std.specs.List.{AllByRecursion, filter, list_all}
use Rattle.std.specs.List.Sorted.{IsPermutation, IsSortedByKey}
use Rattle.std.specs.Ordering.{eq_by_cmp, is_lt}
use Rattle.std.proofs.lemmas.Bool.{and_parts, and_from, false≢true}
use Rattle.ml_base.specs.Bytes.{Text}
use Rattle.ml_base.specs.Dir.{Dir}
use Rattle.ml_base.specs.PartErrors.{OnDamaged}
use Rattle.ml_base.specs.Sorted.{byte_cmp}
use Rattle.ml_base.specs.declared.names.Set.{Set}
use Rattle.ml_base.specs.declared.names.Set.TheVariants as sets
use Rattle.ml_base.specs.declared.part_error.PartError.{PartError}
use Rattle.ml_base.proofs.DamagedNames.{on_damaged}
use Rattle.ml_base.proofs.SortedLaws.{bytes_total, same_bytes, same_lists}
use Rattle.ml_keyed.specs.Buckets.{gathered, IsOrdered}
use Rattle.ml_keyed.proofs.Keys.{bucket_below, tied, all_above_none}
use Rattle.ml_keyed.proofs.Union.{merged, sorted_joined}
use Rattle.ml_keyed.proofs.Files.{Reads, reads_none, reads_more, union_of}
use Rattle.ml_bounce.specs.Answers.{AreFiles, IsBadFile, has_ledger, ledger_kind}
use Rattle.ml_bounce.specs.Changes.{due_entries, is_due}
use Rattle.ml_bounce.specs.Files.{IsLedger, IsLedgerFile, IsEntry, ledger_name, bucket_of}
use Rattle.ml_bounce.specs.Ledger.{Ledger, LedgerEntry, entry_key, find_entry}
use Rattle.ml_bounce.proofs.Changed.{found_there}
use Rattle.ml_bounce.proofs.Ledgers.{no_bad_file}

-- the first files have some entries
abbrev pub Files : Dir → Set → ℕ → Type 0
Files dir set n = (buckets : ℕ → Ledger) × AreFiles dir set n buckets

pub files_none : (dir : Dir) (set : Set) → Files dir set 0
files_none dir set = (λ i. [], λ i less. absurd (omega (arith, less)))

pub files_more : (dir : Dir) (set : Set) (n : ℕ) (es : Ledger) → Files dir set n → IsLedgerFile n (dir (ledger_name (ledger_kind set) n)) es → Files dir set (n + 1)
files_more dir set n es before is =
    let more = reads_more IsLedgerFile [] (λ done bucket. done ++ bucket) (λ bucket. bucket) (λ i. dir (ledger_name (ledger_kind set) i)) n (gathered before.0 n) es (before.0, before.1, refl) is in
    (more.0, more.1)

-- entries that a test chose from the first files
module _ (test : LedgerEntry → Bool) where
  abbrev pub Gathers : Dir → Set → ℕ → Ledger → Type 0
  Gathers dir set n found = Reads IsLedgerFile [] (λ done bucket. done ++ bucket) (filter test) (λ i. dir (ledger_name (ledger_kind set) i)) n found

  pub gathers_none : (dir : Dir) (set : Set) → Gathers dir set 0 []
  gathers_none dir set = reads_none IsLedgerFile [] (λ done bucket. done ++ bucket) (filter test) (λ i. dir (ledger_name (ledger_kind set) i))

  pub gathers_more : (dir : Dir) (set : Set) (n : ℕ) (found more es : Ledger) → Gathers dir set n found → IsLedgerFile n (dir (ledger_name (ledger_kind set) n)) es → more ≡ found ++ filter test es → Gathers dir set (n + 1) more
  gathers_more dir set n found more es before is all =
      subst (λ (l : Ledger). Gathers dir set (n + 1) l) (sym all) (reads_more IsLedgerFile [] (λ done bucket. done ++ bucket) (filter test) (λ i. dir (ledger_name (ledger_kind set) i)) n found es before is)

  -- what holds of all entries of a list holds of those that are chosen
  each_filter : (P : LedgerEntry → Type 0) (es : Ledger) → AllByRecursion P es → AllByRecursion P (filter test es)
  each_filter P [] all = tt
  each_filter P (e ∷ es) all = go (test e) (each_filter P es all.1)
    where
      go : (t : Bool) → AllByRecursion P (filter test es) → AllByRecursion P (cond t (e ∷ filter test es) (filter test es))
      go true more = (all.0, more)
      go false more = more

  all_filter : (p : LedgerEntry → Bool) (es : Ledger) → list_all p es ≡ true → list_all p (filter test es) ≡ true
  all_filter p [] all = refl
  all_filter p (e ∷ es) all = let parts = and_parts (p e) (list_all p es) all in go (test e) parts.0 (all_filter p es parts.1)
    where
      go : (t : Bool) → p e ≡ true → list_all p (filter test es) ≡ true → list_all p (cond t (e ∷ filter test es) (filter test es)) ≡ true
      go true here more = and_from _ _ here more
      go false here more = more

  sorted_filter : (es : Ledger) → IsOrdered entry_key es → IsOrdered entry_key (filter test es)
  sorted_filter [] is = refl
  sorted_filter (e ∷ es) is = let parts = and_parts (list_all (λ (f : LedgerEntry). is_lt (byte_cmp e.key f.key)) es) _ is in go (test e) (all_filter (λ (f : LedgerEntry). is_lt (byte_cmp e.key f.key)) es parts.0) (sorted_filter es parts.1)
    where
      go : (t : Bool) → list_all (λ (f : LedgerEntry). is_lt (byte_cmp e.key f.key)) (filter test es) ≡ true → IsOrdered entry_key (filter test es) → IsOrdered entry_key (cond t (e ∷ filter test es) (filter test es))
      go true here more = and_from _ _ here more
      go false here more = more

  -- an entry, if it is chosen
  abbrev when_chosen : Option LedgerEntry → Option LedgerEntry
  when_chosen None = None
  when_chosen (Some e) = cond (test e) (Some e) None

  found_filter : (k : Text) (es : Ledger) → IsOrdered entry_key es → find_entry k (filter test es) ≡ when_chosen (find_entry k es)
  found_filter k [] is = refl
  found_filter k (e ∷ es) is = let parts = and_parts (list_all (λ (f : LedgerEntry). is_lt (byte_cmp e.key f.key)) es) _ is in go (eq_by_cmp byte_cmp k e.key) refl (test e) refl parts.0 (found_filter k es parts.1)
    where
      go : (s : Bool) → eq_by_cmp byte_cmp k e.key ≡ s → (t : Bool) → test e ≡ t → list_all (λ (f : LedgerEntry). is_lt (byte_cmp e.key f.key)) es ≡ true → find_entry k (filter test es) ≡ when_chosen (find_entry k es)
          → find_entry k (cond (test e) (e ∷ filter test es) (filter test es)) ≡ when_chosen (cond (eq_by_cmp byte_cmp k e.key) (Some e) (find_entry k es))
      go true own true here above more =
          ap (λ t. find_entry k (cond t (e ∷ filter test es) (filter test es))) here ∙ ap (λ s. cond s (Some e) (find_entry k (filter test es))) own
          ∙ sym (ap (λ t. cond t (Some e) None) here) ∙ sym (ap (λ s. when_chosen (cond s (Some e) (find_entry k es))) own)
      go true own false here above more =
          ap (λ t. find_entry k (cond t (e ∷ filter test es) (filter test es))) here
          ∙ ap (λ (a : Text). find_entry a (filter test es)) (tied k e.key own) ∙ all_above_none entry_key e.key (filter test es) (all_filter (λ (f : LedgerEntry). is_lt (byte_cmp e.key f.key)) es above)
          ∙ sym (ap (λ t. cond t (Some e) None) here) ∙ sym (ap (λ s. when_chosen (cond s (Some e) (find_entry k es))) own)
      go false own true here above more =
          ap (λ t. find_entry k (cond t (e ∷ filter test es) (filter test es))) here ∙ ap (λ s. cond s (Some e) (find_entry k (filter test es))) own ∙ more
          ∙ sym (ap (λ s. when_chosen (cond s (Some e) (find_entry k es))) own)
      go false own false here above more =
          ap (λ t. find_entry k (cond t (e ∷ filter test es) (filter test es))) here ∙ more ∙ sym (ap (λ s. when_chosen (cond s (Some e) (find_entry k es))) own)

hashed_each : (n : ℕ) (es : Ledger) → AllByRecursion (IsEntry n) es → AllByRecursion (λ e. bucket_of e.key ≡ n) es
hashed_each n [] all = tt
hashed_each n (e ∷ es) all =
    let first : IsEntry n e = all.0 in
    (first.hashed, hashed_each n es all.1)

-- if all files are in their grammar, they stand for a ledger
pub ledger_of_files : (dir : Dir) (set : Set) (buckets : ℕ → Ledger) → AreFiles dir set 53 buckets → (ledger : Ledger) × IsLedger dir (ledger_kind set) ledger
ledger_of_files dir set buckets files =
    (merged entry_key buckets 53, union_of entry_key IsLedgerFile (λ n file es is. hashed_each n es is.each) (λ n file es is. is.sorted) (λ n. dir (ledger_name (ledger_kind set) n)) buckets files)

-- the due entries of all files, put in order of key, are those of the ledger
pub due_sorted : (dir : Dir) (set : Set) (now : ℕ) (found sorted ledger : Ledger) → Gathers (is_due now) dir set 53 found → IsPermutation found sorted → IsSortedByKey entry_key byte_cmp sorted → IsLedger dir (ledger_kind set) ledger
    → sorted ≡ due_entries now ledger
due_sorted dir set now found sorted ledger all moved up is =
    let test = is_due now in
    let hashed = λ (i : ℕ) (less : i < 53). each_filter test (λ e. bucket_of e.key ≡ i) (all.0 i) (hashed_each i (all.0 i) (all.1 i less).each) in
    let ordered = λ (i : ℕ) (less : i < 53). sorted_filter test (all.0 i) (all.1 i less).sorted in
    let by_key = sorted_joined entry_key (λ i. filter test (all.0 i)) 53 hashed ordered sorted (subst (λ (l : Ledger). IsPermutation l sorted) all.2 moved) up in
    same_lists byte_cmp entry_key same_bytes bytes_total sorted (filter test ledger) by_key.0 (sorted_filter test ledger is.sorted)
    (λ k.
    by_key.1 k (bucket_below k) ∙ found_filter test k (all.0 (bucket_of k)) (all.1 (bucket_of k) (bucket_below k)).sorted
    ∙ ap (when_chosen test) (sym (found_there dir (ledger_kind set) ledger (all.0 (bucket_of k)) k is (all.1 (bucket_of k) (bucket_below k)))) ∙ sym (found_filter test k ledger is.sorted))

abbrev pub SomeLedger : Dir → Set → Type 0
SomeLedger dir set = (ledger : Ledger) × IsLedger dir (ledger_kind set) ledger

-- if the files of every set with a ledger stand for one, none of them is outside its grammar
pub sound_sets : (dir : Dir) → ((set : Set) → IsTrue (has_ledger set) → SomeLedger dir set) → (e : PartError) → OnDamaged e (λ name. (set : Set) × IsTrue (has_ledger set) × IsBadFile dir set name) → OnDamaged e (λ _. ⊥)
sound_sets dir all e bad =
    on_damaged e (λ name. (set : Set) × IsTrue (has_ledger set) × IsBadFile dir set name) (λ _. ⊥) (λ name b. no_bad_file dir b.0 (b.2).0 (all b.0 b.1).0 (b.2).1 (all b.0 b.1).1 (b.2).3) bad

-- what holds of the sets list and digest holds of every set with a ledger
pub each_ledger : (P : Set → Type 0) → P sets.List → P sets.Digest → (set : Set) → IsTrue (has_ledger set) → P set
each_ledger P a b sets.List has = a
each_ledger P a b sets.Digest has = b
each_ledger P a b sets.Allow has = absurd (false≢true has)
each_ledger P a b sets.Deny has = absurd (false≢true has)
each_ledger P a b sets.Moderators has = absurd (false≢true has)

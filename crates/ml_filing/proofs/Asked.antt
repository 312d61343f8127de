-- Which files the calls about numbered posts read, and that these are files of the archive.
use Rattle.std.proofs.Common.{◌≡◌, ◌<◌, ◌≤◌, ◌+◌, ◌-◌, ◌/◌, min, max, ℕ, zero, suc, List, [], ◌∷◌, take, subst, sym, ◌∙◌, arith, inl, inr}
use Rattle.std.specs.List.{AllByRecursion, IsAmong, range_with_len}
use Rattle.std.proofs.lemmas.Nat.{div_below}
use Rattle.ml_base.specs.Bytes.{Text}
use Rattle.ml_base.specs.Dir.{Dir}
use Rattle.ml_base.specs.declared.names.Name.{Name}
use Rattle.ml_filing.specs.Answers.{IsBadForEntry, IsBadForKnown, IsBadForRow, IsBadThreads, IsKeyByFiles, IsPostName, IsRowByFiles, IsThreadName, first_numbers}
use Rattle.ml_filing.specs.Archive.{number_name}
use Rattle.ml_filing.specs.Reads.{IsOfRange, IsOfRow, IsOfThread, IsWithin}
use Rattle.ml_filing.specs.Threads.{thread_name, thread_place}
use Rattle.ml_filing.proofs.Threaded.{key_bad, row_bad, row_named, sizes_bad}

-- what holds of all numbers of a row holds of each number among them
pub each_among : (P : ℕ → Type 0) (ns : List ℕ) (m : ℕ) → AllByRecursion P ns → IsAmong ns m → P m
each_among P [] m all among = absurd (let less = among.1.0 in omega (arith, less))
each_among P (n ∷ ns) m all (zero, is) = subst P (sym is.1) all.0
each_among P (n ∷ ns) m all (suc i, is) = let less = is.0 in each_among P ns m all.1 (i, (omega (arith, less), is.1))

pub none_among : (ns : List ℕ) (m : ℕ) → ns ≡ [] → ¬ IsAmong ns m
none_among ns m none among = let there = subst (λ (t : List ℕ). IsAmong t m) none among in let less = there.1.0 in omega (arith, less)

pub front_all : (P : ℕ → Type 0) (k : ℕ) (ns : List ℕ) → AllByRecursion P ns → AllByRecursion P (take k ns)
front_all P zero ns all = tt
front_all P (suc k) [] all = tt
front_all P (suc k) (n ∷ ns) all = (all.0, front_all P k ns all.1)

-- the numbers of a range are within it
range_within : (a b k n : ℕ) → a ≤ k → (0 < n → (k + n ≤ b + 1) × (k + n ≤ 100_000_000)) → AllByRecursion (IsWithin a b) (range_with_len k n)
range_within a b k zero low high = tt
range_within a b k (suc n) low high =
    let here = high (omega arith) in
    let last = here.0 in
    let most = here.1 in
    ((low, omega (arith, last), omega (arith, most)), range_within a b (k + 1) n (omega (arith, low)) (λ some. (omega (arith, last), omega (arith, most))))

pub row_within : (a b count : ℕ) → count ≤ 99_999_999 → AllByRecursion (IsWithin a b) (first_numbers a b count)
row_within a b count few = range_within a b (max a 1) (min 100 (min b count + 1 - max a 1)) (omega arith) (λ some. (omega (arith, some), omega (arith, some, few)))

pub range_named : (a b count : ℕ) (row : List ℕ) (name : Name) → count ≤ 99_999_999 → row ≡ first_numbers a b count → IsOfRow number_name row name → IsOfRange a b name
range_named a b count row name few is (inl e) = inl e
range_named a b count row name few is (inr (m, among, less, e)) =
    let within = each_among (IsWithin a b) row m (subst (λ (ns : List ℕ). AllByRecursion (IsWithin a b) ns) (sym is) (row_within a b count few)) among in
    inr (m, within.0, within.1, within.2, e)

-- the same for a thread
pub row_files : (k : Text) (row : List ℕ) (missing name : Name) → missing ≡ thread_name (thread_place k) → IsOfRow missing row name → IsThreadName name
row_files k row missing name is (inl named) = row_named k name (named ∙ is)
row_files k row missing name is (inr (m, among, few, named)) = inr (inl (m / 100, div_below m 100 1_000_000 (omega arith) (omega (arith, few)), named))

module _ (dir : Dir) (prefix : Text) (n : ℕ) (name : Name) where
  pub key_known : n ≤ 99_999_999 → IsPostName n name → IsBadForEntry dir n name → IsBadForKnown dir prefix n name × IsOfThread dir prefix n name
  key_known few is bad = (key_bad dir prefix n name few bad, inl is)

  pub row_known : (k : Text) → IsKeyByFiles dir prefix n k → name ≡ thread_name (thread_place k) → IsBadThreads dir k n → IsBadForKnown dir prefix n name × IsOfThread dir prefix n name
  row_known k key is bad = (row_bad dir prefix k n name key is bad, inr (inl (k, key, is)))

  pub sizes_known : (k : Text) (row : List ℕ) (missing : Name) → missing ≡ thread_name (thread_place k) → IsKeyByFiles dir prefix n k → IsRowByFiles dir k n row → IsOfRow missing row name → IsBadForRow dir missing row name
      → IsBadForKnown dir prefix n name × IsOfThread dir prefix n name
  sizes_known k row missing is key found own bad = (sizes_bad dir prefix k n row missing name is key found bad, of_row own)
    where
      of_row : IsOfRow missing row name → IsOfThread dir prefix n name
      of_row (inl named) = inr (inl (k, key, named ∙ is))
      of_row (inr (m, among, few, named)) = inr (inr (m, record { key = k; is = key; row = row; found = found; among = among }, few, named))

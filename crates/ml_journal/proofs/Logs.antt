-- How a log is read from its beginning: gate by gate and record by record.
use Rattle.std.proofs.Common.{◌≡◌, ◌≢◌, ◌⊎◌, inl, inr, ◌<◌, ◌≤◌, ℕ, zero, suc, Bool, true, false, cond, List, [], ◌∷◌, ◌++◌, length, Option, Some, None, refl, sym, ◌∙◌, ap, arith, append_assoc, length-append}
use Rattle.std.specs.Prelude.{option_map, ◌==◌, ◌&&◌}
use Rattle.std.specs.List.{AllByRecursion}
use Rattle.std.proofs.lemmas.Bool.{cases_eq}
use Rattle.std.proofs.lemmas.Bool.Decides.{nat_tests}
use Rattle.ml_base.specs.Bytes.{Text}
use Rattle.ml_base.specs.Dir.{with_puts, are_files}
use Rattle.ml_base.specs.Netstrings.{ns}
use Rattle.std.specs.Fmt.{decimal}
use Rattle.ml_base.specs.declared.puts.Put.{Put}
use Rattle.ml_base.specs.Name.{is_file}
use Rattle.ml_base.proofs.Bools.{both}
use Rattle.ml_base.proofs.Laid.{laid_joined}
use Rattle.ml_journal.specs.Records.{record_at, spelled_puts, spelled_record}
use Rattle.ml_journal.specs.Log.{log_puts_within, log_puts, record_and_more, laid_over, IsWritable, open_records, all_puts, HoldsNone, IsBroken, IsSplit}
use Rattle.ml_journal.specs.Rows.{IsRow, IsRecord}
use Rattle.ml_journal.proofs.Records.{record_written, record_found}

-- a last gate holds nothing
pub log_end : (gate : ℕ) → log_puts (gate ∷ []) ≡ Some []
log_end gate = refl

-- nothing after a closed gate is looked at
pub log_closed : (gate b : ℕ) (rest : Text) → gate ≢ 1 → log_puts (gate ∷ b ∷ rest) ≡ Some []
log_closed gate b rest shut = let test : (gate == 1) ≡ false = grind (arith, nat_tests) in ap (λ (t : Bool). cond t (record_and_more (log_puts_within (suc (length rest))) (record_at (b ∷ rest))) (Some [])) test

-- what follows a record is shorter
pub record_shorter : (text : Text) (found : List Put × Text) → record_at text ≡ Some found → length found.1 < length text
record_shorter text found e =
    let is = record_found text found.0 found.1 e in
    omega (arith, ap length is.1, length-append (spelled_record found.0) found.1, some (spelled_puts found.0))
  where
    some : (row : Text) → 0 < length (ns row)
    some row = omega (arith, length-append (decimal (length row) ++ 58 ∷ row) (44 ∷ []))

-- how many records may be looked at doesn't matter
log_enough : (n m : ℕ) (log : Text) → length log ≤ n → length log ≤ m → log_puts_within n log ≡ log_puts_within m log
log_enough zero zero log le le' = refl
log_enough zero (suc m) [] le le' = refl
log_enough zero (suc m) (gate ∷ log) le le' = absurd (omega (arith, le))
log_enough (suc n) zero [] le le' = refl
log_enough (suc n) zero (gate ∷ log) le le' = absurd (omega (arith, le'))
log_enough (suc n) (suc m) [] le le' = refl
log_enough (suc n) (suc m) (gate ∷ []) le le' = refl
log_enough (suc n) (suc m) (gate ∷ b ∷ rest) le le' = ap (λ (more : Option (List Put)). cond (gate == 1) more (Some [])) (go (record_at (b ∷ rest)) refl (log_enough n m))
  where
    go : (found : Option (List Put × Text)) → record_at (b ∷ rest) ≡ found → ((text : Text) → length text ≤ n → length text ≤ m → log_puts_within n text ≡ log_puts_within m text)
        → record_and_more (log_puts_within n) found ≡ record_and_more (log_puts_within m) found
    go None is more = refl
    go (Some found) is more =
        let shorter = record_shorter (b ∷ rest) found is in
        ap (option_map (λ (puts : List Put). found.0 ++ puts)) (more found.1 (omega (arith, shorter, le)) (omega (arith, shorter, le')))

-- an open gate counts, with what follows it
pub log_opened : (b : ℕ) (rest : Text) → log_puts (1 ∷ b ∷ rest) ≡ record_and_more log_puts (record_at (b ∷ rest))
log_opened b rest = go (record_at (b ∷ rest)) refl
  where
    go : (found : Option (List Put × Text)) → record_at (b ∷ rest) ≡ found → record_and_more (log_puts_within (suc (length rest))) found ≡ record_and_more log_puts found
    go None is = refl
    go (Some found) is =
        let shorter = record_shorter (b ∷ rest) found is in
        ap (option_map (λ (puts : List Put). found.0 ++ puts)) (log_enough (suc (length rest)) (length found.1) found.1 (omega (arith, shorter)) (omega arith))

-- an open gate and a record are a row, which makes the change of its puts
pub row_of : (text : Text) (puts : List Put) → IsRecord text puts → 0 < length text → IsRow (1 ∷ text) (λ files. with_puts files puts)
row_of [] puts reads some rest files more = absurd (omega (arith, some))
row_of (b ∷ text) puts reads some rest files more =
    ap (laid_over files) (log_opened b (text ++ rest) ∙ ap (record_and_more log_puts) (reads rest)) ∙ laid (log_puts rest)
  where
    laid : (after : Option (List Put)) → laid_over files (option_map (λ (more : List Put). puts ++ more) after) ≡ laid_over (with_puts files puts) after
    laid None = refl
    laid (Some after) = ap Some (laid_joined files puts after)

-- the puts of a log are of files
files_joined : (first second : List Put) → are_files first ≡ true → are_files second ≡ true → are_files (first ++ second) ≡ true
files_joined [] second one two = two
files_joined (put ∷ first) second one two =
    let parts = both (is_file put.name) (are_files first) one in
    ap (λ (t : Bool). t && are_files (first ++ second)) parts.0 ∙ files_joined first second parts.1 two

log_files_within : (n : ℕ) (log : Text) (puts : List Put) → log_puts_within n log ≡ Some puts → are_files puts ≡ true
log_files_within zero [] puts e = let same : [] ≡ puts = cc in ap are_files (sym same)
log_files_within zero (gate ∷ []) puts e = let same : [] ≡ puts = cc in ap are_files (sym same)
log_files_within zero (gate ∷ b ∷ rest) puts e = let same : [] ≡ puts = cc in ap are_files (sym same)
log_files_within (suc n) [] puts e = let same : [] ≡ puts = cc in ap are_files (sym same)
log_files_within (suc n) (gate ∷ []) puts e = let same : [] ≡ puts = cc in ap are_files (sym same)
log_files_within (suc n) (gate ∷ b ∷ rest) puts e = go (gate == 1) (record_at (b ∷ rest)) refl e (log_files_within n)
  where
    after : (first : List Put) (more : Option (List Put)) → are_files first ≡ true → option_map (λ (ps : List Put). first ++ ps) more ≡ Some puts → ((ps : List Put) → more ≡ Some ps → are_files ps ≡ true) → are_files puts ≡ true
    after first None files e' later = cc
    after first (Some ps) files e' later = let same : first ++ ps ≡ puts = cc in ap are_files (sym same) ∙ files_joined first ps files (later ps refl)

    go : (b' : Bool) (found : Option (List Put × Text)) → record_at (b ∷ rest) ≡ found → cond b' (record_and_more (log_puts_within n) found) (Some []) ≡ Some puts
        → ((text : Text) (ps : List Put) → log_puts_within n text ≡ Some ps → are_files ps ≡ true) → are_files puts ≡ true
    go false found is e' later = let same : [] ≡ puts = cc in ap are_files (sym same)
    go true None is e' later = cc
    go true (Some found) is e' later = after found.0 (log_puts_within n found.1) (record_found (b ∷ rest) found.0 found.1 is).0.0 e' (later found.1)

pub log_files : (log : Text) (puts : List Put) → log_puts log ≡ Some puts → are_files puts ≡ true
log_files log puts e = log_files_within (length log) log puts e

some_record : (puts : List Put) → 0 < length (spelled_record puts)
some_record puts = let row = spelled_puts puts in omega (arith, length-append (decimal (length row) ++ 58 ∷ row) (44 ∷ []))

opened_text : (text : Text) → 0 < length text → log_puts (1 ∷ text) ≡ record_and_more log_puts (record_at text)
opened_text [] some = absurd (omega (arith, some))
opened_text (b ∷ text) some = log_opened b text

-- one more open record
open_record : (puts : List Put) (rest : Text) → IsWritable puts → log_puts (1 ∷ spelled_record puts ++ rest) ≡ option_map (λ (more : List Put). puts ++ more) (log_puts rest)
open_record puts rest is =
    opened_text (spelled_record puts ++ rest) (omega (arith, some_record puts, length-append (spelled_record puts) rest))
    ∙ ap (record_and_more log_puts) (record_written puts rest is.0 is.1)

holds_none : (end : Text) → HoldsNone end → log_puts end ≡ Some []
holds_none [] none = refl
holds_none (gate ∷ []) none = refl
holds_none (gate ∷ b ∷ rest) none = log_closed gate b rest none

is_broken : (end : Text) → IsBroken end → log_puts end ≡ None
is_broken [] broken = absurd broken
is_broken (gate ∷ []) broken = absurd broken
is_broken (gate ∷ b ∷ rest) broken = ap (λ (g : ℕ). log_puts (g ∷ b ∷ rest)) broken.0 ∙ log_opened b rest ∙ ap (record_and_more log_puts) broken.1

-- open records and an end that holds none are read as their puts
pub log_written : (rows : List (List Put)) (end : Text) → AllByRecursion IsWritable rows → HoldsNone end → log_puts (open_records rows ++ end) ≡ Some (all_puts rows)
log_written [] end are none = holds_none end none
log_written (puts ∷ rows) end are none =
    ap (λ (l : Text). log_puts (1 ∷ l)) (append_assoc (spelled_record puts) (open_records rows) end)
    ∙ open_record puts (open_records rows ++ end) are.0
    ∙ ap (option_map (λ (more : List Put). puts ++ more)) (log_written rows end are.1 none)

-- after open records a broken end leaves no value
pub log_damaged : (rows : List (List Put)) (end : Text) → AllByRecursion IsWritable rows → IsBroken end → log_puts (open_records rows ++ end) ≡ None
log_damaged [] end are broken = is_broken end broken
log_damaged (puts ∷ rows) end are broken =
    ap (λ (l : Text). log_puts (1 ∷ l)) (append_assoc (spelled_record puts) (open_records rows) end)
    ∙ open_record puts (open_records rows ++ end) are.0
    ∙ ap (option_map (λ (more : List Put). puts ++ more)) (log_damaged rows end are.1 broken)

-- every log is open records and then an end
abbrev Split : Text → Type 0
Split log = (rows : List (List Put)) × (end : Text) × IsSplit log rows end

alone : (log : Text) → HoldsNone log ⊎ IsBroken log → Split log
alone log end = ([], log, (refl, tt, end))

split_within : (n : ℕ) (log : Text) → length log ≤ n → Split log
split_within n [] le = alone [] (inl tt)
split_within n (gate ∷ []) le = alone (gate ∷ []) (inl tt)
split_within zero (gate ∷ b ∷ rest) le = absurd (omega (arith, le))
split_within (suc n) (gate ∷ b ∷ rest) le = elim (cases_eq gate 1) [
  | inl is_open ↦ after (record_at (b ∷ rest)) refl is_open (split_within n)
  | inr shut ↦ alone (gate ∷ b ∷ rest) (inl shut)
]
  where
    after : (found : Option (List Put × Text)) → record_at (b ∷ rest) ≡ found → gate ≡ 1 → ((text : Text) → length text ≤ n → Split text) → Split (gate ∷ b ∷ rest)
    after None e is_open more = alone (gate ∷ b ∷ rest) (inr (is_open, e))
    after (Some found) e is_open more =
        let is = record_found (b ∷ rest) found.0 found.1 e in
        let later = more found.1 (omega (arith, record_shorter (b ∷ rest) found e, le)) in (
          found.0 ∷ later.0,
          later.1,
          (
            ap (λ (g : ℕ). g ∷ b ∷ rest) is_open
                ∙ ap (λ (l : Text). 1 ∷ l) (is.1 ∙ ap (λ (l : Text). spelled_record found.0 ++ l) later.2.0 ∙ sym (append_assoc (spelled_record found.0) (open_records later.0) later.1)),
            (is.0, later.2.1),
            later.2.2,
          ),
        )

pub log_split : (log : Text) → (rows : List (List Put)) × (end : Text) × IsSplit log rows end
log_split log = split_within (length log) log (omega arith)

-- What a crash leaves of a log while a record is written.
use Rattle.std.proofs.Common.{◌≡◌, ◌≢◌, ◌⊎◌, inl, inr, ◌<◌, ℕ, ◌+◌, List, [], ◌∷◌, ◌++◌, length, take, drop, get_or, Some, sym, ◌∙◌, ap, subst, arith, append_assoc, length-append}
use Rattle.std.proofs.lemmas.Bool.{cases_eq}
use Rattle.std.proofs.lemmas.List.{append-nil, take_all, drop_all, take_at, drop_at}
use Rattle.ml_base.specs.Bytes.{Text}
use Rattle.ml_base.specs.Dir.{Dir, with_puts}
use Rattle.ml_base.specs.declared.puts.Put.{Put}
use Rattle.ml_site.specs.Disk.{Contents, Range, MayLeave, log_with}
use Rattle.ml_site.proofs.LogParts.{torn_after, torn_byte, torn_log_files}
use Rattle.ml_journal.specs.Log.{log_puts, laid_over, directory}
use Rattle.ml_journal.specs.Instants.{with_txn}
use Rattle.ml_journal.specs.Rows.{IsRow, IsRecord, Rests, Staged}
use Rattle.ml_journal.proofs.Logs.{log_end, log_closed, row_of}

-- the records of a log that count make this change
abbrev pub Counts : Text → (Dir → Dir) → Type 0
Counts log change = (files : Dir) → laid_over files (log_puts log) ≡ Some (change files)

-- the same log makes the same change
pub counts_same : (log other : Text) (change : Dir → Dir) → other ≡ log → Counts log change → Counts other change
counts_same log other change same counts files = ap (λ (l : Text). laid_over files (log_puts l)) same ∙ counts files

-- two contents whose logs make the same change over the same files
pub same_directory : (old left : Contents) (change : Dir → Dir) → Counts old.log change → Counts left.log change → left.files ≡ old.files → directory left ≡ directory old
same_directory old left change was is files = is left.files ∙ ap (λ (d : Dir). Some (change d)) files ∙ sym (was old.files)

-- nothing counts after a closed gate
pub closed : (gate : ℕ) (rest : Text) → gate ≢ 1 → Counts (gate ∷ rest) (λ d. d)
closed gate [] shut files = ap (laid_over files) (log_end gate)
closed gate (b ∷ rest) shut files = ap (laid_over files) (log_closed gate b rest shut)

-- a row and a closed gate, whatever follows it
pub closed_row : (row : Text) (change : Dir → Dir) (gate : ℕ) (rest : Text) → IsRow row change → gate ≢ 1 → Counts (row ++ gate ∷ rest) change
closed_row row change gate rest is_row shut files = is_row (gate ∷ rest) files (omega arith) ∙ closed gate rest shut (change files)

-- a row and a last gate
pub last_row : (row : Text) (change : Dir → Dir) (gate : ℕ) → IsRow row change → Counts (row ++ gate ∷ []) change
last_row row change gate is_row files = is_row (gate ∷ []) files (omega arith) ∙ ap (laid_over (change files)) (log_end gate)

row_then : (front after : Text) (first second : Dir → Dir) → IsRow front first → IsRow after second → IsRow (front ++ after) (λ d. second (first d))
row_then front after first second a b rest files some =
    ap (λ (l : Text). laid_over files (log_puts l)) (append_assoc front after rest) ∙ a (after ++ rest) files (omega (arith, length-append after rest)) ∙ b rest (first files) some

-- a record has at least one byte
record_some : (body : Text) (txn : List Put) → IsRecord body txn → 0 < length body
record_some [] txn reads = cc (reads [])
record_some (b ∷ body) txn reads = omega arith

-- the row becomes longer by a record
longer_row : (row body : Text) (change : Dir → Dir) (txn : List Put) → IsRow row change → IsRecord body txn → IsRow (row ++ 1 ∷ body) (λ d. with_puts (change d) txn)
longer_row row body change txn is_row reads = row_then row (1 ∷ body) change (λ d. with_puts d txn) is_row (row_of body txn reads (record_some body txn reads))

pub rests_counts : (log : Text) (end : ℕ) (change : Dir → Dir) → Rests log end change → Counts log change
rests_counts log end change rests = counts_same (rests.row ++ 0 ∷ []) log change rests.split (last_row rests.row change 0 rests.is_row)

pub rests_size : (log : Text) (end : ℕ) (change : Dir → Dir) → Rests log end change → length log ≡ end + 1
rests_size log end change rests = omega (arith, ap length rests.split, length-append rests.row (0 ∷ []), rests.size)

-- a record is written after the last gate
pub after_gate : (old : Contents) (end n : ℕ) (change : Dir → Dir) (left : Contents) → Rests old.log end change → MayLeave old (Range (end + 1) n ∷ []) left → directory left ≡ directory old
after_gate old end n change left rests may =
    let size = rests_size old.log end change rests in
    let junk = drop (length old.log) left.log in
    let split : left.log ≡ rests.row ++ 0 ∷ junk = torn_after old left n (subst (λ (k : ℕ). MayLeave old (Range k n ∷ []) left) (sym size) may) ∙ ap (λ (l : Text). l ++ junk) rests.split ∙ append_assoc rests.row (0 ∷ []) junk in
    same_directory old left change (rests_counts old.log end change rests)
    (counts_same _ left.log change split (closed_row rests.row change 0 junk rests.is_row (omega arith)))
    (torn_log_files old left (end + 1) n may)

pub staged : (old : Contents) (end : ℕ) (body : Text) (change : Dir → Dir) → Rests old.log end change → Staged (log_with old (end + 1) (body ++ 0 ∷ [])).log end body change
staged old end body change rests =
    let size = rests_size old.log end change rests in
    let bytes = body ++ 0 ∷ [] in
    record {
      row = rests.row;
      split = (λ i. take_all (end + 1) old.log (omega (arith, size)) i ++ bytes ++ drop_all (end + 1 + length bytes) old.log (omega (arith, size)) i)
          ∙ append-nil (old.log ++ bytes) ∙ ap (λ (l : Text). l ++ bytes) rests.split ∙ append_assoc rests.row (0 ∷ []) bytes;
      size = rests.size;
      is_row = rests.is_row;
      first = rests.first;
    }

-- it is so after the record with its gate was written
pub staged_then : (old mid : Contents) (end : ℕ) (body bytes : Text) (change : Dir → Dir) → Rests old.log end change → bytes ≡ body ++ 0 ∷ [] → mid ≡ log_with old (end + 1) bytes → Staged mid.log end body change
staged_then old mid end body bytes change rests is done = subst (λ (m : Contents). Staged m.log end body change) (sym (done ∙ ap (log_with old (end + 1)) is)) (staged old end body change rests)

staged_counts : (log : Text) (end : ℕ) (body : Text) (change : Dir → Dir) → Staged log end body change → Counts log change
staged_counts log end body change at = counts_same _ log change at.split (closed_row at.row change 0 (body ++ 0 ∷ []) at.is_row (omega arith))

-- the log with any gate before the record
gated : (log : Text) (end : ℕ) (body : Text) (change : Dir → Dir) (gate : ℕ) → (at : Staged log end body change) → take end log ++ gate ∷ drop (end + 1) log ≡ at.row ++ gate ∷ (body ++ 0 ∷ [])
gated log end body change gate at =
    ap (λ (l : Text). take end l ++ gate ∷ drop (end + 1) l) at.split
    ∙ (λ i. take_at at.row (0 ∷ tail) end at.size i ++ gate ∷ past i)
  where
    tail : Text
    tail = body ++ 0 ∷ []

    past : drop (end + 1) (at.row ++ 0 ∷ tail) ≡ tail
    past = ap (drop (end + 1)) (sym (append_assoc at.row (0 ∷ []) tail)) ∙ drop_at (at.row ++ 0 ∷ []) tail (end + 1) (omega (arith, length-append at.row (0 ∷ []), at.size))

-- with an open gate the record counts
opened_split : (row body : Text) → row ++ 1 ∷ (body ++ 0 ∷ []) ≡ (row ++ 1 ∷ body) ++ 0 ∷ []
opened_split row body = sym (append_assoc row (1 ∷ body) (0 ∷ []))

-- the gate before it is written
pub at_gate : (old : Contents) (end : ℕ) (body : Text) (change : Dir → Dir) (txn : List Put) (left : Contents) → Staged old.log end body change → IsRecord body txn → MayLeave old (Range end 1 ∷ []) left
    → (directory left ≡ directory old) ⊎ (directory left ≡ with_txn txn (directory old))
at_gate old end body change txn left at reads may =
    let size : end < length old.log = omega (arith, ap length at.split, length-append at.row (0 ∷ (body ++ 0 ∷ [])), at.size) in
    let gate = get_or left.log end 0 in
    let split : left.log ≡ at.row ++ gate ∷ (body ++ 0 ∷ []) = torn_byte old left end size may ∙ gated old.log end body change gate at in
    let files = torn_log_files old left end 1 may in
    let was = staged_counts old.log end body change at in
    elim (cases_eq gate 1) [
      | inl is_open ↦
          let counts : Counts left.log (λ d. with_puts (change d) txn) = counts_same _ left.log (λ d. with_puts (change d) txn) (split ∙ ap (λ (k : ℕ). at.row ++ k ∷ (body ++ 0 ∷ [])) is_open ∙ opened_split at.row body)
          (last_row (at.row ++ 1 ∷ body) (λ d. with_puts (change d) txn) 0 (longer_row at.row body change txn at.is_row reads)) in
          inr (counts left.files ∙ ap (λ (d : Dir). Some (with_puts (change d) txn)) files ∙ ap (with_txn txn) (sym (was old.files)))
      | inr shut ↦ inl (same_directory old left change was (counts_same _ left.log change split (closed_row at.row change gate (body ++ 0 ∷ []) at.is_row shut)) files)
    ]

first_of : (row body : Text) → (row ≡ []) ⊎ ((after : Text) × (row ≡ 1 ∷ after)) → (after : Text) × (row ++ 1 ∷ body ≡ 1 ∷ after)
first_of row body (inl none) = (body, ap (λ (l : Text). l ++ 1 ∷ body) none)
first_of row body (inr some) = (some.0 ++ 1 ∷ body, ap (λ (l : Text). l ++ 1 ∷ body) some.1)

pub opened : (old : Contents) (end : ℕ) (body : Text) (change : Dir → Dir) (txn : List Put) → Staged old.log end body change → IsRecord body txn
    → Rests (log_with old end (1 ∷ [])).log (end + 1 + length body) (λ d. with_puts (change d) txn)
opened old end body change txn at reads =
    record {
      row = at.row ++ 1 ∷ body;
      split = append_assoc (take end old.log) (1 ∷ []) (drop (end + 1) old.log) ∙ gated old.log end body change 1 at ∙ opened_split at.row body;
      size = omega (arith, length-append at.row (1 ∷ body), at.size);
      is_row = longer_row at.row body change txn at.is_row reads;
      first = inr (first_of at.row body at.first);
    }

-- with its gate open the record counts
pub opened_directory : (old : Contents) (end : ℕ) (body : Text) (change : Dir → Dir) (txn : List Put) → Staged old.log end body change → IsRecord body txn
    → directory (log_with old end (1 ∷ [])) ≡ with_txn txn (directory old)
opened_directory old end body change txn at reads =
    rests_counts _ _ (λ d. with_puts (change d) txn) (opened old end body change txn at reads) old.files ∙ ap (with_txn txn) (sym (staged_counts old.log end body change at old.files))

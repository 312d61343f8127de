-- What a crash leaves of a log without open records.
use Rattle.std.proofs.Common.{◌≡◌, inl, inr, ◌≤◌, ℕ, [], ◌∷◌, ◌++◌, length, take, drop, refl, ◌∙◌, ap, arith}
use Rattle.ml_base.specs.Bytes.{Text}
use Rattle.ml_site.specs.Disk.{Contents, Range, Cut, MayLeave, log_with}
use Rattle.ml_site.proofs.LogParts.{torn_cut, torn_log_files, cut_log_files}
use Rattle.ml_journal.specs.Log.{directory}
use Rattle.ml_journal.specs.Rows.{IsShut}
use Rattle.ml_journal.proofs.Crash.{Counts, counts_same, same_directory, closed, last_row}

short_counts : (log : Text) → length log ≤ 1 → Counts log (λ d. d)
short_counts [] le files = refl
short_counts (gate ∷ []) le files = last_row [] (λ d. d) gate (λ rest f some. refl) files
short_counts (gate ∷ b ∷ log) le files = absurd (omega (arith, le))

shut_counts : (log : Text) → IsShut log → Counts log (λ d. d)
shut_counts log (inl short) = short_counts log short
shut_counts log (inr first) = counts_same (first.0 ∷ first.1) log (λ d. d) first.2 (closed first.0 first.1 first.3)

pub at_one_gate : (old left : Contents) → length old.log ≤ 1 → MayLeave old (Range 0 1 ∷ []) left → directory left ≡ directory old
at_one_gate old left short may = same_directory old left (λ d. d) (short_counts old.log short) (short_counts left.log (omega (arith, may.no_longer, short))) (torn_log_files old left 0 1 may)

pub one_gate_log : (old : Contents) → length old.log ≤ 1 → (log_with old 0 (0 ∷ [])).log ≡ 0 ∷ []
one_gate_log old short = ap (λ (l : Text). 0 ∷ l) (none_after old.log short)
  where
    none_after : (log : Text) → length log ≤ 1 → drop 1 log ≡ []
    none_after [] le = refl
    none_after (g ∷ []) le = refl
    none_after (g ∷ b ∷ log) le = absurd (omega (arith, le))

pub at_cut : (old left : Contents) → IsShut old.log → 2 ≤ length old.log → MayLeave old (Cut 1 ∷ []) left → directory left ≡ directory old
at_cut old left (inl short) long may = absurd (omega (arith, short, long))
at_cut old left (inr first) long may =
    let split : left.log ≡ first.0 ∷ drop 1 left.log = torn_cut old left 1 (omega (arith, long)) may ∙ ap (λ (l : Text). take 1 l ++ drop 1 left.log) first.2 in
    same_directory old left (λ d. d) (shut_counts old.log (inr first)) (counts_same (first.0 ∷ drop 1 left.log) left.log (λ d. d) split (closed first.0 (drop 1 left.log) first.3)) (cut_log_files old left 1 may)

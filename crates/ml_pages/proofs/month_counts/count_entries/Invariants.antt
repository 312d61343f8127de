use Rattle.std.proofs.Common.{◌≡◌, ◌≤◌, ◌+◌, ℕ, take, length, slice_index}
use Rattle.ml_pages.specs.Counted.{count_at}
use Rattle.ml_pages.proofs.month_counts.count_entries.Given as goal

abbrev pub invariant-loop-entry : goal.invariant-loop-entry
invariant-loop-entry l = record {
  value : (i : ℕ) → slice_index l.fn.tally i + count_at i (take l.entry-index l.entries) ≤ 18_446_744_073_709_551_615
      → slice_index l.tally i ≡ slice_index l.fn.tally i + count_at i (take l.entry-index l.entries);
  long : length l.tally ≤ 96_360;
}

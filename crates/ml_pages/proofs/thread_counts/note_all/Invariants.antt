use Rattle.std.proofs.Common.{◌≡◌, ℕ, length, slice_index}
use Rattle.ml_pages.specs.Threaded.{noted}
use Rattle.ml_pages.proofs.thread_counts.note_all.Given as goal

abbrev pub invariant-loop-rest : goal.invariant-loop-rest
invariant-loop-rest l = (i : ℕ) → noted i l.rest (slice_index l.tally i) ≡ noted i l.fn.threads (slice_index l.fn.tally i)

abbrev pub decreases-loop-rest : goal.decreases-loop-rest
decreases-loop-rest l = length l.rest

use Rattle.std.proofs.Common.{◌≡◌, true, [], length}
use Rattle.ml_queue.specs.Reading.{rises}
use Rattle.trials_parts.proofs.queue.are_ordered.Given as goal

abbrev pub invariant-loop-rest : goal.invariant-loop-rest
invariant-loop-rest l = rises l.last l.rest ≡ true → rises [] l.fn.to ≡ true

abbrev pub decreases-loop-rest : goal.decreases-loop-rest
decreases-loop-rest l = length l.rest

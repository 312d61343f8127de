use Rattle.std.proofs.Common.{length}
use Rattle.ml_digest.specs.Reading.{IsPassed}
use Rattle.ml_digest.proofs.lines.split_at_line.Given as goal

abbrev pub invariant-loop-line : goal.invariant-loop-line
invariant-loop-line l = IsPassed l.wanted l.barred l.text l.rest

abbrev pub decreases-loop-line : goal.decreases-loop-line
decreases-loop-line l = length l.rest

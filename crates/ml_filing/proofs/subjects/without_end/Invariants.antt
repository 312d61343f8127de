use Rattle.std.proofs.Common.{◌≡◌, ◌≤◌, length, take}
use Rattle.ml_filing.specs.Subjects as spec
use Rattle.ml_filing.proofs.subjects.without_end.Given as goal

abbrev pub invariant-loop-end : goal.invariant-loop-end
invariant-loop-end l = (spec.without_end (take l.end l.text) ≡ spec.without_end l.text) × (l.end ≤ length l.text)

abbrev pub decreases-loop-end : goal.decreases-loop-end
decreases-loop-end l = l.end

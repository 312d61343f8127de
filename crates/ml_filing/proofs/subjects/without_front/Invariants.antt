use Rattle.std.proofs.Common.{◌≡◌, ◌≤◌, length}
use Rattle.ml_filing.specs.Subjects as spec
use Rattle.ml_filing.proofs.subjects.without_front.Given as goal

abbrev pub invariant-loop-rest : goal.invariant-loop-rest
invariant-loop-rest l = (spec.without_front l.rest ≡ spec.without_front l.fn.text) × (length l.rest ≤ length l.fn.text)

abbrev pub decreases-loop-rest : goal.decreases-loop-rest
decreases-loop-rest l = length l.rest

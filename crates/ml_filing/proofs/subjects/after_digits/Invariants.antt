use Rattle.std.proofs.Common.{◌≡◌, ◌<◌, true, false, length}
use Rattle.ml_filing.specs.Subjects as spec
use Rattle.ml_filing.proofs.subjects.after_digits.Given as goal

abbrev pub invariant-loop-rest : goal.invariant-loop-rest
invariant-loop-rest l = (spec.after_digits true l.rest ≡ spec.after_digits false l.fn.text) × (length l.rest < length l.fn.text)

abbrev pub decreases-loop-rest : goal.decreases-loop-rest
decreases-loop-rest l = length l.rest

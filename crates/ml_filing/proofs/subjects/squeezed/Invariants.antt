use Rattle.std.proofs.Common.{◌≡◌, ◌++◌, length}
use Rattle.ml_base.specs.Bytes.{lower}
use Rattle.ml_filing.specs.Subjects as spec
use Rattle.ml_filing.proofs.subjects.squeezed.Given as goal

abbrev pub invariant-loop-rest : goal.invariant-loop-rest
invariant-loop-rest l = l.out ++ lower (spec.squeezed l.rest) ≡ lower (spec.squeezed l.fn.text)

abbrev pub decreases-loop-rest : goal.decreases-loop-rest
decreases-loop-rest l = length l.rest

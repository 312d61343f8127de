use Rattle.std.proofs.Common.{◌≡◌, length}
use Rattle.ml_base.specs.Bytes.{Text, lower}
use Rattle.ml_filing.specs.Subjects as spec
use Rattle.ml_filing.proofs.subjects.stripped.Given as goal

abbrev pub invariant-loop-more : goal.invariant-loop-more
invariant-loop-more l = (list : Text) → l.prefix ≡ lower list → spec.stripped (length l.rest) list l.rest ≡ spec.stripped (length l.fn.text) list l.fn.text

abbrev pub decreases-loop-more : goal.decreases-loop-more
decreases-loop-more l = length l.rest

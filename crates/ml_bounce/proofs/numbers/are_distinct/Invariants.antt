use Rattle.std.proofs.Common.{◌≡◌, length}
use Rattle.ml_bounce.specs.Files as files
use Rattle.ml_bounce.proofs.numbers.are_distinct.Given as goal

abbrev pub invariant-loop-rest : goal.invariant-loop-rest
invariant-loop-rest l = files.are_distinct l.rest ≡ files.are_distinct l.fn.numbers

abbrev pub decreases-loop-rest : goal.decreases-loop-rest
decreases-loop-rest l = length l.rest

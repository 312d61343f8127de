use Rattle.std.proofs.Common.{◌≡◌, ◌++◌, length}
use Rattle.ml_base.specs.Bytes.{Text}
use Rattle.ml_header.specs.Unfolding.{without_breaks, trim_front}
use Rattle.ml_header.proofs.unfolded_values.unfolded_value.Given as goal

abbrev pub invariant-loop-line : goal.invariant-loop-line
invariant-loop-line l = (front : Text) × (l.text ≡ trim_front front) × (without_breaks l.value ≡ front ++ without_breaks l.rest)

abbrev pub decreases-loop-line : goal.decreases-loop-line
decreases-loop-line l = length l.rest

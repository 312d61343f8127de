use Rattle.std.proofs.Common.{◌≡◌, ◌++◌, length}
use Rattle.std.specs.List.{flat_map}
use Rattle.ml_base.specs.Splits.{lines}
use Rattle.ml_digest.specs.Digest.{quoted_line}
use Rattle.ml_digest.proofs.messages.add_body.Given as goal

abbrev pub invariant-loop-line : goal.invariant-loop-line
invariant-loop-line l = l.out ++ flat_map quoted_line (lines l.rest) ≡ l.initial.out ++ flat_map quoted_line (lines l.body)

abbrev pub decreases-loop-line : goal.decreases-loop-line
decreases-loop-line l = length l.rest

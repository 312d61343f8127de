use Rattle.std.proofs.Common.{◌≡◌, ◌++◌, length}
use Rattle.std.specs.List.{flat_map}
use Rattle.ml_base.specs.Splits.{lines}
use Rattle.ml_mbox.specs.Quoting.{unquoted_line}
use Rattle.ml_mbox.proofs.quotes.push_unquoted.Given as goal

abbrev pub invariant-loop-line : goal.invariant-loop-line
invariant-loop-line l = l.out ++ flat_map unquoted_line (lines l.rest) ≡ l.initial.out ++ flat_map unquoted_line (lines l.text)

abbrev pub decreases-loop-line : goal.decreases-loop-line
decreases-loop-line l = length l.rest

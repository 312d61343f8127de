use Rattle.std.proofs.Common.{◌≡◌, ◌≤◌, false, drop, length}
use Rattle.ml_base.specs.Dir.{touches}
use Rattle.ml_base.proofs.puts.newest_place.Given as goal

abbrev pub invariant-loop-at : goal.invariant-loop-at
invariant-loop-at l = record { within : l.at ≤ length l.puts; after : touches (drop l.at l.puts) l.name ≡ false }

abbrev pub decreases-loop-at : goal.decreases-loop-at
decreases-loop-at l = l.at

use Rattle.std.proofs.Common.{◌≡◌, ◌≤◌, ◌++◌}
use Rattle.ml_list.specs.Rising.{removals}
use Rattle.ml_list.proofs.floor_rise.remove_files.Given as goal

abbrev pub invariant-loop-block : goal.invariant-loop-block
invariant-loop-block l = (l.fn.from ≤ l.block) × (l.txn ≡ l.initial.txn ++ removals l.fn.from l.block)

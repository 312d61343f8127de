use Rattle.std.proofs.Common.{◌≡◌, ◌++◌, map}
use Rattle.std.specs.List.{range_with_len}
use Rattle.ml_config.specs.FirstFiles.{empty_count}
use Rattle.ml_config.proofs.first_files.add_counts.Given as goal

abbrev pub invariant-loop-set : goal.invariant-loop-set
invariant-loop-set l = l.txn ≡ l.initial.txn ++ map empty_count (range_with_len 0 l.set)

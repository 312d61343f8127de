use Rattle.std.proofs.Common.{◌≡◌, ◌++◌, length}
use Rattle.std.specs.List.{flat_map}
use Rattle.ml_keyed.proofs.record_writer.push_all.Given as goal

abbrev pub invariant-loop-rest : goal.invariant-loop-rest
invariant-loop-rest g l = l.out ++ flat_map g.R.Keyed.spelling l.rest ≡ l.fn.out ++ flat_map g.R.Keyed.spelling l.fn.records

abbrev pub decreases-loop-rest : goal.decreases-loop-rest
decreases-loop-rest g l = length l.rest

use Rattle.std.proofs.Common.{◌≤◌, take}
use Rattle.ml_base.specs.Absent.{NoPutOf}
use Rattle.ml_base.proofs.layer.first_named.Given as goal

abbrev pub invariant-loop-put : goal.invariant-loop-put
invariant-loop-put l = record { onward : l.from ≤ l.first; within : l.first ≤ l.end; none : NoPutOf (take l.put-index l.puts) l.kind l.from l.first }

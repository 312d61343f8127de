use Rattle.std.proofs.Common.{◌≡◌, ◌++◌}
use Rattle.std.specs.List.{filter}
use Rattle.ml_bounce.specs.Changes as spec
use Rattle.ml_bounce.proofs.due_entries.push_due.Given as goal

abbrev pub invariant-loop-entry : goal.invariant-loop-entry
invariant-loop-entry l = l.out ≡ l.fn.out ++ filter (spec.is_due l.now) l.yielded

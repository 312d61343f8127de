use Rattle.std.proofs.Common.{◌≡◌, map}
use Rattle.ml_bounce.specs.Changes as spec
use Rattle.ml_bounce.proofs.due_entries.actions_of.Given as goal

abbrev pub invariant-loop-entry : goal.invariant-loop-entry
invariant-loop-entry l = l.actions.items ≡ map spec.action_of l.yielded

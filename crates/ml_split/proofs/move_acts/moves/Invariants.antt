use Rattle.std.proofs.Common.{◌≡◌, take}
use Rattle.ml_split.specs.Moves.{moves_of}
use Rattle.ml_split.proofs.move_acts.moves.Given as goal

abbrev pub invariant-loop-who : goal.invariant-loop-who
invariant-loop-who l = l.acts ≡ moves_of l.set l.into (take l.who-index l.part.members)

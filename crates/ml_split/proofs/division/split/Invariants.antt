use Rattle.std.proofs.Common.{◌≡◌, take}
use Rattle.ml_split.specs.Parts.{parts}
use Rattle.ml_split.proofs.division.split.Given as goal

abbrev pub invariant-loop-a : goal.invariant-loop-a
invariant-loop-a l = l.parts.items ≡ parts l.rules (take l.a-index l.set)

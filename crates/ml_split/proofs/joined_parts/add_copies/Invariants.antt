use Rattle.std.proofs.Common.{◌≡◌, ◌++◌, take}
use Rattle.ml_split.proofs.joined_parts.add_copies.Given as goal

abbrev pub invariant-loop-a : goal.invariant-loop-a
invariant-loop-a l = l.out.items ≡ l.fn.out.items ++ take l.a-index l.members

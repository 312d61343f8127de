use Rattle.std.proofs.Common.{◌≡◌, take}
use Rattle.ml_split.specs.Parts.{all_members}
use Rattle.ml_split.proofs.joined_parts.gathered.Given as goal

abbrev pub invariant-loop-part : goal.invariant-loop-part
invariant-loop-part l = l.all.items ≡ all_members (take l.part-index l.parts)

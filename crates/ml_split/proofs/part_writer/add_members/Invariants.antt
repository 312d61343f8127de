use Rattle.std.proofs.Common.{◌≡◌, ◌++◌, List, ℕ, take}
use Rattle.std.specs.List.{flat_map}
use Rattle.ml_base.specs.Texts.{lf}
use Rattle.ml_split.proofs.part_writer.add_members.Given as goal

abbrev pub invariant-loop-a : goal.invariant-loop-a
invariant-loop-a l = l.text ≡ l.fn.text ++ flat_map (λ (a : List ℕ). a ++ lf) (take l.a-index l.members)

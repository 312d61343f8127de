use Rattle.std.proofs.Common.{◌≡◌, map, take}
use Rattle.std.specs.BTreeSet.{keys}
use Rattle.ml_split.specs.Parts.{first_uses}
use Rattle.ml_split.specs.Steps.{HasNames, empty_part}
use Rattle.ml_split.proofs.division.empty_parts.Given as goal

abbrev pub invariant-loop-rule : goal.invariant-loop-rule
invariant-loop-rule l = record {
  parts : l.parts.items ≡ map empty_part (first_uses (map (λ rule. rule.name) (take l.rule-index l.rules)));
  names : HasNames (map (λ k. k.now) (keys l.seen)) l.parts.items;
}

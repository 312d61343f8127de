use Rattle.std.proofs.Common.{◌≡◌, ◌≤◌, ◌-◌, length}
use Rattle.ml_base.specs.Splits.{lines}
use Rattle.ml_split.specs.Reading.{rules_in, rules_from}
use Rattle.ml_split.proofs.RuleLines.{onto_all}
use Rattle.ml_split.proofs.rule_reader.read_rules.Given as goal

abbrev pub invariant-loop-line : goal.invariant-loop-line
invariant-loop-line l = record {
  within : length l.rest ≤ length l.fn.text;
  read : rules_in l.fn.text ≡ onto_all l.rules (rules_from (length l.fn.text - length l.rest) (lines l.rest));
}

abbrev pub decreases-loop-line : goal.decreases-loop-line
decreases-loop-line l = length l.rest

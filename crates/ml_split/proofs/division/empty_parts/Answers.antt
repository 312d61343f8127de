use Rattle.ml_split.proofs.Places.{name_step, names_done}
use Rattle.ml_split.proofs.division.empty_parts.Goals as goal

pub loop-rule-preserved : goal.loop-rule-preserved
loop-rule-preserved c = record {
  parts =
      name_step c.args.rules.now c.as_slice-rule-items.result.now c.loop-rule.rule-index c.rule-item.result c.as_slice.result.now c.loop-rule.parts.items c.add_part.new.parts.items
      c.as_slice-rule-items.ensures c.loop-rule-test.true c.rule-item.is c.as_slice.ensures c.loop-rule.invariant.parts c.in_ok-add_part.ensures.parts;
  names = c.in_ok-add_part.ensures.names;
}

pub returns : goal.returns
returns c =
    names_done c.args.rules.now c.as_slice-rule-items.result.now c.loop-rule.rule-index c.loop-rule.parts.items c.add_part-2.new.parts.items
    c.as_slice-rule-items.ensures c.loop-rule-test.false c.loop-rule.invariant.parts c.in_ok-add_part-2.ensures.parts

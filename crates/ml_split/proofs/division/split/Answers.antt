use Rattle.ml_split.proofs.Places.{member_step}
use Rattle.ml_split.proofs.division.split.Goals as goal

pub loop-a-preserved : goal.loop-a-preserved
loop-a-preserved c =
    member_step c.args.rules.now c.args.set.now c.as_slice-a-items.result.now c.loop-a.a-index c.a-item.result c.in_ok-copy.field-0 c.name_of.result.now c.loop-a.parts.items c.add_member.new.parts.items
    c.as_slice-a-items.ensures c.loop-a-test.true c.a-item.is c.in_ok-copy.ensures c.name_of.ensures c.loop-a.invariant c.in_ok-add_member.ensures

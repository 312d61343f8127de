use Rattle.std.proofs.Common.{refl, not}
use Rattle.ml_subs.proofs.Folded.{own_by}
use Rattle.ml_subs.proofs.records.Record.new.Goals as goal

pub invariant_of-result : goal.invariant_of-result
invariant_of-result c = record {
  address = c.requires.address;
  moment = c.requires.moment;
  spelled = c.requires.text;
  own = own_by c.args.who.now c.has_capital.result (not c.has_capital.result) c.has_capital.ensures refl;
}

use Rattle.std.proofs.Common.{inr}
use Rattle.ml_ending.proofs.endings.finish.Goals as goal

pub returns-in-Some-default-clause-finishes : goal.returns-in-Some-default-clause-finishes
returns-in-Some-default-clause-finishes g c = record {
  mid = c.close_store.result.1;
  final = c.close_store.result.0;
  closes = c.close_store.ensures.closes;
  same = c.close_store.ensures.same;
  output = c.close_store.ensures.output;
  instants = c.close_store.ensures.instants;
  faults = c.close_store.ensures.faults;
  others = c.close_store.ensures.others;
  spends = c.close_store.ensures.spends;
  said = inr (c.in-Some-default.number, c.in-Some-default.why, c.in-Some-default.is-0, c.say.ensures.says);
}

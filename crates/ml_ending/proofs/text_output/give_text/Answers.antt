use Rattle.std.proofs.Common.{inr}
use Rattle.ml_ending.proofs.Said.{closed_why}
use Rattle.ml_ending.proofs.text_output.give_text.Goals as goal

pub returns-in-Some-default : goal.returns-in-Some-default
returns-in-Some-default g c = record {
  mid = c.close_store.result.1;
  same = c.close_store.ensures.same;
  output = c.close_store.ensures.output;
  instants = c.close_store.ensures.instants;
  faults = c.close_store.ensures.faults;
  others = c.close_store.ensures.others;
  spends = c.close_store.ensures.spends;
  said = inr (c.in-Some-default.why, (closed_why c.close_store.result.0 c.in-Some-default.field-0-0-0 c.in-Some-default.why _ _ c.close_store.ensures.closes c.in-Some-default.is-0).1, c.stop.ensures);
}

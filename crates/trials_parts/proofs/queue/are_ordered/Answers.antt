use Rattle.trials_parts.proofs.Risen.{all_risen}
use Rattle.trials_parts.proofs.queue.are_ordered.Goals as goal

pub returns : goal.returns
returns c = λ _. all_risen c.loop-rest.last.now c.loop-rest.rest.now c.args.to.now c.in_default.len_below c.loop-rest.invariant

use Rattle.ml_drawn.specs.declared.series.Series.TheVariants.{Ids}
use Rattle.ml_drawn.proofs.OfFiles.{next_is}
use Rattle.ml_queue.specs.Queue.{IsOut, out_text}
use Rattle.ml_queue.proofs.entry_calls.next_id.Goals as goal

pub returns-clause-value : goal.returns-clause-value
returns-clause-value g c told = next_is IsOut out_text Ids (g.F.Files.map c.args.files.now) c.in_ok-counter.counter.low c.in_ok-counter.counter.next (c.in_ok-counter.ensures.value told)

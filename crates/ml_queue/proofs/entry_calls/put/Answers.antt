use Rattle.ml_drawn.specs.declared.series.Series.TheVariants.{Ids}
use Rattle.ml_drawn.proofs.OfFiles.{drawn_by}
use Rattle.ml_queue.specs.Queue.{IsOut, out_text}
use Rattle.ml_queue.proofs.entry_calls.put.Goals as goal

pub returns-clause-value : goal.returns-clause-value
returns-clause-value g c told =
    drawn_by IsOut out_text Ids (g.F.Files.map c.args.files.now) c.args.out.now c.in_ok-text.text c.draw.result c.in_ok-text.ensures.is c.in_ok-text.ensures.text (c.draw.ensures.value told)

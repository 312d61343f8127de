use Rattle.ml_drawn.specs.declared.series.Series.TheVariants.{Tickets}
use Rattle.ml_drawn.proofs.Cutting.{if_ok_from}
use Rattle.ml_drawn.proofs.OfFiles.{released}
use Rattle.ml_hold.specs.Held.{IsHeld, held_text}
use Rattle.ml_hold.proofs.post_calls.release.Goals as goal

pub returns-clause-value : goal.returns-clause-value
returns-clause-value g c told =
    if_ok_from c.take_out.result _ _ (c.take_out.ensures.value told) (λ txn by pending held is waits. released IsHeld held_text Tickets (g.F.Files.map c.args.files.now) pending is c.args.ticket txn held by waits)

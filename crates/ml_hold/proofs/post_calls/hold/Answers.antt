use Rattle.ml_drawn.specs.declared.series.Series.TheVariants.{Tickets}
use Rattle.ml_drawn.proofs.OfFiles.{drawn_by}
use Rattle.ml_hold.specs.Held.{IsHeld, held_text}
use Rattle.ml_hold.proofs.post_calls.hold.Goals as goal

pub returns-clause-value : goal.returns-clause-value
returns-clause-value g c told =
    drawn_by IsHeld held_text Tickets (g.F.Files.map c.args.files.now) c.args.held.now c.in_ok-text.text c.draw.result
    (record { moment = c.requires.moment; sender = c.in_ok-text.ensures.address; size = c.requires.size }) c.in_ok-text.ensures.text (c.draw.ensures.value told)

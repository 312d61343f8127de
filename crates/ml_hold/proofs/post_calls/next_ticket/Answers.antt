use Rattle.ml_drawn.specs.declared.series.Series.TheVariants.{Tickets}
use Rattle.ml_drawn.proofs.OfFiles.{next_is}
use Rattle.ml_hold.specs.Held.{IsHeld, held_text}
use Rattle.ml_hold.proofs.post_calls.next_ticket.Goals as goal

pub returns-clause-value : goal.returns-clause-value
returns-clause-value g c told = next_is IsHeld held_text Tickets (g.F.Files.map c.args.files.now) c.in_ok-counter.counter.low c.in_ok-counter.counter.next (c.in_ok-counter.ensures.value told)

use Rattle.std.proofs.Common.{inl}
use Rattle.ml_command.proofs.item_commands.answer_now.Goals as goal

pub returns-in-Ok-clause-does : goal.returns-in-Ok-clause-does
returns-in-Ok-clause-does g c = inl (record { moment = c.in-Ok.moment; range = c.in-Ok.ensures.range; shown = c.in-Ok.ensures.shown; item = c.answer_item.ensures })

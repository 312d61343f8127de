use Rattle.std.proofs.Common.{sym, ◌∙◌}
use Rattle.ml_base.proofs.Options.{some_left}
use Rattle.ml_bounce.proofs.Parsed.{four_not}
use Rattle.ml_bounce.proofs.ledger_reader.texts_of.Goals as goal

pub returns-then-not-is_empty-clause-none : goal.returns-then-not-is_empty-clause-none
returns-then-not-is_empty-clause-none c =
    four_not c.args.text.now _ _ _ _ _ _ _ c.in_ok-missed.end.now c.in_ok-key.ensures.value c.in_ok-first.ensures.value c.in_ok-stage.ensures.value c.in_ok-missed.ensures.value
    (some_left c.in_ok-missed.end.now (sym c.is_empty.ensures ∙ c.if-not-is_empty.true))

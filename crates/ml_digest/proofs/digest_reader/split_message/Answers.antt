use Rattle.std.proofs.Common.{Some, None, [], ◌∷◌, sym, ◌∙◌}
use Rattle.std.proofs.lemmas.Bool.Decides.{Decides-eqb}
use Rattle.std.proofs.lemmas.Slice.Eq.{strip_prefix_is}
use Rattle.ml_base.proofs.Options.{if_none}
use Rattle.ml_digest.proofs.Entries.{NoEntry, no_fields, no_body, no_empty_end, no_line_after, entry, ends_here}
use Rattle.ml_digest.proofs.digest_reader.split_message.Goals as goal

pub returns-in_err-fields-clause-none : goal.returns-in_err-fields-clause-none
returns-in_err-fields-clause-none c = if_none c.from_residual.result (NoEntry c.args.text.now) (no_fields c.args.text.now c.in_err-fields.ensures.none)

pub returns-in_err-body-clause-none : goal.returns-in_err-body-clause-none
returns-in_err-body-clause-none c =
    if_none c.from_residual-in_err-body.result (NoEntry c.args.text.now) (no_body c.args.text.now c.in_ok-fields.fields.now c.in_ok-fields.after.now c.in_ok-fields.ensures.some c.in_err-body.ensures.none)

pub returns-in_err-body-2-clause-none : goal.returns-in_err-body-2-clause-none
returns-in_err-body-2-clause-none c =
    if_none c.from_residual-in_err-body-2.result (NoEntry c.args.text.now)
    (no_empty_end c.args.text.now c.in_ok-fields.fields.now c.in_ok-fields.after.now c.in_ok-fields.ensures.some c.in_ok-body.body.now c.in_ok-body.rest.now c.in_ok-body.ensures.some c.in_err-body-2.ensures.none)

pub returns-in_err-rest-clause-none : goal.returns-in_err-rest-clause-none
returns-in_err-rest-clause-none c =
    if_none c.from_residual-in_err-rest.result (NoEntry c.args.text.now)
    (no_line_after c.args.text.now c.in_ok-fields.fields.now c.in_ok-fields.after.now c.in_ok-fields.ensures.some c.in_ok-body.body.now c.in_ok-body.rest.now c.in_ok-body.ensures.some
    (strip_prefix_is Decides-eqb c.in_ok-body.rest.now (10 ∷ []) None c.in_err-rest.ensures.cases))

pub returns-then-starts_with-clause-none : goal.returns-then-starts_with-clause-none
returns-then-starts_with-clause-none c =
    ends_here c.args.text.now c.in_ok-fields.fields.now c.in_ok-fields.after.now c.in_ok-fields.ensures.some c.in_ok-body.body.now c.in_ok-body.rest.now c.in_ok-body.ensures.some
    c.in_ok-body-2.body.now c.in_ok-rest.rest.now c.in_ok-body-2.ensures.some (strip_prefix_is Decides-eqb c.in_ok-body.rest.now (10 ∷ []) (Some c.in_ok-rest.rest) c.in_ok-rest.ensures.cases)
    (sym c.starts_with.ensures.value ∙ c.if-starts_with.true)

pub returns-clause-some : goal.returns-clause-some
returns-clause-some c =
    entry c.args.text.now c.in_ok-fields.fields.now c.in_ok-fields.after.now c.in_ok-fields.ensures.some c.in_ok-body.body.now c.in_ok-body.rest.now c.in_ok-body.ensures.some
    c.in_ok-body-2.body.now c.in_ok-rest.rest.now c.in_ok-body-2.ensures.some (strip_prefix_is Decides-eqb c.in_ok-body.rest.now (10 ∷ []) (Some c.in_ok-rest.rest) c.in_ok-rest.ensures.cases)
    (sym c.starts_with.ensures.value ∙ c.if-starts_with.false)

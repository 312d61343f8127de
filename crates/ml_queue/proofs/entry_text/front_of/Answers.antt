use Rattle.ml_base.proofs.Options.{if_none}
use Rattle.ml_queue.proofs.Fronting.{no_base, no_host, no_letter, other_letter, no_body, front_read}
use Rattle.ml_queue.proofs.entry_text.front_of.Goals as goal

pub returns-in_err-base-clause-none : goal.returns-in_err-base-clause-none
returns-in_err-base-clause-none c = if_none _ _ (no_base c.args.text.now c.in_err-base.ensures.value)

pub returns-in_err-host-clause-none : goal.returns-in_err-host-clause-none
returns-in_err-host-clause-none c = if_none _ _ (no_host c.args.text.now c.in_ok-base.base.now c.in_ok-base.after.now c.in_ok-base.ensures.value c.in_err-host.ensures.value)

pub returns-in_err-letter-clause-none : goal.returns-in_err-letter-clause-none
returns-in_err-letter-clause-none c =
    if_none _ _ (no_letter c.args.text.now c.in_ok-base.base.now c.in_ok-base.after.now c.in_ok-base.ensures.value c.in_ok-host.host.now c.in_ok-host.later.now c.in_ok-host.ensures.value c.in_err-letter.ensures.value)

pub returns-in_err-each-clause-none : goal.returns-in_err-each-clause-none
returns-in_err-each-clause-none c =
    if_none _ _ (other_letter c.args.text.now c.in_ok-base.base.now c.in_ok-base.after.now c.in_ok-base.ensures.value c.in_ok-host.host.now c.in_ok-host.later.now c.in_ok-host.ensures.value
    c.in_ok-letter.letter.now c.in_ok-letter.last.now c.in_ok-letter.ensures.value c.in_err-each.ensures.none)

pub returns-in_err-body-clause-none : goal.returns-in_err-body-clause-none
returns-in_err-body-clause-none c =
    if_none _ _ (no_body c.args.text.now c.in_ok-base.base.now c.in_ok-base.after.now c.in_ok-base.ensures.value c.in_ok-host.host.now c.in_ok-host.later.now c.in_ok-host.ensures.value
    c.in_ok-letter.letter.now c.in_ok-letter.last.now c.in_ok-letter.ensures.value c.in_err-body.ensures.value)

pub returns-clause-some : goal.returns-clause-some
returns-clause-some c =
    front_read c.args.text.now c.in_ok-base.base.now c.in_ok-base.after.now c.in_ok-base.ensures.value c.in_ok-host.host.now c.in_ok-host.later.now c.in_ok-host.ensures.value
    c.in_ok-letter.letter.now c.in_ok-letter.last.now c.in_ok-letter.ensures.value c.in_ok-each.each c.in_ok-body.body.now c.in_ok-body.row.now c.in_ok-each.ensures.some c.in_ok-body.ensures.value

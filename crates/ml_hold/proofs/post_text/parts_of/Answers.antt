use Rattle.std.proofs.Common.{sym, ◌∙◌, arith}
use Rattle.std.proofs.lemmas.Bool.{both_ways, eqb-true, eqb-false}
use Rattle.ml_base.proofs.Options.{if_none}
use Rattle.ml_hold.proofs.Spelling.{no_digits, no_moment, no_sender, not_kept, no_message, not_end, too_long, held_read}
use Rattle.ml_hold.proofs.post_text.parts_of.Goals as goal

pub returns-in_err-digits-clause-none : goal.returns-in_err-digits-clause-none
returns-in_err-digits-clause-none c = if_none _ _ (no_digits c.args.text.now c.in_err-digits.ensures.value)

pub returns-in_err-moment-clause-none : goal.returns-in_err-moment-clause-none
returns-in_err-moment-clause-none c = if_none _ _ (no_moment c.args.text.now c.in_ok-digits.digits.now c.in_ok-digits.after.now c.in_ok-digits.ensures.value c.in_err-moment.ensures)

pub returns-in_err-sender-clause-none : goal.returns-in_err-sender-clause-none
returns-in_err-sender-clause-none c = if_none _ _ (no_sender c.args.text.now c.in_ok-digits.digits.now c.in_ok-digits.after.now c.in_ok-digits.ensures.value c.in_err-sender.ensures.value)

pub returns-then-not-is_canonical-clause-none : goal.returns-then-not-is_canonical-clause-none
returns-then-not-is_canonical-clause-none c =
    not_kept c.args.text.now c.in_ok-digits.digits.now c.in_ok-digits.after.now c.in_ok-digits.ensures.value c.in_ok-sender.sender.now c.in_ok-sender.last.now c.in_ok-sender.ensures.value
    (λ is. both_ways c.is_canonical.result c.if-not-is_canonical.true (c.is_canonical.ensures.1 is))

pub returns-in_err-message-clause-none : goal.returns-in_err-message-clause-none
returns-in_err-message-clause-none c =
    if_none _ _ (no_message c.args.text.now c.in_ok-digits.digits.now c.in_ok-digits.after.now c.in_ok-digits.ensures.value c.in_ok-sender.sender.now c.in_ok-sender.last.now c.in_ok-sender.ensures.value
    c.in_err-message.ensures.value)

pub returns-then-not-is_empty-clause-none : goal.returns-then-not-is_empty-clause-none
returns-then-not-is_empty-clause-none c =
    not_end c.args.text.now c.in_ok-digits.digits.now c.in_ok-digits.after.now c.in_ok-digits.ensures.value c.in_ok-sender.sender.now c.in_ok-sender.last.now c.in_ok-sender.ensures.value
    c.in_ok-message.message.now c.in_ok-message.end.now c.in_ok-message.ensures.value (eqb-false _ _ (sym c.is_empty.ensures ∙ c.if-not-is_empty.true))

pub returns-then-message-clause-none : goal.returns-then-message-clause-none
returns-then-message-clause-none c =
    too_long c.args.text.now c.in_ok-digits.digits.now c.in_ok-digits.after.now c.in_ok-digits.ensures.value c.in_ok-sender.sender.now c.in_ok-sender.last.now c.in_ok-sender.ensures.value
    c.in_ok-message.message.now c.in_ok-message.end.now c.in_ok-message.ensures.value c.if-message.true

pub returns-clause-some : goal.returns-clause-some
returns-clause-some c =
    held_read c.args.text.now c.in_ok-digits.digits.now c.in_ok-digits.after.now c.in_ok-digits.ensures.value c.in_ok-sender.sender.now c.in_ok-sender.last.now c.in_ok-sender.ensures.value
    c.in_ok-message.message.now c.in_ok-message.end.now c.in_ok-message.ensures.value c.in_ok-moment.moment c.in_ok-moment.ensures (c.is_canonical.ensures.0 c.if-not-is_canonical.false)
    (eqb-true _ _ (sym c.is_empty.ensures ∙ c.if-not-is_empty.false)) (let a = c.if-message.false in omega (arith, a))

use Rattle.std.proofs.Common.{[], ◌∷◌}
use Rattle.ml_base.specs.Dir.{with_puts}
use Rattle.ml_acts.proofs.Damages.{ok_then}
use Rattle.ml_acts.proofs.Queued.{mailed}
use Rattle.ml_queue.specs.declared.entries.Out.{Out}
use Rattle.ml_acts.proofs.mails.mail_to.Goals as goal

pub returns-clause-value : goal.returns-clause-value
returns-clause-value g c told =
    ok_then c.send.result
    (λ txn value dir p alike is same. mailed (with_puts dir txn) c.args.config.now c.in_ok-way.way c.in_ok-body.body c.in_ok-to.to (c.args.to.now ∷ []) p c.args.mail c.args.now.seconds c.in_ok-way.ensures c.in_ok-body.ensures c.in_ok-to.ensures.value same (value dir p alike is))
    (c.send.ensures.value told)

pub returns-clause-found : goal.returns-clause-found
returns-clause-found g c told =
    let out : Out = record { path = c.in_ok-way.way; body = c.in_ok-body.body; to = c.in_ok-to.to } in
    ok_then c.send.result (λ txn queued. record { out = out; queued = queued }) (c.send.ensures.found told)

pub returns-clause-apart : goal.returns-clause-apart
returns-clause-apart g c told =
    ok_then c.send.result
    (λ txn apart dir p alike is same. mailed (with_puts dir txn) c.args.config.now c.in_ok-way.way c.in_ok-body.body c.in_ok-to.to (c.args.to.now ∷ []) p c.args.mail c.args.now.seconds c.in_ok-way.ensures c.in_ok-body.ensures c.in_ok-to.ensures.value same (apart dir p alike is))
    (c.send.ensures.apart told)

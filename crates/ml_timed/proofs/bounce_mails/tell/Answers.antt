use Rattle.std.proofs.Common.{◌∙◌}
use Rattle.ml_base.specs.Dir.{with_puts}
use Rattle.ml_acts.proofs.Damages.{ok_then}
use Rattle.ml_timed.proofs.Changed.{told}
use Rattle.ml_timed.proofs.bounce_mails.tell.Goals as goal

pub returns-clause-apart : goal.returns-clause-apart
returns-clause-apart g c tells =
    ok_then c.send.result
    (λ txn value dir p there is config keys.
    told (with_puts dir txn) c.args.config.now c.args.kind.now c.args.set c.args.who.now c.args.now.seconds c.args.mail p c.in_ok-way.way c.as_slice.result.now c.in_ok-body.body c.in_ok-to.to (c.in_ok-way.ensures p config keys) (c.as_slice.ensures ∙ c.in_ok-key.ensures.key) c.in_ok-body.ensures c.in_ok-to.ensures.value config
    (value dir p there is))
    (c.send.ensures.apart tells)

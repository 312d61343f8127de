use Rattle.std.proofs.Common.{◌∷◌, [], List, sym, subst}
use Rattle.ml_address.specs.declared.Path.{Path}
use Rattle.ml_base.specs.Bytes.{Text}
use Rattle.ml_base.specs.Dir.{with_puts}
use Rattle.ml_config.specs.declared.configuration.Config.{Config}
use Rattle.ml_plain.specs.Directory.{IsList}
use Rattle.ml_plain.specs.Mailing.{reply_path, send}
use Rattle.ml_queue.specs.declared.entries.Out.{Out}
use Rattle.ml_manage.proofs.help_and_owner.to_owner.Goals as goal

pub returns-clause-found : goal.returns-clause-found
returns-clause-found g c told =
    let out : Out = record { path = c.in_ok-way.way; body = c.in_ok-body.body; to = c.in_ok-to.to } in
    record { queued = record { out = out; queued = c.in_ok-txn.ensures.found told }; is = c.plain.ensures }

pub returns-clause-apart : goal.returns-clause-apart
returns-clause-apart g c told dir p alike is same =
    let now = with_puts dir c.in_ok-txn.txn in
    let conf = c.args.config.now in
    let sent = c.in_ok-txn.ensures.apart told dir p alike is in
    let one = subst (λ (w : Path). IsList now (send w c.in_ok-body.body c.in_ok-to.to p)) c.in_ok-way.ensures sent in
    let two = subst (λ (t : Text). IsList now (send (reply_path conf) t c.in_ok-to.to p)) c.in_ok-body.ensures one in
    let three = subst (λ (ts : List Text). IsList now (send (reply_path conf) c.args.message.now ts p)) c.in_ok-to.ensures.value two in
    record {
      reply = c.plain.ensures;
      list = subst (λ (k : Config). IsList now (send (reply_path k) c.args.message.now (k.owner ∷ []) p)) (sym same) three;
    }

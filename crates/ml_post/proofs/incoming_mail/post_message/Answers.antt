use Rattle.std.specs.Prelude.{◌+◌}
use Rattle.ml_post.proofs.Outcomes.{posts}
use Rattle.ml_post.proofs.incoming_mail.post_message.Goals as goal

pub returns-clause-found : goal.returns-clause-found
returns-clause-found g c told = record { number = (c.args.count + 1); appended = c.in_ok-txn.ensures.found told; reply = c.posted.ensures }

pub returns-clause-apart : goal.returns-clause-apart
returns-clause-apart g c told dir p alike is same =
    posts dir p c.args.now.seconds c.args.sender.now c.args.message.now (c.args.count + 1) c.in_ok-txn.txn c.posted.result (c.in_ok-txn.ensures.apart told dir p alike is same) c.posted.ensures

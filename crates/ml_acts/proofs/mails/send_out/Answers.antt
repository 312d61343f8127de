use Rattle.ml_acts.proofs.Queued.{drawn_up, queue_own, sent}
use Rattle.ml_acts.proofs.Apart.{queued_apart}
use Rattle.ml_acts.proofs.mails.send_out.Goals as goal

pub returns-clause-value : goal.returns-clause-value
returns-clause-value g c told dir p alike is =
    sent (g.F.Files.map c.args.files.now) dir c.args.out.now c.in_ok-txn.txn p c.in_ok-txn.ensures.others (λ queue stands. (c.in_ok-txn.ensures.value told queue stands).1) alike is

pub returns-clause-own : goal.returns-clause-own
returns-clause-own g c = queue_own c.in_ok-txn.txn c.in_ok-txn.ensures.others

pub returns-clause-drawn : goal.returns-clause-drawn
returns-clause-drawn g c told = drawn_up (g.F.Files.map c.args.files.now) c.args.out.now _ c.in_ok-txn.txn c.in_ok-txn.ensures.entry (c.requires.room told) (c.in_ok-txn.ensures.read told)

pub returns-clause-found : goal.returns-clause-found
returns-clause-found g c told = (_, c.in_ok-txn.ensures.read told)

pub returns-clause-apart : goal.returns-clause-apart
returns-clause-apart g c told dir p same is =
    queued_apart (g.F.Files.map c.args.files.now) dir c.args.out.now c.in_ok-txn.txn p c.in_ok-txn.ensures.entry same (_, c.in_ok-txn.ensures.read told) is

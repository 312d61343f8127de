use Rattle.ml_filing.specs.Threads.{is_of_archive}
use Rattle.ml_acts.specs.Doing.{is_of_posting}
use Rattle.ml_acts.proofs.Queued.{own_joined, queue_posting}
use Rattle.ml_post.proofs.Posts.{archive_posting, mailed_apart}
use Rattle.ml_post.proofs.publication.with_mail.Goals as goal

pub returns-clause-own : goal.returns-clause-own
returns-clause-own g c = own_joined is_of_archive is_of_posting c.args.txn c.in_ok-mail.mail c.join.new.self archive_posting queue_posting c.requires.own c.in_ok-mail.ensures.own c.in_ok-join.ensures.ok

pub returns-clause-found : goal.returns-clause-found
returns-clause-found g c told = record { mail = c.in_ok-mail.mail; is = c.in_ok-join.ensures.ok; queued = c.in_ok-mail.ensures.found told }

pub returns-clause-apart : goal.returns-clause-apart
returns-clause-apart g c told dir p alike is same =
    mailed_apart (g.F.Files.map c.args.files.now) dir p c.args.config.now c.args.number c.args.text c.args.txn c.in_ok-mail.mail c.join.new.self alike c.requires.own same c.in_ok-join.ensures.ok
    (c.in_ok-mail.ensures.apart told) is

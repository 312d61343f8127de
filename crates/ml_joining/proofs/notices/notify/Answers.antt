use Rattle.std.proofs.Common.{subst, refl, rules}
use Rattle.ml_plain.specs.Mailing.{mail_to}
use Rattle.ml_plain.specs.declared.Reply.{Reply}
use Rattle.ml_reply.specs.declared.mails.Mail.{Mail}
use Rattle.ml_acts.specs.Doing.{DoesList}
use Rattle.ml_acts.proofs.Damages.{ok_then}
use Rattle.ml_joining.specs.Notices.{notice_mail, notice_reply}
use Rattle.ml_joining.proofs.Finding.{sends}
use Rattle.ml_joining.proofs.notices.notify.Goals as goal

pub returns-clause-found : goal.returns-clause-found
returns-clause-found g c told =
    let dir = g.F.Files.map c.args.files.now in
    sends c.with_mail.result dir dir c.args.txn c.args.txn c.notice_reply.result (notice_reply c.args.notice) refl refl c.notice_reply.ensures.value (c.with_mail.ensures.found told) c.with_mail.ensures.reply

pub returns-clause-act : goal.returns-clause-act
returns-clause-act g c may queue own =
    let mailed = c.with_mail.ensures in
    record { own = mailed.within may queue own; files = mailed.files; reply = search rules; names = mailed.names; reads = mailed.reads }

pub returns-clause-apart : goal.returns-clause-apart
returns-clause-apart g c told =
    let to = c.args.to.now in
    let now = c.args.now.seconds in
    ok_then c.with_mail.result
    (λ done does dir p same is e.
    subst (λ (r : Reply). DoesList dir done (mail_to to now (notice_mail c.args.notice to c.args.set c.args.x.now) p, r)) c.notice_reply.ensures.value
    (subst (λ (m : Mail). DoesList dir done (mail_to to now m p, c.notice_reply.result)) c.in_ok-mail.ensures (does dir p same is e)))
    (c.with_mail.ensures.apart told)

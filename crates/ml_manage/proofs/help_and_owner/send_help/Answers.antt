use Rattle.std.proofs.Common.{ap, rules, [], refl, ◌∙◌}
use Rattle.ml_base.specs.Dir.{touches_only}
use Rattle.ml_acts.specs.Doing.{is_of_queue}
use Rattle.ml_joining.proofs.Finding.{sends}
use Rattle.ml_plain.specs.Answers as answers
use Rattle.ml_acts.proofs.Damages.{ok_then}
use Rattle.ml_manage.proofs.Apart.{sent_so}
use Rattle.ml_reply.specs.declared.mails.Mail.TheVariants.{Help}
use Rattle.ml_manage.proofs.help_and_owner.send_help.Goals as goal

pub returns-clause-act : goal.returns-clause-act
returns-clause-act g c =
    let own = c.with_mail.ensures.within is_of_queue (λ name e. e) (ap (touches_only is_of_queue) c.new.ensures) in
    search rules

pub returns-clause-found : goal.returns-clause-found
returns-clause-found g c told =
    let dir = g.F.Files.map c.args.files.now in
    sends c.with_mail.result dir dir [] c.new.result c.plain-reply.result answers.help refl c.new.ensures c.plain-reply.ensures (c.with_mail.ensures.found told) c.with_mail.ensures.reply

pub returns-clause-apart : goal.returns-clause-apart
returns-clause-apart g c told =
    ok_then c.with_mail.result
    (λ done does dir p same is conf. sent_so dir p done c.new.result c.args.sender.now c.args.now.seconds c.new.ensures (ap Help (c.in_ok-from_slice.ensures ∙ c.bytes.ensures.value)) c.plain-reply.ensures is (λ under. does dir p same under conf))
    (c.with_mail.ensures.apart told)

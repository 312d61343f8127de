use Rattle.std.proofs.Common.{◌≡◌, rules, refl, ap, ap₂, ◌∙◌, []}
use Rattle.std.proofs.lemmas.Bool.{or_right, or_left}
use Rattle.ml_base.specs.Bytes.{Text}
use Rattle.ml_base.specs.Dir.{Dir, touches_only}
use Rattle.ml_config.specs.KeyFile.{key_name}
use Rattle.ml_plain.specs.Answers.{asked}
use Rattle.ml_plain.specs.Mailing as spec
use Rattle.ml_plain.specs.declared.Reply.{Reply}
use Rattle.ml_reply.specs.declared.mails.Mail.{Mail}
use Rattle.ml_acts.specs.Doing.{Alike, is_of_queue}
use Rattle.ml_acts.proofs.OfActs.{act_kept}
use Rattle.ml_queue.specs.Answers.{ids_name}
use Rattle.ml_joining.specs.Reads.{is_for_mail}
use Rattle.ml_joining.proofs.Apart.{keys_apart, one_kept, told_apart}
use Rattle.ml_joining.proofs.Finding.{sends}
use Rattle.ml_acts.proofs.Damages.{ok_then}
use Rattle.ml_plain.specs.Answers as answers
use Rattle.ml_joining.proofs.confirmation_mails.ask.Goals as goal

pub returns-clause-apart : goal.returns-clause-apart
returns-clause-apart g c told =
    let old = g.F.Files.map c.args.files.now in
    let new = g.F.Files.map c.key.new.files in
    let to = c.args.to.now in
    let x = c.args.x.now in
    let same = g.met.F.Files.kept_map c.args.files.now c.key.new.files told c.key.ensures.reads.kept in
    told_apart c.with_mail.result c.args.config.now (λ (dir : Dir). dir ids_name ≡ new ids_name) (λ (dir : Dir). Alike is_for_mail old dir) (λ dir alike. one_kept is_for_mail ids_name old new dir same refl alike)
    (λ p. (spec.mail_to to c.args.now.seconds c.in_ok-mail.mail p, c.plain-reply.result)) (λ p. (spec.ask to c.args.now.seconds c.args.word c.args.set x p, asked)) c.new.result c.new.ensures
    (λ dir p alike is e. ap₂ (λ (m : Mail) (r : Reply). (spec.mail_to to c.args.now.seconds m p, r))
    (◌∙◌ {b = spec.question c.args.word to c.in_ok-reply.reply c.args.set x} c.in_ok-mail.ensures (ap (λ (a : Text). spec.question c.args.word to a c.args.set x) (c.in_ok-reply.ensures p e (keys_apart old dir c.in_ok-keys.keys p (alike key_name refl) (c.in_ok-keys.ensures.value told) is))))
    c.plain-reply.ensures)
    (c.with_mail.ensures.apart told)

pub returns-clause-act : goal.returns-clause-act
returns-clause-act g c =
    let mailed = c.with_mail.ensures in
    act_kept g.met.F.Files.kept_then g.met.F.Files.kept_map c.key.ensures.reads
    (record { own = mailed.within is_of_queue (λ name e. e) (ap (touches_only is_of_queue) c.new.ensures); files = mailed.files; reply = search rules; names = mailed.names; reads = mailed.reads })
    (λ name e. search (rules, or_left, or_right))

pub returns-clause-found : goal.returns-clause-found
returns-clause-found g c told =
    let old = g.F.Files.map c.args.files.now in
    let same = g.met.F.Files.kept_map c.args.files.now c.key.new.files told c.key.ensures.reads.kept in
    ok_then c.with_mail.result (λ done sent. record { keys = (c.in_ok-keys.keys, c.in_ok-keys.ensures.value told); sent = sent })
    (sends c.with_mail.result old (g.F.Files.map c.key.new.files) [] c.new.result c.plain-reply.result answers.asked same c.new.ensures c.plain-reply.ensures (c.with_mail.ensures.found told) c.with_mail.ensures.reply)

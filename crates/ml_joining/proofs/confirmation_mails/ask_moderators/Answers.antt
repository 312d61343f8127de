use Rattle.std.proofs.Common.{◌||◌, Bool, refl, sym, ap, ap₂, ◌∙◌, rules, []}
use Rattle.ml_address.specs.declared.Word.TheVariants as words
use Rattle.ml_base.specs.Bytes.{Text}
use Rattle.ml_base.specs.Dir.{Dir, touches_only}
use Rattle.ml_base.specs.declared.names.Name.{Name}
use Rattle.ml_config.specs.KeyFile.{key_name}
use Rattle.ml_config.specs.declared.configuration.Config.{Config}
use Rattle.ml_plain.specs.Answers.{asked}
use Rattle.ml_plain.specs.Mailing as spec
use Rattle.ml_plain.specs.declared.Reply.{Reply}
use Rattle.ml_reply.specs.declared.mails.Mail.{Mail}
use Rattle.ml_reply.specs.declared.mails.Mail.TheVariants.{AskTc}
use Rattle.ml_acts.specs.Doing.{Alike, is_bucket, is_mailed_by, is_of_queue}
use Rattle.ml_acts.proofs.OfActs.{act_kept}
use Rattle.ml_joining.specs.Reads.{is_for_mail}
use Rattle.ml_joining.proofs.Apart.{alike_kept, keys_apart, told_apart}
use Rattle.ml_joining.proofs.Ways.{mailed_to_ask}
use Rattle.ml_joining.proofs.Finding.{sends_to_set}
use Rattle.ml_acts.proofs.Damages.{ok_then}
use Rattle.ml_plain.specs.Answers as answers
use Rattle.ml_base.specs.declared.names.Set.TheVariants as sets
use Rattle.ml_joining.proofs.confirmation_mails.ask_moderators.Goals as goal

-- the files that are read
abbrev is_read : Name → Bool
is_read name = is_for_mail name || is_bucket sets.Moderators name

pub returns-clause-apart : goal.returns-clause-apart
returns-clause-apart g c told =
    let old = g.F.Files.map c.args.files.now in
    let new = g.F.Files.map c.key.new.files in
    let x = c.args.x.now in
    let same = g.met.F.Files.kept_map c.args.files.now c.key.new.files told c.key.ensures.reads.kept in
    told_apart c.with_mail_to_moderators.result c.args.config.now (λ (dir : Dir). Alike (is_mailed_by sets.Moderators) new dir) (λ (dir : Dir). Alike is_read old dir)
    (λ dir alike. alike_kept (is_mailed_by sets.Moderators) is_read old new dir same mailed_to_ask alike)
    (λ p. (spec.mail_moderators c.args.now.seconds c.in_ok-mail.mail p, c.plain-reply.result)) (λ p. (spec.ask_moderators c.args.now.seconds c.args.set x p, asked)) c.new.result c.new.ensures
    (λ dir p alike is e. ap₂ (λ (m : Mail) (r : Reply). (spec.mail_moderators c.args.now.seconds m p, r))
    (◌∙◌ {b = AskTc (spec.owner_address c.args.config.now) c.in_ok-reply.reply c.args.set x} c.in_ok-mail.ensures
    (◌∙◌ {b = AskTc (spec.owner_address c.args.config.now) (spec.confirm_address p words.Tc c.args.set x c.args.now.seconds) c.args.set x}
    (ap (λ (a : Text). AskTc (spec.owner_address c.args.config.now) a c.args.set x) (c.in_ok-reply.ensures p e (keys_apart old dir c.in_ok-keys.keys p (alike key_name refl) (c.in_ok-keys.ensures.value told) is)))
    (ap (λ (d : Config). AskTc (spec.owner_address d) (spec.confirm_address p words.Tc c.args.set x c.args.now.seconds) c.args.set x) (sym e))))
    c.plain-reply.ensures)
    (c.with_mail_to_moderators.ensures.apart told)

pub returns-clause-act : goal.returns-clause-act
returns-clause-act g c =
    let mailed = c.with_mail_to_moderators.ensures in
    act_kept g.met.F.Files.kept_then g.met.F.Files.kept_map c.key.ensures.reads
    (record { own = mailed.within is_of_queue (λ name e. e) (ap (touches_only is_of_queue) c.new.ensures); files = mailed.files; reply = search rules; names = mailed.names; reads = mailed.reads }) mailed_to_ask

pub returns-clause-found : goal.returns-clause-found
returns-clause-found g c told =
    let old = g.F.Files.map c.args.files.now in
    let same = g.met.F.Files.kept_map c.args.files.now c.key.new.files told c.key.ensures.reads.kept in
    ok_then c.with_mail_to_moderators.result (λ done sent. record { keys = (c.in_ok-keys.keys, c.in_ok-keys.ensures.value told); sent = sent })
    (sends_to_set sets.Moderators c.with_mail_to_moderators.result old (g.F.Files.map c.key.new.files) [] c.new.result c.plain-reply.result answers.asked same c.new.ensures c.plain-reply.ensures (c.with_mail_to_moderators.ensures.found told) c.with_mail_to_moderators.ensures.reply)

use Rattle.std.proofs.Common.{◌≡◌, true, refl, ap, ◌∙◌, subst, rules, sym, IfErr}
use Rattle.std.proofs.lemmas.Bool.{or_left, or_right}
use Rattle.ml_base.specs.Dir.{Dir, same_name}
use Rattle.ml_reply.specs.declared.mails.Mail.{Mail}
use Rattle.ml_plain.specs.declared.Reply.{Reply}
use Rattle.ml_plain.specs.Answers as answers
use Rattle.ml_plain.specs.Mailing.{mail_to}
use Rattle.ml_plain.specs.Plain.{Plain}
use Rattle.ml_hold.specs.Answers.{Breaks}
use Rattle.ml_hold.specs.Held.{without_ticket}
use Rattle.ml_queue.specs.Answers.{ids_name}
use Rattle.ml_acts.specs.Asked.{IsDamagedOf, Next}
use Rattle.ml_acts.specs.Damaged.{waiting, IsDamaged}
use Rattle.ml_acts.specs.Doing.{DoesList, is_of_posting}
use Rattle.ml_acts.proofs.Asked.{ids_other, named_as}
use Rattle.ml_post.specs.Answering.{is_rejected_by, is_taken_by}
use Rattle.ml_post.specs.Publishing.{sent_key}
use Rattle.ml_plain.specs.KeptFiles.{may_be_kept}
use Rattle.ml_post.proofs.Beside.{taken_other}
use Rattle.ml_acts.proofs.Damages.{ok_then}
use Rattle.ml_acts.proofs.OfActs.{act_after}
use Rattle.ml_acts.proofs.Queued.{queue_posting}
use Rattle.ml_post.proofs.Waiting.{held_beside_queue, held_posted}
use Rattle.ml_base.proofs.DamagedNames.{ok_both, err_both_damaged}
use Rattle.ml_acts.specs.Found.{AddsMail}
use Rattle.ml_post.specs.Deciding.{FoundToReject}
use Rattle.ml_base.specs.PartErrors.{OnDamaged}
use Rattle.ml_base.specs.declared.names.Name.{Name}
use Rattle.ml_base.proofs.Bools.{one_name}
use Rattle.ml_acts.proofs.Spared.{ids_spared}
use Rattle.ml_post.proofs.moderator_answers.reject_held.Goals as goal

pub with_mail-requires-clause-others : goal.with_mail-requires-clause-others
with_mail-requires-clause-others g c = held_beside_queue c.in_ok-txn.txn c.in_ok-txn.ensures.own

pub returns-in_err-txn-clause-act : goal.returns-in_err-txn-clause-act
returns-in_err-txn-clause-act g c =
    let dir = g.F.Files.map c.args.files.now in
    let ticket = c.args.ticket in
    let asked = Next (sent_key c.args.config.now c.args.held.now.message) in
    let names = named_as g.F.Files (λ name. is_rejected_by ticket name ≡ true) _ dir dir (λ name. is_taken_by ticket name ≡ true) Breaks (IsDamagedOf dir asked) (λ told. refl)
    (λ name e. or_left (is_taken_by ticket name) (same_name name ids_name) e) (λ name e bad. record { damaged = waiting bad; own = λ of. absurd (taken_other name ticket e of) }) c.in_err-txn.ensures.names in
    search rules

pub returns-clause-act : goal.returns-clause-act
returns-clause-act g c =
    let mailed = c.with_mail.ensures in
    let reply = ok_then c.with_mail.result (λ done e. ap may_be_kept (e ∙ c.plain-reply.ensures)) mailed.reply in
    act_after g.F.Files IsDamaged g.met.F.Files.kept_then g.met.F.Files.kept_map c.take_held.ensures.reads (record { own = mailed.within is_of_posting queue_posting (held_posted c.in_ok-txn.txn c.in_ok-txn.ensures.own); files = mailed.files; reply = reply; names = mailed.names; reads = mailed.reads })
    (λ name e. or_right (is_taken_by c.args.ticket name) (same_name name ids_name) e) (λ told name e bad. record { damaged = bad; own = λ of. absurd (ids_other name e of) })

pub returns-clause-found : goal.returns-clause-found
returns-clause-found g c told =
    let dir = g.F.Files.map c.args.files.now in
    let txn = c.in_ok-txn.txn in
    let kept = g.met.F.Files.kept_map c.args.files.now c.take_held.new.files told c.take_held.ensures.reads.kept in
    ok_both c.with_mail.result (λ done. AddsMail (g.F.Files.map c.take_held.new.files) txn done.0) (λ done. done.1 ≡ c.plain-reply.result) (FoundToReject dir c.args.ticket)
    (λ done sent reply. record { taken = txn; is = c.in_ok-txn.ensures.found told; sent = subst (λ (d : Dir). AddsMail d txn done.0) kept sent; reply = reply ∙ c.plain-reply.ensures }) (c.with_mail.ensures.found told) c.with_mail.ensures.reply

pub returns-clause-apart : goal.returns-clause-apart
returns-clause-apart g c told =
    let held = c.args.held.now in
    let kept = g.met.F.Files.kept_map c.args.files.now c.take_held.new.files told c.take_held.ensures.reads.kept in
    ok_then c.with_mail.result (λ done does dir p alike is same found.
    let after : Plain = record p { held = without_ticket c.args.ticket p.held } in
    subst (λ (m : Mail). DoesList dir done (mail_to held.sender c.args.now.seconds m after, answers.rejected)) c.in_ok-mail.ensures
    (subst (λ (r : Reply). DoesList dir done (mail_to held.sender c.args.now.seconds c.in_ok-mail.mail after, r)) c.plain-reply.ensures
    (does dir after (alike.1 ∙ sym (ap (λ (d : Dir). d ids_name) kept)) (c.in_ok-txn.ensures.apart told dir p held alike.0 is found) same))) (c.with_mail.ensures.apart told)

pub returns-in_err-txn-clause-spared : goal.returns-in_err-txn-clause-spared
returns-in_err-txn-clause-spared g c told dir p alike is =
    let none : OnDamaged c.in_err-txn.field-0.0 (λ _. ⊥) = c.in_err-txn.ensures.spared told dir p alike.0 is in
    search rules

pub returns-clause-spared : goal.returns-clause-spared
returns-clause-spared g c told dir p alike is =
    let old = g.F.Files.map c.args.files.now in
    let kept = g.met.F.Files.kept_map c.args.files.now c.take_held.new.files told c.take_held.ensures.reads.kept in
    let names = c.with_mail.ensures.names in
    err_both_damaged c.with_mail.result (λ name. same_name name ids_name ≡ true) (IsDamaged old) (λ _. ⊥)
    (λ name looked bad. ids_spared old dir p is name looked (subst (λ (n : Name). dir n ≡ old n) (sym (one_name name ids_name looked)) alike.1) bad) names.named
    (subst (λ (d : Dir). IfErr c.with_mail.result (λ e. OnDamaged e (IsDamaged d))) kept (names.damaged told))

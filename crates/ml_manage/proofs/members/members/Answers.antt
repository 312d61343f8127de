use Rattle.std.proofs.Common.{◌∙◌, true, ap, sym, subst, rules, false, [], List}
use Rattle.std.specs.Prelude.{◌&&◌}
use Rattle.std.proofs.lemmas.Bool.{or_left, or_right}
use Rattle.ml_base.specs.Dir.{Dir, touches_only}
use Rattle.ml_plain.specs.Plain.{is_moderator}
use Rattle.ml_plain.specs.KeptFiles.{may_be_kept}
use Rattle.ml_acts.specs.Doing.{HasIds, is_of_queue, is_bucket}
use Rattle.ml_acts.proofs.Damages.{ok_then}
use Rattle.ml_acts.proofs.OfActs.{act_kept}
use Rattle.ml_manage.proofs.Sending.{listed, unlisted}
use Rattle.ml_base.specs.Address.{key}
use Rattle.ml_plain.specs.Answers as answers
use Rattle.ml_base.specs.Bytes.{Text}
use Rattle.ml_acts.specs.Found.{SpellsAddresses}
use Rattle.ml_joining.proofs.Finding.{sends}
use Rattle.ml_manage.specs.Found.{TellsLister}
use Rattle.ml_manage.proofs.Finding.{lister_by}
use Rattle.ml_manage.proofs.Apart.{kept_alike, kept_same, lister_apart, members_all, members_ids, members_rank, sent_so}
use Rattle.ml_queue.specs.Answers.{ids_name}
use Rattle.ml_manage.proofs.members.members.Goals as goal

pub with_mail-requires-clause-room : goal.with_mail-requires-clause-room
with_mail-requires-clause-room g c told =
    let first = g.met.F.Files.kept_map c.args.files.now c.is_moderator_if.new.files told c.is_moderator_if.ensures.reads.kept in
    let all = g.met.F.Files.kept_map c.is_moderator_if.new.files c.members_mail.new.files told c.members_mail.ensures.reads.kept ∙ first in
    subst (λ (d : Dir). HasIds d) (sym all) (c.requires.room told)

pub returns-clause-act : goal.returns-clause-act
returns-clause-act g c =
    let mailed = c.with_mail.ensures in
    let own = mailed.within is_of_queue (λ name e. e) (ap (touches_only is_of_queue) c.new-2.ensures) in
    let reply = ok_then c.with_mail.result (λ done e. ap may_be_kept (e ∙ c.plain-reply.ensures)) mailed.reply in
    act_kept g.met.F.Files.kept_then g.met.F.Files.kept_map c.is_moderator_if.ensures.reads
    (act_kept g.met.F.Files.kept_then g.met.F.Files.kept_map c.members_mail.ensures.reads (record { own = own; files = mailed.files; reply = reply; names = mailed.names; reads = mailed.reads }) (λ name e. e))
    (λ name e. search (rules, or_left, or_right))

pub returns-then-not-branch-clause-found : goal.returns-then-not-branch-clause-found
returns-then-not-branch-clause-found g c told = record {
  may = false;
  tells = subst (TellsLister (g.F.Files.map c.args.files.now) c.args.config.now (key c.args.sender.now)) c.if-not-branch.true (lister_by (g.F.Files.map c.args.files.now) c.args.config.now (key c.args.sender.now) c.in_ok-is_moderator_if.field-0 (c.in_ok-is_moderator_if.ensures.found told) c.in_ok-is_moderator_if.ensures.unasked);
  follows = record { puts = c.new.ensures; is = c.plain.ensures };
}

pub returns-clause-found : goal.returns-clause-found
returns-clause-found g c told =
    let old = g.F.Files.map c.args.files.now in
    let conf = c.args.config.now in
    let k = key c.args.sender.now in
    let first = g.met.F.Files.kept_map c.args.files.now c.is_moderator_if.new.files told c.is_moderator_if.ensures.reads.kept in
    let all = g.met.F.Files.kept_map c.is_moderator_if.new.files c.members_mail.new.files told c.members_mail.ensures.reads.kept ∙ first in
    let may = subst (TellsLister old conf k) c.if-not-branch.false (lister_by old conf k c.in_ok-is_moderator_if.field-0 (c.in_ok-is_moderator_if.ensures.found told) c.in_ok-is_moderator_if.ensures.unasked) in
    let read = subst (λ (d : Dir). (to : List Text) × SpellsAddresses d c.args.set to) first (c.in_ok-mail.ensures.found told) in
    ok_then c.with_mail.result (λ done sent. record { may = true; tells = may; follows = (read, sent) })
    (sends c.with_mail.result old (g.F.Files.map c.members_mail.new.files) [] c.new-2.result c.plain-reply.result answers.members all c.new-2.ensures c.plain-reply.ensures (c.with_mail.ensures.found told) c.with_mail.ensures.reply)

pub returns-then-not-branch-clause-apart : goal.returns-then-not-branch-clause-apart
returns-then-not-branch-clause-apart g c told dir p alike is same =
    let old = g.F.Files.map c.args.files.now in
    let sender = c.args.sender.now in
    unlisted dir p c.args.now.seconds sender (c.new.result, c.plain.result) (p.config.flags.l && is_moderator p sender) c.args.set is
    (sym (lister_apart c.args.config.now sender p c.in_ok-is_moderator_if.field-0 same (c.in_ok-is_moderator_if.ensures.apart told dir p (members_rank old dir c.args.config.now sender c.args.set alike) is)) ∙ c.if-not-branch.true) c.new.ensures c.plain.ensures

pub returns-clause-apart : goal.returns-clause-apart
returns-clause-apart g c told =
    let old = g.F.Files.map c.args.files.now in
    let middle = g.F.Files.map c.is_moderator_if.new.files in
    let sender = c.args.sender.now in
    let conf = c.args.config.now in
    let set = c.args.set in
    let first = g.met.F.Files.kept_map c.args.files.now c.is_moderator_if.new.files told c.is_moderator_if.ensures.reads.kept in
    let all = g.met.F.Files.kept_map c.is_moderator_if.new.files c.members_mail.new.files told c.members_mail.ensures.reads.kept ∙ first in
    ok_then c.with_mail.result
    (λ done does dir p alike is same. listed dir p c.args.now.seconds sender done (p.config.flags.l && is_moderator p sender) set
    (sym (lister_apart conf sender p c.in_ok-is_moderator_if.field-0 same (c.in_ok-is_moderator_if.ensures.apart told dir p (members_rank old dir conf sender set alike) is)) ∙ c.if-not-branch.false)
    (sent_so dir p done c.new-2.result sender c.args.now.seconds c.new-2.ensures
    (c.in_ok-mail.ensures.apart told dir p (kept_alike (is_bucket set) old middle dir first (members_all old dir conf sender set alike)) is) c.plain-reply.ensures is
    (λ under. does dir p (kept_same ids_name old (g.F.Files.map c.members_mail.new.files) dir all (members_ids old dir conf sender set alike)) under same)))
    (c.with_mail.ensures.apart told)

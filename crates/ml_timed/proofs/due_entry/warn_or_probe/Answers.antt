use Rattle.std.proofs.Common.{◌≡◌, true, refl, sym, ap, ◌∙◌, subst, rules}
use Rattle.ml_base.specs.Bytes.{Text}
use Rattle.ml_base.specs.Dir.{Dir, with_puts}
use Rattle.ml_bounce.specs.Answers.{action_key}
use Rattle.ml_queue.specs.Answers.{ids_name}
use Rattle.ml_reply.specs.declared.mails.Mail.{Mail}
use Rattle.ml_plain.specs.Directory.{IsList}
use Rattle.ml_plain.specs.Mailing.{bounce_mail}
use Rattle.ml_plain.specs.Plain.{Plain}
use Rattle.ml_plain.specs.Timing.{change_entry}
use Rattle.ml_acts.specs.Damaged.{IsDamaged}
use Rattle.ml_acts.specs.Doing.{DrawsId, is_entry_of}
use Rattle.ml_acts.proofs.Apart.{alike_fewer}
use Rattle.ml_acts.proofs.Damages.{bucket_named, ok_then}
use Rattle.ml_timed.specs.Reads.{is_followed_by}
use Rattle.ml_timed.specs.Telling.{cookie_kind}
use Rattle.ml_timed.proofs.Apart.{alike_kept, member_there}
use Rattle.ml_timed.proofs.Changed.{changed_by, informed_none, informed_some}
use Rattle.ml_timed.proofs.Named.{bucket_followed, entry_followed, ids_followed}
use Rattle.ml_timed.proofs.Joined.{both_kept, names_after, names_err, one_kept, reads_then}
use Rattle.ml_timed.proofs.due_entry.warn_or_probe.Goals as goal

pub returns-in_err-member-clause-names : goal.returns-in_err-member-clause-names
returns-in_err-member-clause-names g c =
    let names = bucket_named g.F.Files (λ name. is_followed_by c.args.set name ≡ true) _ (g.F.Files.map c.args.files.now) c.args.set c.args.to.now (bucket_followed c.args.set c.args.to.now) c.in_err-member.ensures.names in
    search rules

pub returns-in_default-clause-apart : goal.returns-in_default-clause-apart
returns-in_default-clause-apart g c tells =
    let old = g.F.Files.map c.args.files.now in
    let set = c.args.set in
    let to = c.args.to.now in
    let same = g.met.F.Files.kept_map c.args.files.now c.find.new.files tells c.find.ensures.reads.kept in
    ok_then c.drop_entry.result
    (λ txn value dir p e alike is config keys found act.
    subst (λ (q : Plain). IsList (with_puts dir txn) q)
    (sym (informed_none dir p set e c.requires.ledger is found c.args.now.seconds c.args.action.now to act c.requires.mailed c.requires.to (sym c.in_default.is ∙ member_there old dir set to _ p alike is (c.in_ok-member.ensures.read tells))))
    (value dir p (alike_kept (is_entry_of set to) old (g.F.Files.map c.find.new.files) dir same (alike_fewer (is_entry_of set to) (is_followed_by set) old dir (entry_followed set to) alike)) is))
    (c.drop_entry.ensures.apart tells)

pub returns-in_err-txn-clause-names : goal.returns-in_err-txn-clause-names
returns-in_err-txn-clause-names g c =
    names_err (names_after IsDamaged g.met.F.Files.kept_map (one_kept c.find.ensures.reads) (ids_followed c.args.set) (λ told name e bad. bad) c.in_err-txn.ensures.names) (search rules)

pub returns-in_err-txn-clause-reads : goal.returns-in_err-txn-clause-reads
returns-in_err-txn-clause-reads g c =
    let read = reads_then g.met.F.Files.kept_then c.find.ensures.reads c.tell.ensures.reads in
    search rules

pub returns-clause-apart : goal.returns-clause-apart
returns-clause-apart g c tells =
    let old = g.F.Files.map c.args.files.now in
    let set = c.args.set in
    let found_same = g.met.F.Files.kept_map c.args.files.now c.find.new.files tells c.find.ensures.reads.kept in
    let told_same = g.met.F.Files.kept_map c.find.new.files c.tell.new.files tells c.tell.ensures.reads.kept in
    let who = c.in-Some.member.who in
    let action = c.args.action.now in
    let kind = cookie_kind action in
    ok_then c.add_entry_change.result
    (λ done value dir p e alike is config keys found act.
    changed_by dir set c.args.now.seconds action kind who c.in_ok-mail.mail c.in_ok-txn.txn done c.requires.ledger
    (λ q f. value dir q f (alike_kept (is_entry_of set (action_key action)) old (g.F.Files.map c.tell.new.files) dir (told_same ∙ found_same) (alike_fewer (is_entry_of set (action_key action)) (is_followed_by set) old dir (entry_followed set (action_key action)) alike)))
    p e is found act
    (subst (λ (k : Text). IsList (with_puts dir c.in_ok-txn.txn) (bounce_mail k set who c.args.now.seconds c.in_ok-mail.mail p)) c.cookie_kind.ensures
    (c.in_ok-txn.ensures.apart tells dir p (alike ids_name (ids_followed set ids_name refl) ∙ sym (ap (λ (d : Dir). d ids_name) found_same)) is config keys))
    (informed_some dir p set e c.requires.ledger is found c.args.now.seconds action c.args.to.now c.in-Some.member act c.requires.mailed c.requires.to (sym c.in-Some.is ∙ member_there old dir set c.args.to.now _ p alike is (c.in_ok-member.ensures.read tells))
    ∙ ap (λ (mail : Mail). change_entry c.args.now.seconds set e (bounce_mail kind set who c.args.now.seconds mail p)) (sym c.in_ok-mail.ensures)))
    (c.add_entry_change.ensures.apart tells)

pub returns-clause-drawn : goal.returns-clause-drawn
returns-clause-drawn g c tells =
    let same = g.met.F.Files.kept_map c.args.files.now c.find.new.files tells c.find.ensures.reads.kept in
    let after = g.met.F.Files.kept_map c.find.new.files c.tell.new.files tells c.tell.ensures.reads.kept in
    ok_then c.add_entry_change.result (λ done draws. subst (λ (d : Dir). DrawsId d done) (after ∙ same) draws)
    (c.add_entry_change.ensures.drawn tells (subst (λ (d : Dir). DrawsId d c.in_ok-txn.txn) (sym after) (c.in_ok-txn.ensures.drawn tells)))

pub returns-clause-names : goal.returns-clause-names
returns-clause-names g c =
    names_after IsDamaged g.met.F.Files.kept_map (both_kept g.met.F.Files.kept_then c.find.ensures.reads c.tell.ensures.reads) (entry_followed c.args.set (action_key c.args.action.now)) (λ told name e bad. bad) c.add_entry_change.ensures.names

pub returns-clause-reads : goal.returns-clause-reads
returns-clause-reads g c = reads_then g.met.F.Files.kept_then c.find.ensures.reads (reads_then g.met.F.Files.kept_then c.tell.ensures.reads c.add_entry_change.ensures.reads)

pub returns-in_default-clause-reads : goal.returns-in_default-clause-reads
returns-in_default-clause-reads g c = reads_then g.met.F.Files.kept_then c.find.ensures.reads c.drop_entry.ensures.reads

pub returns-in_default-clause-names : goal.returns-in_default-clause-names
returns-in_default-clause-names g c =
    names_after IsDamaged g.met.F.Files.kept_map (one_kept c.find.ensures.reads) (entry_followed c.args.set c.args.to.now) (λ told name e bad. bad) c.drop_entry.ensures.names

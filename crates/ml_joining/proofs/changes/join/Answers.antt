use Rattle.std.proofs.Common.{◌≡◌, true, false, refl, sym, ◌∙◌, subst, rules}
use Rattle.ml_base.specs.Dir.{same_name}
use Rattle.ml_base.specs.Address.{key}
use Rattle.ml_plain.specs.Answers as answers
use Rattle.ml_plain.specs.Plain.{added}
use Rattle.ml_acts.specs.Doing.{DoesList}
use Rattle.ml_acts.proofs.Damages.{ok_then}
use Rattle.ml_acts.proofs.Left.{touched_own}
use Rattle.ml_acts.proofs.SetsApart.{added_there}
use Rattle.ml_queue.specs.Answers.{ids_name}
use Rattle.ml_subs.specs.Answers.{IsAddition}
use Rattle.ml_joining.proofs.Apart.{one_kept}
use Rattle.ml_joining.proofs.Spared.{ids_alone, named_added, read_alone}
use Rattle.ml_joining.proofs.Ways.{adding_touched, ids_to_add}
use Rattle.ml_joining.specs.Reads.{is_touched_with_mail}
use Rattle.ml_joining.proofs.Does.{added_list, has_none, has_room, only_reply}
use Rattle.ml_acts.proofs.Found.{found_then}
use Rattle.ml_subs.specs.declared.set_changes.AddAnswer.TheVariants.{Added, Already, Full}
use Rattle.ml_joining.specs.Found.{FoundToAdd, FoundToJoin, SendsMail}
use Rattle.ml_joining.proofs.Finding.{found_to_add}
use Rattle.ml_joining.specs.Written.{is_written_to_join}
use Rattle.ml_joining.proofs.Written.{queue_to_join, touched_to_join}
use Rattle.ml_joining.proofs.changes.join.Goals as goal

pub notify-requires-clause-others : goal.notify-requires-clause-others
notify-requires-clause-others g c = touched_own c.args.set (key c.args.who.now) c.in-Added.txn (rw c.in-Added.is at c.in_ok-txn.ensures.others)

pub returns-in-Added-clause-apart : goal.returns-in-Added-clause-apart
returns-in-Added-clause-apart g c told =
    let old = g.F.Files.map c.args.files.now in
    let set = c.args.set in
    let who = c.args.who.now in
    let now = c.args.now.seconds in
    let txn = c.in-Added.txn in
    let same = g.met.F.Files.kept_map c.args.files.now c.add.new.files told c.add.ensures.reads.kept in
    let read = c.in_ok-txn.ensures.read told in
    let only = rw c.in-Added.is at c.in_ok-txn.ensures.others in
    ok_then c.notify.result
    (λ done does dir p alike is e fresh.
    let added_by = subst (IsAddition dir set (p.sets set) (record { who = who; since = now })) c.in-Added.is
    (added_there old dir set (record { who = who; since = now }) _ read.0 (p.sets set) (adding_touched set who old dir alike) c.bytes-address.ensures.address (search rules) read.1 read.2 (is.sets set)) in
    subst (λ s. DoesList dir done s) (sym (has_room dir p set who now is txn added_by))
    (does dir (added set who now p) (one_kept (is_touched_with_mail set who) ids_name old (g.F.Files.map c.add.new.files) dir same (ids_to_add set who ids_name refl) alike) (added_list dir p set who now is txn added_by only) e))
    (c.notify.ensures.apart told)

pub returns-in-Already-clause-apart : goal.returns-in-Already-clause-apart
returns-in-Already-clause-apart g c told dir p alike is e fresh =
    let old = g.F.Files.map c.args.files.now in
    let set = c.args.set in
    let who = c.args.who.now in
    let now = c.args.now.seconds in
    let read = c.in_ok-txn.ensures.read told in
    let there = subst (IsAddition dir set (p.sets set) (record { who = who; since = now })) c.in-Already.is
    (added_there old dir set (record { who = who; since = now }) _ read.0 (p.sets set) (adding_touched set who old dir alike) c.bytes-address.ensures.address (search rules) read.1 read.2 (is.sets set)) in
    absurd (let bad : true ≡ false = sym there ∙ fresh in cc)

pub returns-in-Full-clause-apart : goal.returns-in-Full-clause-apart
returns-in-Full-clause-apart g c told dir p alike is e fresh =
    let old = g.F.Files.map c.args.files.now in
    let set = c.args.set in
    let who = c.args.who.now in
    let now = c.args.now.seconds in
    let read = c.in_ok-txn.ensures.read told in
    let full = subst (IsAddition dir set (p.sets set) (record { who = who; since = now })) c.in-Full.is
    (added_there old dir set (record { who = who; since = now }) _ read.0 (p.sets set) (adding_touched set who old dir alike) c.bytes-address.ensures.address (search rules) read.1 read.2 (is.sets set)) in
    subst (λ s. DoesList dir (c.new-in-Full.result, c.plain-in-Full.result) s) (sym (has_none dir p set who now is full)) (only_reply dir p c.new-in-Full.result c.plain-in-Full.result answers.full c.new-in-Full.ensures c.plain-in-Full.ensures is)

pub returns-in_err-txn-clause-act : goal.returns-in_err-txn-clause-act
returns-in_err-txn-clause-act g c =
    let names = named_added g.F.Files _ (g.F.Files.map c.args.files.now) c.args.set c.args.who.now c.in_err-txn.ensures.names in
    search rules

pub returns-in-Added-clause-act : goal.returns-in-Added-clause-act
returns-in-Added-clause-act g c =
    let set = c.args.set in
    let who = c.args.who.now in
    let only = rw c.in-Added.is at c.in_ok-txn.ensures.others in
    read_alone (λ name. same_name name ids_name) (is_touched_with_mail set who) g.met.F.Files.kept_then g.met.F.Files.kept_map c.add.ensures.reads ids_alone (ids_to_add set who)
    (c.notify.ensures.act (is_written_to_join set who) (queue_to_join set who) (touched_to_join set who c.in-Added.txn only))

pub returns-in-Added-clause-found : goal.returns-in-Added-clause-found
returns-in-Added-clause-found g c told =
    let old = g.F.Files.map c.args.files.now in
    let set = c.args.set in
    let who = c.args.who.now in
    let same = g.met.F.Files.kept_map c.args.files.now c.add.new.files told c.add.ensures.reads.kept in
    let found = subst (FoundToAdd old set (key who)) c.in-Added.is (found_to_add old set who c.args.now.seconds _ (c.in_ok-txn.ensures.read told)) in
    found_then c.notify.result old (g.F.Files.map c.add.new.files) (λ d. SendsMail d c.in-Added.txn answers.subscribed) (FoundToJoin old set (key who)) same
    (λ done is. record { answer = Added c.in-Added.txn; found = found; joined = is }) (c.notify.ensures.found told)

pub returns-in-Already-clause-found : goal.returns-in-Already-clause-found
returns-in-Already-clause-found g c told =
    let old = g.F.Files.map c.args.files.now in
    let who = c.args.who.now in
    record {
      answer = Already;
      found = subst (FoundToAdd old c.args.set (key who)) c.in-Already.is (found_to_add old c.args.set who c.args.now.seconds _ (c.in_ok-txn.ensures.read told));
      joined = record { puts = c.new.ensures; is = c.plain.ensures };
    }

pub returns-in-Full-clause-found : goal.returns-in-Full-clause-found
returns-in-Full-clause-found g c told =
    let old = g.F.Files.map c.args.files.now in
    let who = c.args.who.now in
    record {
      answer = Full;
      found = subst (FoundToAdd old c.args.set (key who)) c.in-Full.is (found_to_add old c.args.set who c.args.now.seconds _ (c.in_ok-txn.ensures.read told));
      joined = record { puts = c.new-in-Full.ensures; is = c.plain-in-Full.ensures };
    }

use Rattle.std.proofs.Common.{◌≡◌, true, false, refl, sym, ◌∙◌, Some, None, subst, List, Option, rules}
use Rattle.ml_base.specs.Dir.{same_name, touches_only}
use Rattle.ml_base.specs.declared.puts.Put.{Put}
use Rattle.ml_subs.specs.Answers.{puts_if}
use Rattle.ml_plain.specs.Plain.{removed}
use Rattle.ml_acts.proofs.Damages.{ok_then}
use Rattle.ml_acts.specs.Doing.{RemovesMember, is_changed_for, is_left_by}
use Rattle.ml_acts.proofs.Left.{left_changed_for, queue_changed_for, removed_config}
use Rattle.ml_queue.specs.Answers.{ids_name}
use Rattle.ml_joining.specs.Reads.{is_read_to_leave}
use Rattle.ml_joining.proofs.Apart.{one_kept}
use Rattle.ml_joining.proofs.Spared.{ids_alone, named_removed, read_alone}
use Rattle.ml_joining.proofs.Ways.{ids_for_mail, left_to_leave, mail_to_leave}
use Rattle.ml_joining.proofs.Asked.{who_key}
use Rattle.ml_joining.proofs.Does.{same_removed}
use Rattle.ml_acts.proofs.Found.{found_then}
use Rattle.ml_base.specs.Address.{key}
use Rattle.ml_plain.specs.Answers as answers
use Rattle.ml_acts.specs.Found.{FoundToLeave}
use Rattle.ml_joining.specs.Found.{FoundToPart, SendsMail}
use Rattle.ml_joining.proofs.changes.leave.Goals as goal

pub returns-in-Some-clause-apart : goal.returns-in-Some-clause-apart
returns-in-Some-clause-apart g c told =
    let old = g.F.Files.map c.args.files.now in
    let set = c.args.set in
    let x = c.args.x.now in
    let same = g.met.F.Files.kept_map c.args.files.now c.remove_member.new.files told c.remove_member.ensures.reads.kept in
    ok_then c.notify.result
    (λ done does dir p alike is e about member.
    let there = subst (RemovesMember dir set x.named p) c.in-Some.is (c.in_ok-txn.ensures.apart told dir p (λ name l. alike name (left_to_leave set x.named name l)) is) in
    let gone = rw (← same_removed set x.who x.named p (who_key p set x about)) at there.1 in
    does dir (removed set x.who p) (one_kept (is_read_to_leave set x.named) ids_name old (g.F.Files.map c.remove_member.new.files) dir same (mail_to_leave set x.named ids_name refl) alike) gone (removed_config set x.who p ∙ e))
    (c.notify.ensures.apart told)

pub returns-in-None-clause-apart : goal.returns-in-None-clause-apart
returns-in-None-clause-apart g c told dir p alike is e about member =
    let set = c.args.set in
    let x = c.args.x.now in
    let none = subst (RemovesMember dir set x.named p) c.in-None.is (c.in_ok-txn.ensures.apart told dir p (λ name l. alike name (left_to_leave set x.named name l)) is) in
    absurd (let bad : true ≡ false = sym member ∙ about.member ∙ none in cc)

pub returns-in-Some-clause-found : goal.returns-in-Some-clause-found
returns-in-Some-clause-found g c told =
    let old = g.F.Files.map c.args.files.now in
    let set = c.args.set in
    let k = key c.args.x.now.named in
    let same = g.met.F.Files.kept_map c.args.files.now c.remove_member.new.files told c.remove_member.ensures.reads.kept in
    let found = subst (FoundToLeave old set k) c.in-Some.is (c.in_ok-txn.ensures.found told) in
    found_then c.notify.result old (g.F.Files.map c.remove_member.new.files) (λ d. SendsMail d c.in-Some.txn answers.unsubscribed) (FoundToPart old set k) same
    (λ done is. record { answer = Some c.in-Some.txn; found = found; left = is }) (c.notify.ensures.found told)

pub returns-in-None-clause-found : goal.returns-in-None-clause-found
returns-in-None-clause-found g c told = record {
  answer = None;
  found = subst (FoundToLeave (g.F.Files.map c.args.files.now) c.args.set (key c.args.x.now.named)) c.in-None.is (c.in_ok-txn.ensures.found told);
  left = record { puts = c.new.ensures; is = c.plain.ensures };
}

pub returns-in-Some-clause-act : goal.returns-in-Some-clause-act
returns-in-Some-clause-act g c =
    let set = c.args.set in
    let who = c.args.x.now.named in
    let left = subst (λ (o : Option (List Put)). touches_only (is_left_by set who) (puts_if o) ≡ true) c.in-Some.is c.in_ok-txn.ensures.left in
    read_alone (λ name. same_name name ids_name) (is_read_to_leave set who) g.met.F.Files.kept_then g.met.F.Files.kept_map c.remove_member.ensures.reads ids_alone (λ name e. mail_to_leave set who name (ids_for_mail name e))
    (c.notify.ensures.act (is_changed_for set who) (queue_changed_for set who) (left_changed_for set who c.in-Some.txn left))

pub returns-in_err-txn-clause-act : goal.returns-in_err-txn-clause-act
returns-in_err-txn-clause-act g c =
    let names = named_removed g.F.Files _ (g.F.Files.map c.args.files.now) c.args.set c.args.x.now.named c.in_err-txn.ensures.spared c.in_err-txn.ensures.names in
    search rules

use Rattle.std.proofs.Common.{◌≡◌, true, List, Option, refl, subst, rules, Some, None}
use Rattle.ml_base.specs.Dir.{touches_only}
use Rattle.ml_base.specs.declared.puts.Put.{Put}
use Rattle.ml_subs.specs.Answers.{puts_if}
use Rattle.ml_plain.specs.declared.Act.TheVariants.{Remove}
use Rattle.ml_base.specs.Address.{key}
use Rattle.ml_acts.specs.Doing.{RemovesMember, is_beside_queue, is_beside_mark, is_left_by}
use Rattle.ml_acts.proofs.Queued.{touches_weaker, beside_mail}
use Rattle.ml_list.specs.Damage.{is_read_by}
use Rattle.ml_list.proofs.Damages.{part_named}
use Rattle.ml_list.proofs.Lists.{removed_list, removed_nobody}
use Rattle.ml_base.specs.PartErrors.{OnDamaged}
use Rattle.ml_acts.specs.Found.{FoundToLeave}
use Rattle.ml_list.proofs.operator_acts.remove_member.Goals as goal

pub returns-in_err-txn-clause-act : goal.returns-in_err-txn-clause-act
returns-in_err-txn-clause-act g c =
    let names = part_named g.F.Files (λ name. is_read_by (Remove c.args.set c.args.who.now) name ≡ true) _ (g.F.Files.map c.args.files.now) c.in_err-txn.ensures.names in
    search rules

pub returns-in-Some-clause-value : goal.returns-in-Some-clause-value
returns-in-Some-clause-value g c told dir p alike is =
    let set = c.args.set in
    let who = c.args.who.now in
    removed_list dir p set who c.in-Some.txn (c.in-Some.txn, c.plain.result) (subst (λ (o : Option (List Put)). RemovesMember dir set who p o) c.in-Some.is (c.in_ok-txn.ensures.apart told dir p alike is)) refl c.plain.ensures

pub returns-in-None-clause-value : goal.returns-in-None-clause-value
returns-in-None-clause-value g c told dir p alike is =
    let set = c.args.set in
    let who = c.args.who.now in
    let none = subst (λ (o : Option (List Put)). RemovesMember dir set who p o) c.in-None.is (c.in_ok-txn.ensures.apart told dir p alike is) in
    removed_nobody dir p set who (c.new.result, c.plain-in-None.result) is none c.new.ensures c.plain-in-None.ensures

pub returns-in_err-txn-clause-sound : goal.returns-in_err-txn-clause-sound
returns-in_err-txn-clause-sound g c told dir p alike is =
    let none : OnDamaged c.in_err-txn.field-0.0 (λ _. ⊥) = c.in_err-txn.ensures.spared told dir p alike is in
    search rules

pub returns-in-Some-clause-act : goal.returns-in-Some-clause-act
returns-in-Some-clause-act g c =
    let own = touches_weaker is_beside_queue is_beside_mark c.in-Some.txn beside_mail (subst (λ (o : Option (List Put)). touches_only is_beside_queue (puts_if o) ≡ true) c.in-Some.is c.in_ok-txn.ensures.own) in
    search rules

pub returns-in-Some-clause-written : goal.returns-in-Some-clause-written
returns-in-Some-clause-written g c = subst (λ (o : Option (List Put)). touches_only (is_left_by c.args.set c.args.who.now) (puts_if o) ≡ true) c.in-Some.is c.in_ok-txn.ensures.left

pub returns-in-Some-clause-found : goal.returns-in-Some-clause-found
returns-in-Some-clause-found g c told = record {
  answer = Some c.in-Some.txn;
  found = subst (FoundToLeave (g.F.Files.map c.args.files.now) c.args.set (key c.args.who.now)) c.in-Some.is (c.in_ok-txn.ensures.found told);
  puts = refl;
  reply = c.plain.ensures;
}

pub returns-in-None-clause-found : goal.returns-in-None-clause-found
returns-in-None-clause-found g c told = record {
  answer = None;
  found = subst (FoundToLeave (g.F.Files.map c.args.files.now) c.args.set (key c.args.who.now)) c.in-None.is (c.in_ok-txn.ensures.found told);
  puts = c.new.ensures;
  reply = c.plain-in-None.ensures;
}

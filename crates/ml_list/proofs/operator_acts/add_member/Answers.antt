use Rattle.std.proofs.Common.{◌≡◌, ◌∙◌, false, true, ap, rules}
use Rattle.ml_base.specs.Address.{key}
use Rattle.ml_base.specs.Dir.{touches_only}
use Rattle.ml_base.specs.PartErrors.{OnDamaged}
use Rattle.ml_base.proofs.DamagedNames.{on_damaged}
use Rattle.ml_subs.specs.Subscribers.{IsUnread, is_touched}
use Rattle.ml_acts.proofs.Damages.{change_named}
use Rattle.ml_list.proofs.Damages.{part_named}
use Rattle.ml_subs.proofs.Answering.{unread}
use Rattle.ml_list.proofs.Lists.{added_list, touched_puts}
use Rattle.ml_acts.proofs.SetsApart.{added_there, unread_there}
use Rattle.ml_list.specs.Damage.{is_read_by}
use Rattle.ml_plain.specs.declared.Act.TheVariants.{Add}
use Rattle.ml_joining.proofs.Finding.{found_to_add}
use Rattle.ml_list.proofs.operator_acts.add_member.Goals as goal

pub returns-in_err-answer-clause-act : goal.returns-in_err-answer-clause-act
returns-in_err-answer-clause-act g c =
    let dir = g.F.Files.map c.args.files.now in
    let k = key c.args.who.now in
    let names = part_named g.F.Files (λ name. is_read_by (Add c.args.set c.args.who.now) name ≡ true) _ dir
    (change_named g.F.Files (λ name. is_read_by (Add c.args.set c.args.who.now) name ≡ true) _ dir c.args.set k false (λ name e. e) c.in_err-answer.ensures.names) in
    search rules

pub returns-clause-value : goal.returns-clause-value
returns-clause-value g c told dir p alike is =
    let old = g.F.Files.map c.args.files.now in
    let set = c.args.set in
    let read = c.in_ok-answer.ensures.read told in
    let added = added_there old dir set (record { who = c.args.who.now; since = c.args.now }) c.in_ok-answer.answer read.0 (p.sets set) alike c.bytes-address.ensures.address c.requires read.1 read.2 (is.sets set) in
    added_list dir p set c.args.who.now c.args.now c.in_ok-answer.answer c.addition.result is added c.in_ok-answer.ensures.others c.addition.ensures.puts c.addition.ensures.reply

pub returns-in_err-answer-clause-sound : goal.returns-in_err-answer-clause-sound
returns-in_err-answer-clause-sound g c told dir p alike is =
    let set = c.args.set in
    let old = g.F.Files.map c.args.files.now in
    let k = key c.args.who.now in
    let e = c.in_err-answer.field-0.0 in
    let none : OnDamaged e (λ _. ⊥) = on_damaged e (IsUnread old set k false) (λ _. ⊥) (λ name bad. unread dir set k false name (p.sets set) (unread_there old dir set k alike false name bad) (is.sets set)) (c.in_err-answer.ensures.names.damaged told) in
    search rules

pub returns-clause-act : goal.returns-clause-act
returns-clause-act g c =
    let own = touched_puts c.args.set (key c.args.who.now) _ c.addition.result.0 c.in_ok-answer.ensures.others c.addition.ensures.puts in
    search rules

pub returns-clause-written : goal.returns-clause-written
returns-clause-written g c = ap (touches_only (is_touched c.args.set (key c.args.who.now))) c.addition.ensures.puts ∙ c.in_ok-answer.ensures.others

pub returns-clause-found : goal.returns-clause-found
returns-clause-found g c told = record {
  answer = c.in_ok-answer.answer;
  found = found_to_add (g.F.Files.map c.args.files.now) c.args.set c.args.who.now c.args.now c.in_ok-answer.answer (c.in_ok-answer.ensures.read told);
  puts = c.addition.ensures.puts;
  reply = c.addition.ensures.reply;
}

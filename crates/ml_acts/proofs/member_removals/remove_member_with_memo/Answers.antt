use Rattle.std.proofs.Common.{◌≡◌, ◌+◌, true, ◌||◌, List, Option, refl, sym, subst, arith, rules}
use Rattle.std.proofs.lemmas.Bool.{or_left}
use Rattle.ml_base.specs.Address.{key}
use Rattle.ml_base.specs.Dir.{Dir, touches_only}
use Rattle.ml_base.specs.declared.puts.Put.{Put}
use Rattle.ml_subs.specs.Answers.{IsRemoval, puts_if, RemovesBy}
use Rattle.ml_subs.specs.Subscribers.{is_touched, IsBucketOf, IsUnread}
use Rattle.ml_acts.specs.Doing.{Alike, is_entry_of}
use Rattle.ml_acts.proofs.Damages.{change_named}
use Rattle.ml_acts.proofs.Left.{removed_list}
use Rattle.ml_subs.specs.declared.member_list.Member.{Member}
use Rattle.ml_acts.specs.Found.{TellsEntry}
use Rattle.ml_base.specs.PartErrors.{OnDamaged}
use Rattle.ml_base.proofs.DamagedNames.{on_damaged}
use Rattle.ml_subs.proofs.Answering.{unread}
use Rattle.ml_acts.proofs.SetsApart.{left_entry, left_touched, removed_there, unread_there}
use Rattle.ml_acts.proofs.member_removals.remove_member_with_memo.Goals as goal

pub returns-in_err-txn-clause-names : goal.returns-in_err-txn-clause-names
returns-in_err-txn-clause-names g c =
    let who = c.args.who.now in
    let names = change_named g.F.Files (λ name. (is_touched c.args.set (key who) name || is_entry_of c.args.set who name) ≡ true) _ (g.F.Files.map c.args.files.now) c.args.set (key who) true
    (λ name e. or_left (is_touched c.args.set (key who) name) (is_entry_of c.args.set who name) e) c.in_err-txn.ensures.names in
    search rules

pub returns-clause-apart : goal.returns-clause-apart
returns-clause-apart g c told dir p alike is =
    let old = g.F.Files.map c.args.files.now in
    let set = c.args.set in
    let who = c.args.who.now in
    let read = c.in_ok-txn.ensures.read told in
    let removal = subst (λ (o : Option (List Put)). IsRemoval dir set (p.sets set) (key who) o) c.in-Some.is (removed_there old dir set (key who) _ read.0 (p.sets set) (left_touched set who old dir alike) read.1 read.2 (is.sets set)) in
    let only = subst (λ (o : Option (List Put)). touches_only (is_touched set (key who)) (puts_if o) ≡ true) c.in-Some.is c.in_ok-txn.ensures.others in
    let same = g.met.F.Files.kept_map c.args.files.now c.remove_with_memo.new.files told c.remove_with_memo.ensures.reads.kept in
    let entry = left_entry set who old dir alike in
    (removal.0, removed_list dir p set who c.in-Some.txn c.in_ok-forgotten.field-0 is removal.1 only (λ r now. c.in_ok-forgotten.ensures.value told dir r (subst (λ (d : Dir). Alike (is_entry_of set who) d dir) (sym same) entry) now))

pub returns-clause-value : goal.returns-clause-value
returns-clause-value g c told p is = returns-clause-apart g c told (g.F.Files.map c.args.files.now) p (λ name e. refl) is

pub returns-in_default-clause-apart : goal.returns-in_default-clause-apart
returns-in_default-clause-apart g c told dir p alike is =
    let old = g.F.Files.map c.args.files.now in
    let set = c.args.set in
    let who = c.args.who.now in
    let read = c.in_ok-txn.ensures.read told in
    subst (λ (o : Option (List Put)). IsRemoval dir set (p.sets set) (key who) o) c.in_default.is (removed_there old dir set (key who) _ read.0 (p.sets set) (left_touched set who old dir alike) read.1 read.2 (is.sets set))

pub returns-in_err-txn-clause-spared : goal.returns-in_err-txn-clause-spared
returns-in_err-txn-clause-spared g c told dir p alike is =
    let old = g.F.Files.map c.args.files.now in
    let set = c.args.set in
    let who = c.args.who.now in
    let e = c.in_err-txn.field-0.0 in
    let none : OnDamaged e (λ _. ⊥) = on_damaged e (IsUnread old set (key who) true) (λ _. ⊥)
    (λ name bad. unread dir set (key who) true name (p.sets set) (unread_there old dir set (key who) (left_touched set who old dir alike) true name bad) (is.sets set)) (c.in_err-txn.ensures.names.damaged told) in
    search rules

pub returns-in_err-forgotten-clause-spared : goal.returns-in_err-forgotten-clause-spared
returns-in_err-forgotten-clause-spared g c told dir p alike is =
    let old = g.F.Files.map c.args.files.now in
    let set = c.args.set in
    let who = c.args.who.now in
    let same = g.met.F.Files.kept_map c.args.files.now c.remove_with_memo.new.files told c.remove_with_memo.ensures.reads.kept in
    let none : OnDamaged c.in_err-forgotten.field-0.0 (λ _. ⊥) = c.in_err-forgotten.ensures.spared told dir p (subst (λ (d : Dir). Alike (is_entry_of set who) d dir) (sym same) (left_entry set who old dir alike)) is in
    search rules

pub returns-in_default-clause-found : goal.returns-in_default-clause-found
returns-in_default-clause-found g c told =
    let dir = g.F.Files.map c.args.files.now in
    let k = key c.args.who.now in
    let read = subst (λ (o : Option (List Put)). (ms : List Member) × IsBucketOf dir c.args.set k ms × RemovesBy dir c.args.set k o ms) c.in_default.is (c.in_ok-txn.ensures.read told) in
    (read.0, read.1, sym read.2)

pub returns-clause-found : goal.returns-clause-found
returns-clause-found g c told =
    let dir = g.F.Files.map c.args.files.now in
    let set = c.args.set in
    let k = key c.args.who.now in
    let read = subst (λ (o : Option (List Put)). (ms : List Member) × IsBucketOf dir set k ms × RemovesBy dir set k o ms) c.in-Some.is (c.in_ok-txn.ensures.read told) in
    let counted = read.2.1 in
    let few = counted.1 in
    let same = g.met.F.Files.kept_map c.args.files.now c.remove_with_memo.new.files told c.remove_with_memo.ensures.reads.kept in
    ((read.0, read.1, sym read.2.0), (counted.0 + 1, omega (arith, few), counted.2), subst (λ (d : Dir). TellsEntry d set k) same (c.in_ok-forgotten.ensures.found told))

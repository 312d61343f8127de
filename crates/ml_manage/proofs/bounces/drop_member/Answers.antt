use Rattle.std.proofs.Common.{◌≡◌, true, false, List, Option, sym, ◌∙◌, subst, rules}
use Rattle.ml_base.specs.Dir.{touches_only}
use Rattle.ml_base.specs.declared.puts.Put.{Put}
use Rattle.ml_subs.specs.Answers.{puts_if}
use Rattle.ml_acts.specs.Doing.{RemovesMember, is_left_by}
use Rattle.ml_base.specs.PartErrors.{OnDamaged}
use Rattle.ml_manage.proofs.bounces.drop_member.Goals as goal

pub returns-clause-act : goal.returns-clause-act
returns-clause-act g c =
    let own = subst (λ (o : Option (List Put)). touches_only (is_left_by c.args.set c.args.x.now) (puts_if o) ≡ true) c.in-Some.is c.in_ok-txn.ensures.left in
    search rules

pub returns-in_default-clause-found : goal.returns-in_default-clause-found
returns-in_default-clause-found g c told = record { answer = c.in_ok-txn.field-0; found = c.in_ok-txn.ensures.found told }

pub returns-clause-found : goal.returns-clause-found
returns-clause-found g c told = record { answer = c.in_ok-txn.field-0; found = c.in_ok-txn.ensures.found told }

pub returns-in_default-clause-apart : goal.returns-in_default-clause-apart
returns-in_default-clause-apart g c told dir p alike is member =
    let none = subst (λ (o : Option (List Put)). RemovesMember dir c.args.set c.args.x.now p o) c.in_default.is (c.in_ok-txn.ensures.apart told dir p alike is) in
    absurd (let bad : true ≡ false = sym member ∙ none in cc)

pub returns-clause-apart : goal.returns-clause-apart
returns-clause-apart g c told dir p alike is member =
    let left = subst (λ (o : Option (List Put)). RemovesMember dir c.args.set c.args.x.now p o) c.in-Some.is (c.in_ok-txn.ensures.apart told dir p alike is) in
    record { reply = c.plain-2.ensures; list = left.1 }

pub returns-in_err-txn-clause-spared : goal.returns-in_err-txn-clause-spared
returns-in_err-txn-clause-spared g c told dir p alike is =
    let none : OnDamaged c.in_err-txn.field-0.0 (λ _. ⊥) = c.in_err-txn.ensures.spared told dir p alike is in
    search rules

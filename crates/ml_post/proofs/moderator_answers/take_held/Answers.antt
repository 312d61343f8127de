use Rattle.ml_acts.proofs.Queued.{held_own}
use Rattle.ml_post.proofs.Decided.{take_apart}
use Rattle.std.proofs.Common.{◌≡◌, rules, subst, sym}
use Rattle.ml_base.specs.PartErrors.{OnDamaged}
use Rattle.ml_base.specs.declared.names.Name.{Name}
use Rattle.ml_base.proofs.DamagedNames.{on_both}
use Rattle.ml_hold.specs.Answers.{Breaks, tickets_name}
use Rattle.ml_post.proofs.Spared.{breaks_spared}
use Rattle.ml_post.proofs.moderator_answers.take_held.Goals as goal

pub returns-clause-own : goal.returns-clause-own
returns-clause-own g c = held_own c.in_ok-txn.txn c.in_ok-txn.ensures.others

pub returns-clause-apart : goal.returns-clause-apart
returns-clause-apart g c told dir p held alike is found =
    let txn = c.in_ok-txn.txn in
    take_apart c.args.ticket (g.F.Files.map c.args.files.now) dir alike p txn held (c.in_ok-txn.ensures.read told) (held_own txn c.in_ok-txn.ensures.others) is found

pub returns-in_err-txn-clause-spared : goal.returns-in_err-txn-clause-spared
returns-in_err-txn-clause-spared g c told dir p alike is =
    let e = c.in_err-txn.field-0.0 in
    let old = g.F.Files.map c.args.files.now in
    let names = c.in_err-txn.ensures.names in
    let none : OnDamaged e (λ _. ⊥) =
    on_both e (λ name. name ≡ tickets_name) (Breaks old) (λ _. ⊥) (λ name named bad. breaks_spared old dir p is name (subst (λ (n : Name). dir n ≡ old n) (sym named) alike.next) bad) names.named (names.damaged told) in
    search rules

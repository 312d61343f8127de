use Rattle.std.proofs.Common.{◌≡◌, true, false, sym, ◌∙◌, rules}
use Rattle.ml_base.specs.Address.{key}
use Rattle.ml_bounce.specs.Answers.{has_ledger}
use Rattle.ml_acts.proofs.Damages.{entry_named}
use Rattle.ml_acts.proofs.Left.{both_left, both_own, entry_forgotten, nothing_forgotten, touched_left, touched_own}
use Rattle.ml_base.specs.PartErrors.{OnDamaged}
use Rattle.ml_base.proofs.DamagedNames.{on_damaged}
use Rattle.ml_acts.proofs.SetsApart.{entry_spared, entry_there}
use Rattle.ml_acts.proofs.member_removals.forgotten.Goals as goal

pub returns-then-not-has_ledger-clause-value : goal.returns-then-not-has_ledger-clause-value
returns-then-not-has_ledger-clause-value g c told dir p alike is = nothing_forgotten _ c.args.set c.args.who.now p (sym c.has_ledger.ensures ∙ c.if-not-has_ledger.true) is

pub returns-then-not-has_ledger-clause-own : goal.returns-then-not-has_ledger-clause-own
returns-then-not-has_ledger-clause-own g c = touched_own c.args.set (key c.args.who.now) c.args.txn c.requires.touched

pub returns-then-not-has_ledger-clause-left : goal.returns-then-not-has_ledger-clause-left
returns-then-not-has_ledger-clause-left g c = touched_left c.args.set c.args.who.now c.args.txn c.requires.touched

pub returns-in_err-entry-clause-names : goal.returns-in_err-entry-clause-names
returns-in_err-entry-clause-names g c =
    let has : has_ledger c.args.set ≡ true = sym c.has_ledger.ensures ∙ c.if-not-has_ledger.false in
    let names = entry_named g.F.Files _ _ (g.F.Files.map c.args.files.now) c.args.set c.args.who.now has (λ name e. e) c.in_err-entry.ensures.names in
    search rules

pub returns-clause-value : goal.returns-clause-value
returns-clause-value g c told dir p alike is =
    let set = c.args.set in
    let who = c.args.who.now in
    let has : has_ledger set ≡ true = sym c.has_ledger.ensures ∙ c.if-not-has_ledger.false in
    let same = entry_there set who (g.F.Files.map c.args.files.now) dir has alike in
    entry_forgotten dir who p c.args.txn c.in_ok-entry.entry _ set has is c.requires.touched (λ now ledger e. c.in_ok-entry.ensures.value told now ledger (e ∙ same)) c.in_ok-entry.ensures.others c.in_ok-join.ensures.ok

pub returns-in_err-entry-clause-spared : goal.returns-in_err-entry-clause-spared
returns-in_err-entry-clause-spared g c told dir p alike is =
    let has : has_ledger c.args.set ≡ true = sym c.has_ledger.ensures ∙ c.if-not-has_ledger.false in
    let e = c.in_err-entry.field-0.0 in
    let none : OnDamaged e (λ _. ⊥) = on_damaged e _ (λ _. ⊥) (λ name bad. entry_spared c.args.set c.args.who.now (g.F.Files.map c.args.files.now) dir p has alike is bad) (c.in_err-entry.ensures.names.damaged told) in
    search rules

pub returns-clause-own : goal.returns-clause-own
returns-clause-own g c =
    let has : has_ledger c.args.set ≡ true = sym c.has_ledger.ensures ∙ c.if-not-has_ledger.false in
    both_own c.args.who.now c.args.txn c.in_ok-entry.entry _ c.args.set has c.requires.touched c.in_ok-entry.ensures.others c.in_ok-join.ensures.ok

pub returns-clause-left : goal.returns-clause-left
returns-clause-left g c =
    let has : has_ledger c.args.set ≡ true = sym c.has_ledger.ensures ∙ c.if-not-has_ledger.false in
    both_left c.args.who.now c.args.txn c.in_ok-entry.entry _ c.args.set has c.requires.touched c.in_ok-entry.ensures.others c.in_ok-join.ensures.ok

pub returns-then-not-has_ledger-clause-found : goal.returns-then-not-has_ledger-clause-found
returns-then-not-has_ledger-clause-found g c told has =
    let none : has_ledger c.args.set ≡ false = sym c.has_ledger.ensures ∙ c.if-not-has_ledger.true in
    let some : has_ledger c.args.set ≡ true = has in
    absurd (let no : true ≡ false = sym some ∙ none in cc)

pub returns-clause-found : goal.returns-clause-found
returns-clause-found g c told has =
    let bucket = c.in_ok-entry.ensures.read told in
    (bucket.0, bucket.1)

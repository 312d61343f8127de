use Rattle.std.proofs.Common.{◌≡◌, true, refl, sym, subst, rules, Bool, ap, ◌∙◌}
use Rattle.ml_base.specs.Dir.{same_name}
use Rattle.ml_base.specs.declared.names.Name.{Name}
use Rattle.ml_digest.specs.Due.{IsNoMark, mark_name}
use Rattle.ml_acts.specs.Asked.{Count, IsDamagedOf}
use Rattle.ml_acts.specs.Damaged.{mark}
use Rattle.ml_acts.proofs.Asked.{named_as, other_name}
use Rattle.ml_acts.proofs.Damages.{same_self}
use Rattle.ml_manage.proofs.Apart.{mark_apart}
use Rattle.ml_manage.proofs.Spared.{mark_spared}
use Rattle.ml_base.specs.PartErrors.{OnDamaged}
use Rattle.ml_base.proofs.DamagedNames.{on_damaged}
use Rattle.std.specs.Prelude.{◌&&◌, nat_le}
use Rattle.std.proofs.lemmas.Bool.{le-leb}
use Rattle.ml_digest.specs.declared.posts.Mark.{Mark}
use Rattle.ml_manage.proofs.bounces.is_issue.Goals as goal

pub returns-in_err-mark-clause-names : goal.returns-in_err-mark-clause-names
returns-in_err-mark-clause-names g c =
    let dir = g.F.Files.map c.args.files.now in
    let names = named_as g.F.Files (λ name. same_name name mark_name ≡ true) _ dir dir (λ name. name ≡ mark_name) (λ d _. IsNoMark d) (IsDamagedOf dir Count) (λ told. refl)
    (λ name e. subst (λ (a : Name). same_name a mark_name ≡ true) (sym e) (same_self mark_name)) (λ name e no. record { damaged = mark e no; own = λ of. absurd (other_name name mark_name refl e of) }) c.in_err-mark.ensures.names in
    search rules

pub returns-then-number-ge1-clause-found : goal.returns-then-number-ge1-clause-found
returns-then-number-ge1-clause-found g c told = (c.in_ok-mark.mark, c.in_ok-mark.ensures.value told)

pub returns-else-number-ge1-clause-found : goal.returns-else-number-ge1-clause-found
returns-else-number-ge1-clause-found g c told = (c.in_ok-mark.mark, c.in_ok-mark.ensures.value told)

pub returns-in_err-mark-clause-spared : goal.returns-in_err-mark-clause-spared
returns-in_err-mark-clause-spared g c told dir p same is =
    let old = g.F.Files.map c.args.files.now in
    let e = c.in_err-mark.field-0.0 in
    let none : OnDamaged e (λ _. ⊥) = on_damaged e (λ _. IsNoMark old) (λ _. ⊥) (λ name bad. mark_spared old dir p is same bad) (c.in_err-mark.ensures.names.damaged told) in
    search rules

pub returns-then-number-ge1-clause-apart : goal.returns-then-number-ge1-clause-apart
returns-then-number-ge1-clause-apart g c told dir p same is =
    let n = c.args.number in
    let mark = mark_apart (g.F.Files.map c.args.files.now) dir c.in_ok-mark.mark p same is (c.in_ok-mark.ensures.value told) in
    ap (λ (m : Mark). nat_le n m.issue) mark ∙ sym (ap (λ (t : Bool). t && nat_le n p.mark.issue) (le-leb 1 n c.if-number-ge1.true))

pub returns-else-number-ge1-clause-apart : goal.returns-else-number-ge1-clause-apart
returns-else-number-ge1-clause-apart g c told dir p same is = search rules

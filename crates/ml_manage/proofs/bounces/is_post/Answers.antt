use Rattle.std.proofs.Common.{◌≡◌, true, rules, Bool, ℕ, length, sym, ap, ◌∙◌}
use Rattle.ml_filing.specs.Archive.{number_name}
use Rattle.ml_base.specs.Dir.{same_name}
use Rattle.ml_acts.proofs.Asked.{count_named}
use Rattle.ml_acts.proofs.Damages.{same_self}
use Rattle.ml_manage.proofs.Apart.{count_apart}
use Rattle.std.specs.Prelude.{◌&&◌, nat_le}
use Rattle.std.proofs.lemmas.Bool.{le-leb}
use Rattle.ml_manage.proofs.bounces.is_post.Goals as goal

pub returns-in_err-count-clause-names : goal.returns-in_err-count-clause-names
returns-in_err-count-clause-names g c =
    let names = count_named g.F.Files (λ name. same_name name number_name ≡ true) _ (g.F.Files.map c.args.files.now) (same_self number_name) c.in_err-count.ensures.names in
    search rules

pub returns-then-number-ge1-clause-found : goal.returns-then-number-ge1-clause-found
returns-then-number-ge1-clause-found g c told = (c.in_ok-count.count, c.in_ok-count.ensures.read told)

pub returns-else-number-ge1-clause-found : goal.returns-else-number-ge1-clause-found
returns-else-number-ge1-clause-found g c told = (c.in_ok-count.count, c.in_ok-count.ensures.read told)

pub returns-then-number-ge1-clause-apart : goal.returns-then-number-ge1-clause-apart
returns-then-number-ge1-clause-apart g c told dir p same is =
    let n = c.args.number in
    let count = count_apart (g.F.Files.map c.args.files.now) dir c.in_ok-count.count p same is (c.in_ok-count.ensures.read told) in
    ap (λ (k : ℕ). nat_le n k) count ∙ sym (ap (λ (t : Bool). t && nat_le n (length p.posts)) (le-leb 1 n c.if-number-ge1.true))

pub returns-else-number-ge1-clause-apart : goal.returns-else-number-ge1-clause-apart
returns-else-number-ge1-clause-apart g c told dir p same is = search rules

use Rattle.std.proofs.Common.{◌≡◌, ◌+◌, ◌-◌, min, max, ℕ, List, IfOk, rules, subst, ap₂}
use Rattle.std.specs.List.{range_with_len}
use Rattle.ml_filing.proofs.ranges.asked_for.Goals as goal

pub returns : goal.returns
returns c =
    let first : c.max-first.result ≡ max c.args.a 1 = search rules in
    let size : c.min-size.result ≡ min 100 (min c.args.b c.args.count + 1 - max c.args.a 1) = search rules in
    subst (λ (ns : List ℕ). IfOk c.numbers_from.result (λ r. r ≡ ns)) (ap₂ (λ (x y : ℕ). range_with_len x y) first size) c.numbers_from.ensures

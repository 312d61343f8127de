use Rattle.std.proofs.Common.{◌∙◌, ◌-◌, ℕ, length, take, drop, get_or, refl}
use Rattle.std.specs.Ordering.{nat_cmp}
use Rattle.ml_base.proofs.SortedLaws.{numbers_total}
use Rattle.ml_keyed.proofs.Parsed.{sorted_turn}
use Rattle.ml_filing.proofs.Rows.{number_of}
use Rattle.ml_filing.proofs.numbers.are_rising.Goals as goal

pub loop-rest-preserved : goal.loop-rest-preserved
loop-rest-preserved c =
    let rest = c.loop-rest.rest.now in
    let first : ℕ = get_or rest 0 0 in
    sorted_turn nat_cmp numbers_total (λ (m : ℕ). m) rest (take (length rest - 1) (drop 1 rest)) first first c.is_below_first.result (number_of rest c.in-len1-up.len_at_least) refl c.is_below_first.ensures c.if-not-is_below_first.false
    ∙ c.loop-rest.invariant

use Rattle.std.proofs.Common.{◌≡◌, ℕ, length}
use Rattle.std.specs.Ordering.{nat_cmp}
use Rattle.ml_base.specs.Sorted.{is_sorted}
use Rattle.ml_filing.proofs.numbers.are_rising.Given as goal

abbrev pub invariant-loop-rest : goal.invariant-loop-rest
invariant-loop-rest l = is_sorted nat_cmp (λ (m : ℕ). m) l.rest ≡ is_sorted nat_cmp (λ (m : ℕ). m) l.fn.numbers

abbrev pub decreases-loop-rest : goal.decreases-loop-rest
decreases-loop-rest l = length l.rest

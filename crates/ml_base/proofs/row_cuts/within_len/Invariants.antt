use Rattle.std.proofs.Common.{◌≡◌, ◌≤◌, ◌+◌, ℕ, length}
use Rattle.ml_base.specs.Cuts.{within}
use Rattle.ml_base.proofs.row_cuts.within_len.Given as goal

abbrev pub invariant-loop-rest : goal.invariant-loop-rest
invariant-loop-rest l = record {
  few : l.taken + l.left ≡ l.fn.count;
  long : l.taken + length l.rest ≤ length l.fn.sizes;
  value : l.taken + length (within (λ (size : ℕ). size) l.left l.room l.rest) ≡ length (within (λ (size : ℕ). size) l.fn.count l.fn.room l.fn.sizes);
}

abbrev pub decreases-loop-rest : goal.decreases-loop-rest
decreases-loop-rest l = length l.rest

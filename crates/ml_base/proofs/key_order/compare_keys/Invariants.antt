use Rattle.std.proofs.Common.{◌≡◌, length}
use Rattle.ml_base.specs.Address.{key}
use Rattle.ml_base.specs.Sorted.{byte_cmp}
use Rattle.ml_base.proofs.key_order.compare_keys.Given as goal

abbrev pub invariant-loop-left : goal.invariant-loop-left
invariant-loop-left l = byte_cmp (key l.left) (key l.right) ≡ byte_cmp (key l.fn.a) (key l.fn.b)

abbrev pub decreases-loop-left : goal.decreases-loop-left
decreases-loop-left l = length l.left

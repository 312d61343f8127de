use Rattle.std.proofs.Common.{◌≡◌, ◌*◌, ◌≤◌, take, sum}
use Rattle.ml_digest.proofs.choice.total.Given as goal

abbrev pub invariant-loop-size : goal.invariant-loop-size
invariant-loop-size l = record {
  sum_is : l.total ≡ sum (take l.size-index l.sizes);
  small : l.total ≤ 4_294_967_296 * l.size-index;
}

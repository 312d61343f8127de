use Rattle.std.proofs.Common.{◌≡◌, ◌≤◌, drop, take, length}
use Rattle.ml_run.specs.Batches.{laid_all}
use Rattle.ml_run.proofs.laid_puts.laid.Given as goal

abbrev pub invariant-loop-at : goal.invariant-loop-at
invariant-loop-at l = record {
  size : length l.puts.items ≡ length l.fn.txn;
  within : l.kept ≤ l.at;
  so_far : laid_all (take l.kept l.puts.items) (drop l.at l.puts.items) ≡ laid_all (take l.front l.fn.txn) (drop l.front l.fn.txn);
}

use Rattle.std.proofs.Common.{◌≡◌, take}
use Rattle.ml_journal.proofs.store.copied_txn.Given as goal

abbrev pub invariant-loop-put : goal.invariant-loop-put
invariant-loop-put l = l.copy ≡ take l.put-index l.txn

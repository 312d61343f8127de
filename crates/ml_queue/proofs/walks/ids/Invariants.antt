use Rattle.std.proofs.Common.{◌≡◌, ◌++◌, ◌-◌, ◌≤◌, IsTrue}
use Rattle.ml_base.specs.ReadFiles.{AreKept}
use Rattle.ml_drawn.proofs.Drawings.{from_on}
use Rattle.ml_queue.specs.Queue as spec
use Rattle.ml_queue.specs.Queue.{Queue}
use Rattle.ml_queue.specs.Answers.{IsCountedQueue, ids_there}
use Rattle.ml_queue.proofs.Walked.{numbers}
use Rattle.ml_queue.proofs.walks.ids.Given as goal

abbrev pub invariant-loop-ids : goal.invariant-loop-ids
invariant-loop-ids g l = record {
  are_kept : AreKept g.F.Files l.fn.files l.files;
  up : l.counter.low ≤ l.from;
  within : l.from ≤ l.counter.next;
  value : IsTrue g.F.Files.tells → (queue : Queue) → IsCountedQueue (g.F.Files.map l.fn.files) queue → l.ids ++ numbers (from_on l.from queue.all) ≡ spec.ids queue;
  there : IsTrue g.F.Files.tells → l.ids ++ ids_there (g.F.Files.map l.fn.files) l.from l.counter.next ≡ ids_there (g.F.Files.map l.fn.files) l.counter.low l.counter.next;
}

abbrev pub decreases-loop-ids : goal.decreases-loop-ids
decreases-loop-ids g l = l.counter.next - l.from

use Rattle.std.proofs.Common.{◌≡◌, ◌+◌, length, ◌++◌, ◌-◌, ◌≤◌, IsTrue}
use Rattle.ml_base.specs.ReadFiles.{AreKept}
use Rattle.ml_hold.specs.Held.{Pending, older}
use Rattle.ml_hold.specs.Answers.{AreInGrammar, AreOld, IsCountedPending}
use Rattle.ml_hold.proofs.Aged.{rest}
use Rattle.ml_hold.proofs.walks.older.Given as goal

abbrev pub invariant-loop-room : goal.invariant-loop-room
invariant-loop-room g l = record {
  are_kept : AreKept g.F.Files l.fn.files l.files;
  up : l.counter.low ≤ l.from;
  within : l.from ≤ l.counter.next;
  size : length l.tickets + l.room ≡ l.max;
  looked : IsTrue g.F.Files.tells → AreInGrammar (g.F.Files.map l.fn.files) l.counter.low l.from;
  old : IsTrue g.F.Files.tells → AreOld (g.F.Files.map l.fn.files) l.now l.seconds l.counter.low l.from l.tickets;
  value : IsTrue g.F.Files.tells → (pending : Pending) → IsCountedPending (g.F.Files.map l.fn.files) pending → l.tickets ++ rest l.now l.seconds l.room l.from pending ≡ older l.now l.seconds l.max pending;
}

abbrev pub decreases-loop-room : goal.decreases-loop-room
decreases-loop-room g l = l.counter.next - l.from

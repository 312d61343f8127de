use Rattle.std.proofs.Common.{◌-◌, ◌≤◌, IsTrue}
use Rattle.ml_base.specs.ReadFiles.{AreKept}
use Rattle.ml_drawn.proofs.Walked.{AreRead}
use Rattle.ml_drawn.proofs.things.audit.Given as goal

abbrev pub invariant-loop-found : goal.invariant-loop-found
invariant-loop-found g l = record {
  are_kept : AreKept g.F.Files l.fn.files l.files;
  up : l.counter.low ≤ l.from;
  within : l.from ≤ l.counter.next;
  read : IsTrue g.F.Files.tells → AreRead g.T.Thing.is_thing g.T.Thing.spelling l.series (g.F.Files.map l.fn.files) l.counter.low l.from;
}

abbrev pub decreases-loop-found : goal.decreases-loop-found
decreases-loop-found g l = l.counter.next - l.from

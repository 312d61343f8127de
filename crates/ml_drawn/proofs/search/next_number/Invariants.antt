use Rattle.std.proofs.Common.{◌-◌, ◌≤◌, IsTrue}
use Rattle.ml_base.specs.ReadFiles.{AreKept}
use Rattle.ml_drawn.specs.Answers.{NoneThere}
use Rattle.ml_drawn.proofs.search.next_number.Given as goal

abbrev pub invariant-loop-number : goal.invariant-loop-number
invariant-loop-number g l = record {
  are_kept : AreKept g.F.Files l.fn.files l.files;
  onward : l.from ≤ l.number;
  none : IsTrue g.F.Files.tells → NoneThere (g.F.Files.map l.fn.files) l.series l.from l.number;
}

abbrev pub decreases-loop-number : goal.decreases-loop-number
decreases-loop-number g l = l.end - l.number

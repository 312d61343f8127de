use Rattle.std.specs.Bool.{IsTrue}
use Rattle.ml_base.specs.ReadFiles.{AreKept}
use Rattle.ml_bounce.specs.Changes.{is_due}
use Rattle.ml_bounce.proofs.Collecting.{Gathers}
use Rattle.ml_bounce.proofs.due_entries.read_due.Given as goal

abbrev pub invariant-loop-n : goal.invariant-loop-n
invariant-loop-n g l = record {
  read : AreKept g.F.Files l.fn.files l.files;
  found : IsTrue g.F.Files.tells → Gathers (is_due l.now) (g.F.Files.map l.fn.files) l.set l.n l.found;
}

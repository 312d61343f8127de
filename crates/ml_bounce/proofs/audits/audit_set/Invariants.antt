use Rattle.std.specs.Bool.{IsTrue}
use Rattle.ml_base.specs.ReadFiles.{AreKept}
use Rattle.ml_bounce.proofs.Collecting.{Files}
use Rattle.ml_bounce.proofs.audits.audit_set.Given as goal

abbrev pub invariant-loop-n : goal.invariant-loop-n
invariant-loop-n g l = record {
  read : AreKept g.F.Files l.fn.files l.files;
  found : IsTrue g.F.Files.tells → Files (g.F.Files.map l.fn.files) l.set l.n;
}

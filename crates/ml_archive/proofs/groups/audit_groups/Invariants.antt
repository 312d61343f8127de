use Rattle.std.specs.Bool.{IsTrue}
use Rattle.ml_base.specs.ReadFiles.{AreKept}
use Rattle.ml_archive.specs.Found.{AreWhole}
use Rattle.ml_archive.proofs.groups.audit_groups.Given as goal

abbrev pub invariant-loop-group : goal.invariant-loop-group
invariant-loop-group g l = record {
  read : AreKept g.F.Files l.fn.files l.files;
  whole : IsTrue g.F.Files.tells → AreWhole (g.F.Files.map l.fn.files) l.fn.count l.group;
}

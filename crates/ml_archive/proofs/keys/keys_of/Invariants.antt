use Rattle.std.specs.Bool.{IsTrue}
use Rattle.ml_base.specs.ReadFiles.{AreKept}
use Rattle.ml_archive.specs.Found.{AreKeyedBelow, AreOrdered}
use Rattle.ml_archive.proofs.keys.keys_of.Given as goal

abbrev pub invariant-loop-group : goal.invariant-loop-group
invariant-loop-group g l = record {
  read : AreKept g.F.Files l.fn.files l.files;
  ordered : AreOrdered l.keys;
  below : IsTrue g.F.Files.tells → AreKeyedBelow (g.F.Files.map l.fn.files) l.fn.prefix l.fn.places l.fn.count l.group l.keys;
}

use Rattle.std.proofs.Common.{◌≤◌, ◌+◌, length}
use Rattle.std.specs.Bool.{IsTrue}
use Rattle.ml_base.specs.ReadFiles.{AreKept}
use Rattle.ml_archive.specs.Counted.{first_of}
use Rattle.ml_archive.specs.Found.{HaveSizes, LacksSize}
use Rattle.ml_archive.proofs.groups.audit_sizes.Given as goal

abbrev pub invariant-loop-rest : goal.invariant-loop-rest
invariant-loop-rest g l = record {
  read : AreKept g.F.Files l.fn.files l.files;
  low : 1 ≤ l.number;
  high : l.number + length l.rest ≤ 100_000_000;
  sizes : IsTrue g.F.Files.tells → HaveSizes (g.F.Files.map l.fn.files) l.number l.rest → HaveSizes (g.F.Files.map l.fn.files) (first_of l.fn.group) l.fn.entries;
  lacks : IsTrue g.F.Files.tells → LacksSize (g.F.Files.map l.fn.files) l.number l.rest → LacksSize (g.F.Files.map l.fn.files) (first_of l.fn.group) l.fn.entries;
}

abbrev pub decreases-loop-rest : goal.decreases-loop-rest
decreases-loop-rest g l = length l.rest

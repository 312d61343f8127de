use Rattle.std.proofs.Common.{◌≡◌, length}
use Rattle.std.specs.Bool.{IsTrue}
use Rattle.ml_base.specs.ReadFiles.{AreKept}
use Rattle.ml_subs.specs.Subscribers.{AreFiles}
use Rattle.ml_subs.proofs.lists.read_files.Given as goal

abbrev pub invariant-loop-n : goal.invariant-loop-n
invariant-loop-n g l = record {
  read : AreKept g.F.Files l.fn.files l.files;
  count : length l.texts ≡ l.n;
  found : IsTrue g.F.Files.tells → AreFiles (g.F.Files.map l.fn.files) l.set l.n l.texts;
}

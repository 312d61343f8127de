use Rattle.std.specs.Bool.{IsTrue}
use Rattle.ml_base.specs.ReadFiles.{AreKept}
use Rattle.ml_subs.proofs.Gathering.{Counts}
use Rattle.ml_subs.proofs.audits.audit_buckets.Given as goal

abbrev pub invariant-loop-n : goal.invariant-loop-n
invariant-loop-n g l = record {
  read : AreKept g.F.Files l.fn.files l.files;
  found : IsTrue g.F.Files.tells → Counts (g.F.Files.map l.fn.files) l.set l.n l.count;
}

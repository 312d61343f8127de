use Rattle.std.proofs.Common.{◌<◌, ◌-◌, ℕ}
use Rattle.std.specs.Bool.{IsTrue}
use Rattle.ml_base.specs.ReadFiles.{AreKept}
use Rattle.ml_archive.specs.Breaks.{HasThreads}
use Rattle.ml_archive.proofs.threads.audit_threads.Given as goal

abbrev pub invariant-loop-from : goal.invariant-loop-from
invariant-loop-from g l = record {
  read : AreKept g.F.Files l.fn.files l.files;
  right : IsTrue g.F.Files.tells → (n : ℕ) → n < l.from → HasThreads (g.F.Files.map l.fn.files) l.fn.prefix n;
}

abbrev pub decreases-loop-from : goal.decreases-loop-from
decreases-loop-from g l = 256 - l.from

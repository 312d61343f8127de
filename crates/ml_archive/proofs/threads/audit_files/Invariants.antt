use Rattle.std.proofs.Common.{◌≡◌, ◌<◌, ◌≤◌, ℕ, []}
use Rattle.std.specs.Prelude.{unwrap_or}
use Rattle.std.specs.Bool.{IsTrue}
use Rattle.ml_base.specs.ReadFiles.{AreKept}
use Rattle.ml_filing.specs.Threads.{thread_name}
use Rattle.ml_archive.specs.Found.{text_at}
use Rattle.ml_archive.proofs.threads.audit_files.Given as goal

abbrev pub invariant-loop-n : goal.invariant-loop-n
invariant-loop-n g l = record {
  read : AreKept g.F.Files l.fn.files l.files;
  low : l.fn.places.from ≤ l.n;
  right : IsTrue g.F.Files.tells → (m : ℕ) → l.fn.places.from ≤ m → m < l.n → unwrap_or (g.F.Files.map l.fn.files (thread_name m)) [] ≡ text_at m l.keys.entries;
}

use Rattle.std.proofs.Common.{◌≡◌, ◌<◌, ℕ, List, slice_index}
use Rattle.std.specs.Bool.{IsTrue}
use Rattle.ml_base.specs.ReadFiles.{AreKept}
use Rattle.ml_filing.specs.Threads.{IsArchive}
use Rattle.ml_filing.specs.declared.posts.Post.{Post}
use Rattle.ml_pages.specs.Reads.{IsThreadsRead}
use Rattle.ml_pages.proofs.Begun.{noted_below}
use Rattle.ml_pages.proofs.thread_counts.threads.Given as goal

abbrev pub invariant-loop-n : goal.invariant-loop-n
invariant-loop-n g l = record {
  read : AreKept g.F.Files l.fn.files l.files;
  whole : IsTrue g.F.Files.tells → (i : ℕ) → i < l.n → IsThreadsRead (g.F.Files.map l.fn.files) i;
  value : IsTrue g.F.Files.tells → (posts : List Post) → IsArchive (g.F.Files.map l.fn.files) l.prefix posts → (i : ℕ) → slice_index l.tally i ≡ noted_below l.prefix posts l.n i;
}

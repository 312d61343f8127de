use Rattle.std.proofs.Common.{◌≡◌, ◌<◌, ◌≤◌, ◌+◌, ℕ, List, map, length, slice_index}
use Rattle.std.specs.Bool.{IsTrue}
use Rattle.ml_base.specs.ReadFiles.{AreKept}
use Rattle.ml_filing.specs.Archive.{ArePosts}
use Rattle.ml_filing.specs.Posts.{entry, numbered}
use Rattle.ml_filing.specs.declared.posts.Post.{Post}
use Rattle.ml_pages.specs.Counted.{count_at}
use Rattle.ml_pages.specs.Reads.{IsIndexRead}
use Rattle.ml_pages.proofs.Monthly.{groups_from}
use Rattle.ml_pages.proofs.month_counts.months.Given as goal

abbrev pub invariant-loop-group : goal.invariant-loop-group
invariant-loop-group g l = record {
  read : AreKept g.F.Files l.fn.files l.files;
  long : length l.tally ≤ 96_360;
  whole : IsTrue g.F.Files.tells → (i : ℕ) → i < l.group → IsIndexRead (g.F.Files.map l.fn.files) i;
  value : IsTrue g.F.Files.tells → (posts : List Post) → ArePosts (g.F.Files.map l.fn.files) posts → (i : ℕ) → slice_index l.tally i + count_at i (map entry (groups_from l.group 1 posts)) ≡ count_at i (map entry (numbered posts));
}

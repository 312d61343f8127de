use Rattle.std.proofs.Common.{◌≡◌, ◌<◌, ◌+◌, ◌-◌, ℕ, List, map, take, drop}
use Rattle.std.specs.Bool.{IsTrue}
use Rattle.ml_base.specs.ReadFiles.{AreKept}
use Rattle.ml_filing.specs.Archive.{ArePosts}
use Rattle.ml_filing.specs.Posts.{entry}
use Rattle.ml_filing.specs.declared.posts.Post.{Post}
use Rattle.ml_pages.specs.Counting.{in_month}
use Rattle.ml_pages.specs.Parts.{IsBegun, entry_lines, lines_with}
use Rattle.ml_pages.specs.Reads.{IsIndexRead}
use Rattle.ml_pages.proofs.Paged.{month_from}
use Rattle.ml_pages.proofs.month_pages.month_lines.Given as goal

abbrev pub invariant-loop-group : goal.invariant-loop-group
invariant-loop-group g l = record {
  read : AreKept g.F.Files l.fn.files l.files;
  begun : IsBegun l.page;
  whole : IsTrue g.F.Files.tells → (i : ℕ) → i < l.group → IsIndexRead (g.F.Files.map l.fn.files) i;
  value : IsTrue g.F.Files.tells → (posts : List Post) → ArePosts (g.F.Files.map l.fn.files) posts
      → lines_with l.page (map entry (month_from l.year l.month l.group posts)) ≡ entry_lines (take 1000 (drop l.before (map entry (in_month l.year l.month posts))));
}

abbrev pub decreases-loop-group : goal.decreases-loop-group
decreases-loop-group g l = l.last + 1 - l.group

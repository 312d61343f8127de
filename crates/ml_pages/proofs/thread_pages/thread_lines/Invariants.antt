use Rattle.std.proofs.Common.{◌≡◌, List, take}
use Rattle.std.specs.Bool.{IsTrue}
use Rattle.std.specs.List.{flat_map}
use Rattle.ml_base.specs.ReadFiles.{AreKept}
use Rattle.ml_filing.specs.Answers.{AreIndexes}
use Rattle.ml_filing.specs.Archive.{ArePosts}
use Rattle.ml_filing.specs.declared.posts.Post.{Post}
use Rattle.ml_pages.specs.Parts.{line_at}
use Rattle.ml_pages.proofs.thread_pages.thread_lines.Given as goal

abbrev pub invariant-loop-number : goal.invariant-loop-number
invariant-loop-number g l = record {
  read : AreKept g.F.Files l.fn.files l.files;
  known : IsTrue g.F.Files.tells → AreIndexes (g.F.Files.map l.fn.files) l.indexes;
  value : IsTrue g.F.Files.tells → (posts : List Post) → ArePosts (g.F.Files.map l.fn.files) posts → l.out ≡ flat_map (line_at posts) (take l.number-index l.numbers);
}

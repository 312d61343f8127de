use Rattle.std.proofs.Common.{◌≡◌, ◌+◌, ◌-◌, ◌≤◌, map, take, drop, length}
use Rattle.std.specs.Bool.{IsTrue}
use Rattle.ml_base.specs.Dir.{Dir}
use Rattle.ml_base.specs.ReadFiles.{AreKept}
use Rattle.ml_plain.specs.Directory.{IsList}
use Rattle.ml_plain.specs.Plain.{Plain}
use Rattle.ml_plain.specs.Timing.{digest_post}
use Rattle.ml_acts.specs.Doing.{Alike}
use Rattle.ml_timed.specs.Reads.{is_of_posts_seen}
use Rattle.ml_timed.proofs.digests.posts_in.Given as goal

abbrev pub invariant-loop-number : goal.invariant-loop-number
invariant-loop-number g l = record {
  read : AreKept g.F.Files l.fn.files l.files;
  from : l.range.first ≤ l.number;
  up : l.number ≤ l.range.last + 1;
  size : length l.posts + l.range.first ≡ l.number;
  posts : IsTrue g.F.Files.tells → (dir : Dir) (p : Plain) → Alike is_of_posts_seen (g.F.Files.map l.fn.files) dir → IsList dir p → l.posts ≡ map digest_post (take (l.number - l.range.first) (drop (l.range.first - 1) p.posts));
}

abbrev pub decreases-loop-number : goal.decreases-loop-number
decreases-loop-number g l = l.range.last + 1 - l.number

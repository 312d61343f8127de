use Rattle.std.proofs.Common.{◌≡◌, take}
use Rattle.std.specs.Bool.{IsTrue}
use Rattle.std.specs.List.{flat_map}
use Rattle.ml_base.specs.Dir.{Dir}
use Rattle.ml_base.specs.ReadFiles.{AreKept}
use Rattle.ml_plain.specs.Directory.{IsList}
use Rattle.ml_plain.specs.Plain.{Plain}
use Rattle.ml_manage.specs.Reads.{AlikeEach}
use Rattle.ml_manage.specs.Texts.{post_text}
use Rattle.ml_manage.proofs.archive.all_posts.Given as goal

abbrev pub invariant-loop-number : goal.invariant-loop-number
invariant-loop-number g l = record {
  read : AreKept g.F.Files l.fn.files l.files;
  text : IsTrue g.F.Files.tells → (dir : Dir) (p : Plain) → AlikeEach l.numbers (g.F.Files.map l.fn.files) dir → IsList dir p → p.config ≡ l.config → l.out ≡ flat_map (post_text p) (take l.number-index l.numbers);
}

use Rattle.std.proofs.Common.{◌≡◌, ◌≤◌, ◌+◌, ◌++◌, ℕ, List, length}
use Rattle.std.specs.Bool.{IsTrue}
use Rattle.std.specs.List.{AllByRecursion, IsAmong}
use Rattle.ml_base.specs.ReadFiles.{AreKept}
use Rattle.ml_filing.specs.Answers.{AreIndexes, AreSizes}
use Rattle.ml_filing.proofs.lookups.sizes_of.Given as goal

abbrev pub invariant-loop-rest : goal.invariant-loop-rest
invariant-loop-rest g l = record {
  read : AreKept g.F.Files l.fn.files l.files;
  known : IsTrue g.F.Files.tells → AreIndexes (g.F.Files.map l.fn.files) l.indexes;
  sizes : IsTrue g.F.Files.tells → (ss : List ℕ) → AreSizes (g.F.Files.map l.fn.files) l.rest ss → AreSizes (g.F.Files.map l.fn.files) l.fn.numbers (l.sizes ++ ss);
  few : AllByRecursion (λ (m : ℕ). m ≤ 99_999_999) l.rest;
  among : (m : ℕ) → IsAmong l.rest m → IsAmong l.fn.numbers m;
  long : length l.sizes + length l.rest ≡ length l.fn.numbers;
}

abbrev pub decreases-loop-rest : goal.decreases-loop-rest
decreases-loop-rest g l = length l.rest

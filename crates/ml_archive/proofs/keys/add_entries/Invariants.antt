use Rattle.std.proofs.Common.{◌≡◌, ◌≤◌, ◌+◌, length}
use Rattle.ml_base.specs.Bytes.{Text}
use Rattle.ml_archive.specs.Found.{AreOrdered, HasPlace, with_numbers, key_numbers, numbers_at}
use Rattle.ml_archive.proofs.keys.add_entries.Given as goal

abbrev pub invariant-loop-rest : goal.invariant-loop-rest
invariant-loop-rest l = record {
  high : l.number + length l.rest ≤ 100_000_000;
  ordered : AreOrdered l.fn.keys → AreOrdered l.keys;
  value : (k : Text) → HasPlace l.fn.places k → with_numbers (numbers_at k l.keys) (key_numbers l.prefix k l.number l.rest) ≡ with_numbers (numbers_at k l.fn.keys) (key_numbers l.fn.prefix k l.fn.first l.fn.entries);
}

abbrev pub decreases-loop-rest : goal.decreases-loop-rest
decreases-loop-rest l = length l.rest

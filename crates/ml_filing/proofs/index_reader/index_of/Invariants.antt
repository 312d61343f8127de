use Rattle.std.proofs.Common.{◌≡◌, ◌≤◌, ◌++◌, ◌+◌, ◌*◌, length, option_map}
use Rattle.ml_rows.specs.Rows.{row_of}
use Rattle.ml_filing.specs.Reading.{index_in, entry_in_place}
use Rattle.ml_filing.proofs.index_reader.index_of.Given as goal

abbrev pub invariant-loop-rest : goal.invariant-loop-rest
invariant-loop-rest l = record {
  read : index_in l.group l.fn.text ≡ option_map (λ es. l.out ++ es) (row_of (entry_in_place l.group) l.number l.rest);
  few : l.number ≤ 100 * l.group + 100;
}

abbrev pub decreases-loop-rest : goal.decreases-loop-rest
decreases-loop-rest l = length l.rest

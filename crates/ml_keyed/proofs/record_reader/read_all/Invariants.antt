use Rattle.std.proofs.Common.{length}
use Rattle.ml_rows.specs.Rows.{row_of}
use Rattle.ml_keyed.proofs.Parsed.{IsLeft}
use Rattle.ml_keyed.proofs.record_reader.read_all.Given as goal

abbrev pub invariant-loop-rest : goal.invariant-loop-rest
invariant-loop-rest g l = IsLeft (g.R.Keyed.record_at l.file) (row_of (g.R.Keyed.record_at l.file) 0 l.fn.text) l.out l.rest

abbrev pub decreases-loop-rest : goal.decreases-loop-rest
decreases-loop-rest g l = length l.rest

use Rattle.std.proofs.Common.{length}
use Rattle.ml_base.specs.Sorted.{byte_cmp, without_key}
use Rattle.ml_keyed.proofs.Rewritten.{IsWritten}
use Rattle.ml_keyed.proofs.record_writer.push_without.Given as goal

abbrev pub invariant-loop-rest : goal.invariant-loop-rest
invariant-loop-rest g l =
    IsWritten g.R.Keyed.spelling l.fn.out l.out l.has_records (without_key byte_cmp g.R.Keyed.key_of (g.R.Keyed.asked l.key) l.rest) (without_key byte_cmp g.R.Keyed.key_of (g.R.Keyed.asked l.fn.key) l.fn.records)

abbrev pub decreases-loop-rest : goal.decreases-loop-rest
decreases-loop-rest g l = length l.rest

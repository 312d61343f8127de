use Rattle.std.proofs.Common.{◌≡◌, length}
use Rattle.ml_base.specs.Sorted.{byte_cmp, is_sorted}
use Rattle.ml_keyed.proofs.record_reader.keys_rise.Given as goal

abbrev pub invariant-loop-rest : goal.invariant-loop-rest
invariant-loop-rest g l = is_sorted byte_cmp g.R.Keyed.key_of l.rest ≡ is_sorted byte_cmp g.R.Keyed.key_of l.fn.records

abbrev pub decreases-loop-rest : goal.decreases-loop-rest
decreases-loop-rest g l = length l.rest

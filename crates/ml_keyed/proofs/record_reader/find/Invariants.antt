use Rattle.std.proofs.Common.{◌≡◌, length}
use Rattle.ml_base.specs.Sorted.{byte_cmp, entry_of}
use Rattle.ml_keyed.proofs.record_reader.find.Given as goal

abbrev pub invariant-loop-rest : goal.invariant-loop-rest
invariant-loop-rest g l = entry_of byte_cmp g.R.Keyed.key_of (g.R.Keyed.asked l.key) l.rest ≡ entry_of byte_cmp g.R.Keyed.key_of (g.R.Keyed.asked l.fn.key) l.fn.records

abbrev pub decreases-loop-rest : goal.decreases-loop-rest
decreases-loop-rest g l = length l.rest

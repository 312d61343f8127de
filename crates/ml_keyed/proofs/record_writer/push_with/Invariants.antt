use Rattle.std.proofs.Common.{◌≡◌, ◌++◌, length}
use Rattle.std.specs.List.{flat_map}
use Rattle.ml_base.specs.Sorted.{byte_cmp, with_entry}
use Rattle.ml_keyed.proofs.record_writer.push_with.Given as goal

abbrev pub invariant-loop-first : goal.invariant-loop-first
invariant-loop-first g l =
    l.out ++ flat_map g.R.Keyed.spelling (with_entry byte_cmp g.R.Keyed.key_of l.added l.rest) ≡ l.fn.out ++ flat_map g.R.Keyed.spelling (with_entry byte_cmp g.R.Keyed.key_of l.fn.added l.fn.records)

abbrev pub decreases-loop-first : goal.decreases-loop-first
decreases-loop-first g l = length l.rest

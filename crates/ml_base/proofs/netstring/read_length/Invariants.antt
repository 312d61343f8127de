use Rattle.std.proofs.Common.{◌≡◌, ◌≤◌, drop}
use Rattle.ml_base.specs.Netstrings.{length_from}
use Rattle.ml_base.proofs.netstring.read_length.Given as goal

abbrev pub invariant-loop-i : goal.invariant-loop-i
invariant-loop-i l = (l.n ≤ 999_999_999_999_999_999) × (length_from 999_999_999_999_999_999 l.i l.n (drop l.i l.bytes) ≡ length_from 999_999_999_999_999_999 0 0 l.bytes)

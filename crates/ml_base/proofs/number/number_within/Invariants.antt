use Rattle.std.proofs.Common.{◌≡◌, ◌≤◌, drop}
use Rattle.ml_base.specs.Numbers.{digits_from}
use Rattle.ml_base.proofs.number.number_within.Given as goal

abbrev pub invariant-loop-i : goal.invariant-loop-i
invariant-loop-i l = (l.n ≤ l.limit) × (digits_from l.limit l.i l.n (drop l.i l.text) ≡ digits_from l.limit 0 0 l.text)

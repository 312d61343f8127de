use Rattle.std.proofs.Common.{◌≡◌, ◌≤◌, ◌+◌, ◌-◌, ◌++◌, List, ℕ, Some, length}
use Rattle.ml_input.proofs.input.read_input.Given as goal

abbrev pub invariant-loop-input : goal.invariant-loop-input
invariant-loop-input g l =
    let source = g.I.Source in
    record {
      within : length l.bytes.items ≤ l.most + 1;
      taken : (left : List ℕ) → source.left l.fn.input ≡ Some left → (rest : List ℕ) × (left ≡ l.bytes.items ++ rest) × (source.left l.input ≡ Some rest);
      later : source.faults l.fn.input ≤ source.faults l.input;
    }

abbrev pub decreases-loop-input : goal.decreases-loop-input
decreases-loop-input g l = l.most + 1 - length l.bytes.items

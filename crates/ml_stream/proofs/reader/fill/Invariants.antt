use Rattle.std.proofs.Common.{length, ◌-◌, ◌≡◌, ◌≤◌, ◌++◌, take, List, ℕ, Some}
use Rattle.ml_stream.proofs.reader.fill.Given as goal

abbrev pub invariant-loop-filled : goal.invariant-loop-filled
invariant-loop-filled g l =
    let left = g.I.Source.left in
    record {
      within : l.filled ≤ length l.buf;
      taken : (bs : List ℕ) → left l.fn.input ≡ Some bs → (rest : List ℕ) × (bs ≡ take l.filled l.buf ++ rest) × (left l.input ≡ Some rest);
      later : g.I.Source.faults l.fn.input ≤ g.I.Source.faults l.input;
    }

abbrev pub decreases-loop-filled : goal.decreases-loop-filled
decreases-loop-filled g l = length l.initial.buf - l.filled

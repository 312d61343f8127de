use Rattle.std.proofs.Common.{◌≡◌, ◌≤◌, length, take}
use Rattle.ml_site.specs.Disk.{Contents}
use Rattle.ml_site.specs.Recorded.{at_rest, after}
use Rattle.ml_site.proofs.replay.settled_calls.Given as goal

abbrev pub invariant-loop-left : goal.invariant-loop-left
invariant-loop-left l = record {
  within : l.left ≤ length l.calls;
  settled : (start : Contents) → (after (at_rest start) (take l.left l.calls)).settled ≡ (after (at_rest start) l.calls).settled;
}

abbrev pub decreases-loop-left : goal.decreases-loop-left
decreases-loop-left l = l.left

use Rattle.std.proofs.Common.{◌≡◌, ◌≤◌, length, take}
use Rattle.ml_site.specs.Disk.{Contents}
use Rattle.ml_site.specs.Recorded.{contents, at_rest, after}
use Rattle.ml_site.specs.Filled.{bytes_filled}
use Rattle.ml_site.proofs.fill.fill_pending.Given as goal

abbrev pub invariant-loop-left : goal.invariant-loop-left
invariant-loop-left l = record {
  within : l.left ≤ length l.calls;
  so_far : (start : Contents) → bytes_filled l.byte (after (at_rest start) (take l.left l.calls)).pending (contents l.log.items l.files)
      ≡ bytes_filled l.byte (after (at_rest start) l.calls).pending (contents l.initial.log.items l.initial.files);
}

abbrev pub decreases-loop-left : goal.decreases-loop-left
decreases-loop-left l = l.left

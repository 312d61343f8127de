use Rattle.std.proofs.Common.{◌≡◌, take}
use Rattle.ml_site.specs.Recorded.{contents, at_rest, after}
use Rattle.ml_site.proofs.replay.replay.Given as goal

abbrev pub invariant-loop-call : goal.invariant-loop-call
invariant-loop-call l = contents l.image.log l.image.files ≡ (after (at_rest (contents l.log l.files)) (take l.call-index l.calls)).reads

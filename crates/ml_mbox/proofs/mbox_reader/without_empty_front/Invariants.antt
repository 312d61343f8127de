use Rattle.std.proofs.Common.{◌≡◌, length}
use Rattle.ml_mbox.specs.Reading.{without_empty_front}
use Rattle.ml_mbox.proofs.mbox_reader.without_empty_front.Given as goal

abbrev pub invariant-loop-more : goal.invariant-loop-more
invariant-loop-more l = without_empty_front l.rest ≡ without_empty_front l.text

abbrev pub decreases-loop-more : goal.decreases-loop-more
decreases-loop-more l = length l.rest

use Rattle.std.proofs.Common.{length}
use Rattle.ml_digest.specs.Reading.{AreRead}
use Rattle.ml_digest.proofs.digest_reader.read_messages.Given as goal

abbrev pub invariant-loop-end : goal.invariant-loop-end
invariant-loop-end l = AreRead l.text l.messages l.rest

abbrev pub decreases-loop-end : goal.decreases-loop-end
decreases-loop-end l = length l.rest

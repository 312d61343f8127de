use Rattle.std.proofs.Common.{◌≡◌, length}
use Rattle.ml_journal.specs.Found.{puts_found}
use Rattle.ml_journal.specs.Records.{puts_of}
use Rattle.ml_journal.proofs.ReadSoFar.{after}
use Rattle.ml_journal.proofs.log_reader.add_puts_of.Given as goal

abbrev pub invariant-loop-rest : goal.invariant-loop-rest
invariant-loop-rest l = after (puts_found l.found.items) (puts_of l.rest) ≡ after (puts_found l.fn.found.items) (puts_of l.text)

abbrev pub decreases-loop-rest : goal.decreases-loop-rest
decreases-loop-rest l = length l.rest

use Rattle.std.proofs.Common.{◌≡◌, length}
use Rattle.ml_journal.specs.Found.{puts_found}
use Rattle.ml_journal.specs.Log.{log_puts}
use Rattle.ml_journal.proofs.ReadSoFar.{after}
use Rattle.ml_journal.proofs.log_reader.puts_in.Given as goal

abbrev pub invariant-loop-text : goal.invariant-loop-text
invariant-loop-text l = after (puts_found l.found.items) (log_puts l.rest) ≡ log_puts l.log

abbrev pub decreases-loop-text : goal.decreases-loop-text
decreases-loop-text l = length l.rest

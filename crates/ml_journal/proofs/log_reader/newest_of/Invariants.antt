use Rattle.std.proofs.Common.{◌≡◌, ◌≤◌, length, drop}
use Rattle.ml_base.specs.Dir.{Dir, with_puts}
use Rattle.ml_journal.specs.Found.{puts_found}
use Rattle.ml_journal.specs.Table.{newest_over}
use Rattle.ml_journal.proofs.log_reader.newest_of.Given as goal

abbrev pub invariant-loop-left : goal.invariant-loop-left
invariant-loop-left l = (l.left ≤ length l.found) × ((files : Dir) → newest_over l.newest files ≡ with_puts files (drop l.left (puts_found l.found)))

abbrev pub decreases-loop-left : goal.decreases-loop-left
decreases-loop-left l = l.left

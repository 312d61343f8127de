use Rattle.std.proofs.Common.{◌≡◌, ◌++◌, length}
use Rattle.ml_mbox.proofs.mbox_reader.read_mbox.Given as goal

abbrev pub invariant-loop-mails : goal.invariant-loop-mails
invariant-loop-mails l = l.mails ++ l.left ≡ l.initial.left

abbrev pub decreases-loop-mails : goal.decreases-loop-mails
decreases-loop-mails l = length l.left

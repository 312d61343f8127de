use Rattle.std.proofs.Common.{◌+◌, ◌-◌, length}
use Rattle.ml_subs.proofs.checked_texts.Checked.note.Given as goal

abbrev pub decreases-loop-self : goal.decreases-loop-self
decreases-loop-self l = (l.n + 1) - length l.self.last

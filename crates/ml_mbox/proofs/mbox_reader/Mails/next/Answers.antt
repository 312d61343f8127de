use Rattle.ml_base.specs.Splits.{lines}
use Rattle.ml_mbox.proofs.Cuts.{line_begins}
use Rattle.ml_mbox.proofs.mbox_reader.Mails.next.Goals as goal

pub boxed-requires : goal.boxed-requires
boxed-requires c = line_begins c.self.inside.rest.now c.in-Some.line.now (lines c.in-Some.after.now) c.self.invariant c.in-Some.ensures.value

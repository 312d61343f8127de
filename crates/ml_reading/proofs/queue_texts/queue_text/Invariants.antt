use Rattle.std.proofs.Common.{◌-◌, ◌≤◌, IsTrue}
use Rattle.ml_base.specs.ReadFiles.{AreKept}
use Rattle.ml_reading.proofs.Lines.{AreListed}
use Rattle.ml_reading.proofs.queue_texts.queue_text.Given as goal

abbrev pub invariant-loop-id : goal.invariant-loop-id
invariant-loop-id g l = record {
  read : AreKept g.F.Files l.fn.files l.files;
  within : l.id ≤ l.counter.next;
  listed : IsTrue g.F.Files.tells → AreListed (g.F.Files.map l.fn.files) l.counter.low l.id l.text;
}

abbrev pub decreases-loop-id : goal.decreases-loop-id
decreases-loop-id g l = l.counter.next - l.id

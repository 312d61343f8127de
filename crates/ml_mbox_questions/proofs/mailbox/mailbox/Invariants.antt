use Rattle.std.proofs.Common.{◌≤◌, ◌-◌, max}
use Rattle.std.specs.Bool.{IsTrue}
use Rattle.std.specs.List.{range_with_len}
use Rattle.ml_base.specs.ReadFiles.{AreKept}
use Rattle.ml_filing.specs.Answers.{AreIndexes}
use Rattle.ml_mbox_questions.specs.Mailboxes.{IsMailbox}
use Rattle.ml_mbox_questions.proofs.mailbox.mailbox.Given as goal

abbrev pub invariant-loop-number : goal.invariant-loop-number
invariant-loop-number g l = record {
  read : AreKept g.F.Files l.fn.files l.files;
  past : l.number ≤ max l.from l.end;
  known : IsTrue g.F.Files.tells → AreIndexes (g.F.Files.map l.fn.files) l.indexes;
  value : IsTrue g.F.Files.tells → IsMailbox (g.F.Files.map l.fn.files) (range_with_len l.from (l.number - l.from)) l.out;
}

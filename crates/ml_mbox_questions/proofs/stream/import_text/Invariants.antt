use Rattle.std.proofs.Common.{◌≡◌, ◌+◌, ◌++◌, length}
use Rattle.std.specs.Prelude.{All, Any}
use Rattle.ml_mbox.specs.Importing.{acts_of}
use Rattle.ml_plain.specs.Items.{numbered}
use Rattle.ml_stream.specs.Writing.{stream_text}
use Rattle.ml_mbox_questions.specs.Import.{Fits, IsLong}
use Rattle.ml_mbox_questions.proofs.stream.import_text.Given as goal

abbrev pub invariant-loop-out : goal.invariant-loop-out
invariant-loop-out l = record {
  text_is : l.out ++ stream_text (numbered l.number l.moment (acts_of l.config l.mails)) ≡ stream_text (numbered l.first l.moment (acts_of l.config l.initial.mails));
  counted : l.number + length l.mails ≡ l.first + length l.initial.mails;
  fits : All (Fits l.config) l.mails → All (Fits l.config) l.initial.mails;
  long : Any (IsLong l.config) l.mails → Any (IsLong l.config) l.initial.mails;
}

abbrev pub decreases-loop-out : goal.decreases-loop-out
decreases-loop-out l = length l.mails

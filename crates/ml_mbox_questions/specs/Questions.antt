-- The meaning of the questions for a mailbox out and for a mailbox in.
use Rattle.std.specs.Prelude.{◌≡◌, ◌&&◌, nat_le, ℕ, true, false, List, Option, Some, None, Result, Ok, Err, is_some, if◌then◌else◌}
use Rattle.ml_base.specs.Bytes.{Text}
use Rattle.ml_mbox.specs.Reading.{read}
use Rattle.ml_mbox.specs.declared.mails.Boxed.{Boxed}
use Rattle.ml_reading.specs.Meanings.{Meaning}
use Rattle.ml_reading.specs.declared.question.Answer.TheVariants as answers
use Rattle.ml_mbox_questions.specs.Imports.{import_answer, mails_of}
use Rattle.ml_mbox_questions.specs.Mailboxes.{IsBadForMailbox, IsMailboxName, IsRangeMailbox, range_mailbox}
use Rattle.ml_mbox_questions.specs.declared.import_question.Importing.{Importing}
use Rattle.ml_mbox_questions.specs.declared.query.MboxQuery.{MboxQuery}

-- the posts of a range as a mailbox: a text, whatever the files hold
abbrev pub mbox_meaning : MboxQuery → Meaning
mbox_meaning query = record {
  by_files = λ config dir answer. (text : Text) × (answer ≡ answers.Text text) × IsRangeMailbox dir query.first query.last text;
  of_list = λ list. answers.Text (range_mailbox query.first query.last list.posts);
  may_miss = false;
  may_exceed = false;
  is_read = IsMailboxName query.first query.last;
  is_bad = λ config dir name. IsBadForMailbox dir query.first query.last name;
}

-- the mails of a text as a stream: it goes by the configuration alone, and no other file is read
abbrev pub importing_meaning : ℕ → ℕ → Text → Meaning
importing_meaning first moment text = record {
  by_files = λ config dir answer. answer ≡ import_answer config first moment (mails_of text);
  of_list = λ list. import_answer list.config first moment (mails_of text);
  may_miss = false;
  may_exceed = true;
  is_read = λ name. ⊥;
  is_bad = λ config dir name. ⊥;
}

-- a text that is a mailbox
abbrev pub mailbox_in : Text → Option Text
mailbox_in text = if is_some (read text) then Some text else None

-- the question of a mailbox; any other text is bad at its front
abbrev pub importing_by : ℕ → ℕ → Text → Option (List Boxed) → Result Importing ℕ
importing_by first moment text None = Err 0
importing_by first moment text (Some mails) = Ok (record { words = first; moment = moment; text = text })

abbrev pub importing_of : ℕ → ℕ → Text → Result Importing ℕ
importing_of first moment text = importing_by first moment text (read text)

-- a first number that is at least 1 and leaves room after it
abbrev pub import_first : ℕ → Option ℕ
import_first first = if nat_le 1 first && nat_le first 999_900_000_000 then Some first else None

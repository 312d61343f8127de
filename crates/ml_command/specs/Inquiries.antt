-- What each command that gives a text asks of a list.
use Rattle.std.specs.Prelude.{ℕ, true, false}
use Rattle.ml_reading.specs.Meanings.{Meaning}
use Rattle.ml_reading.specs.Queries.{query_meaning}
use Rattle.ml_input.specs.Asking.{InputQuestion}
use Rattle.ml_check.specs.Checking.{check_meaning}
use Rattle.ml_split_questions.specs.Moves.{PlainMove}
use Rattle.ml_split_questions.specs.Questions.{division_meaning, division_of, moving_meaning, moving_of}
use Rattle.ml_split_questions.specs.declared.division_question.Division.{Division}
use Rattle.ml_split_questions.specs.declared.move_question.Moving.{Moving}
use Rattle.ml_mbox_questions.specs.Questions.{importing_meaning, importing_of, mbox_meaning}
use Rattle.ml_mbox_questions.specs.declared.import_question.Importing.{Importing}
use Rattle.ml_split.specs.Reading.{rules_in}
use Rattle.ml_pages_questions.specs.Questions.{page_meaning}
use Rattle.ml_base.specs.declared.names.Set.{Set}
use Rattle.ml_command.specs.declared.inquiries.Inquiry.{Inquiry}
use Rattle.ml_command.specs.declared.inquiries.Inquiry.TheVariants as inquiries

-- what is asked of a list: by words alone, or by an input too
pub data Asking : Type 1 where
  ByWords : Meaning → Asking
  ByInput : InputQuestion → Asking

-- the most bytes of the rules of `split`
abbrev pub longest_rules : ℕ
longest_rules = 1_048_576

-- the parts of a set, by the rules that the input spells
abbrev pub division_asked : Set → InputQuestion
division_asked set = record {
  Question = Division;
  timed = false;
  limit = longest_rules;
  made = λ moment text. division_of set (rules_in text);
  meaning = λ it. division_meaning it.set it.rules;
}

-- the stream that moves a part, by the rules that the input spells and at the clock's moment
abbrev pub moving_asked : PlainMove → InputQuestion
moving_asked words = record {
  Question = Moving;
  timed = true;
  limit = longest_rules;
  made = λ moment text. moving_of words moment (rules_in text);
  meaning = λ it. moving_meaning it.words it.rules it.moment;
}

-- the most bytes of a mailbox that is imported
abbrev pub longest_mailbox : ℕ
longest_mailbox = 268_435_456

-- the stream of the posts of the mailbox that the input is, numbered from a first number on and at the clock's moment
abbrev pub importing_asked : ℕ → InputQuestion
importing_asked first = record {
  Question = Importing;
  timed = true;
  limit = longest_mailbox;
  made = importing_of first;
  meaning = λ it. importing_meaning it.words it.moment it.text;
}

-- what an inquiry asks
abbrev pub asking_of : Inquiry → Asking
asking_of (inquiries.Query query) = ByWords (query_meaning query)
asking_of inquiries.Check = ByWords check_meaning
asking_of (inquiries.Pages query) = ByWords (page_meaning query)
asking_of (inquiries.Mailbox query) = ByWords (mbox_meaning query)
asking_of (inquiries.Split set) = ByInput (division_asked set)
asking_of (inquiries.Move words) = ByInput (moving_asked words)
asking_of (inquiries.Import first) = ByInput (importing_asked first)

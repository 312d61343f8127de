-- What an imported mailbox gives.
use Rattle.std.specs.Prelude.{ℕ, List, [], unwrap_or, if◌then◌else◌}
use Rattle.std.specs.List.{list_any}
use Rattle.ml_base.specs.Bytes.{Text}
use Rattle.ml_config.specs.declared.configuration.Config.{Config}
use Rattle.ml_mbox_questions.specs.Import.{is_long}
use Rattle.ml_mbox.specs.Importing.{acts_of}
use Rattle.ml_mbox.specs.Reading.{read}
use Rattle.ml_mbox.specs.declared.mails.Boxed.{Boxed}
use Rattle.ml_plain.specs.Items.{numbered}
use Rattle.ml_reading.specs.declared.question.Answer.{Answer}
use Rattle.ml_reading.specs.declared.question.Answer.TheVariants as answers
use Rattle.ml_stream.specs.Writing.{stream_text}

-- the mails of a text, or none if it is no mailbox
abbrev pub mails_of : Text → List Boxed
mails_of text = unwrap_or (read text) []

-- the stream of the mails' deliveries, numbered from a first number on, or `Long` if the message of one is too long
abbrev pub import_answer : Config → ℕ → ℕ → List Boxed → Answer
import_answer c first moment mails =
    if list_any is_long (acts_of c mails) then answers.Long else answers.Text (stream_text (numbered first moment (acts_of c mails)))

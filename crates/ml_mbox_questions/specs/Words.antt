-- What words ask for.
use Rattle.std.specs.Prelude.{ℕ, Option, Some, None, if◌then◌else◌}
use Rattle.std.specs.Option.{option_and_then}
use Rattle.ml_base.specs.Bytes.{Text}
use Rattle.ml_base.specs.Numbers.{number_of}
use Rattle.ml_base.specs.Options.{◌>>=◌}
use Rattle.ml_base.specs.Ranges.{is_post_number}
use Rattle.ml_mbox_questions.specs.Questions.{import_first}
use Rattle.ml_mbox_questions.specs.declared.query.MboxQuery.{MboxQuery}

-- the number of a post, from 1 to 99,999,999
abbrev pub post_number_in : Text → Option ℕ
post_number_in text = do
  n ← number_of text
  if is_post_number n then Some n else None

-- the mailbox of the posts from a first to a last one
abbrev pub mbox_query : Text → Text → Option MboxQuery
mbox_query a b = do
  first ← post_number_in a
  last ← post_number_in b
  Some (record { first = first; last = last })

-- the number of the first item of an import
abbrev pub import_words : Text → Option ℕ
import_words first = option_and_then import_first (number_of first)

-- The question about an input that the trials ask, and what its answer means.
use Rattle.std.specs.Prelude.{◌≡◌, ℕ, ◌==◌, if◌then◌else◌, [], ◌∷◌, ◌++◌, length, Result, Ok, Err, true}
use Rattle.std.specs.Fmt.{decimal}
use Rattle.ml_base.specs.Bytes.{Text}
use Rattle.ml_filing.specs.Answers.{IsNoNumber}
use Rattle.ml_filing.specs.Archive.{IsNumberFile, number_name}
use Rattle.ml_reading.specs.Meanings.{Meaning}
use Rattle.ml_reading.specs.declared.question.Answer.{Answer}
use Rattle.ml_reading.specs.declared.question.Answer.TheVariants as answers

-- a name, a moment, a number of posts and an input, with single spaces
abbrev pub note_text : Text → ℕ → Text → ℕ → Text
note_text name moment input posts = name ++ (32 ∷ decimal moment ++ (32 ∷ decimal posts ++ (32 ∷ input)))

-- the answer: `absent` if the input begins with `-`, too long if it begins with `+`, and otherwise the note
abbrev pub note : Text → ℕ → Text → ℕ → Answer
note name moment [] posts = answers.Text (note_text name moment [] posts)
note name moment (first ∷ rest) posts =
    if first == 45 then answers.Absent else (if first == 43 then answers.Long else answers.Text (note_text name moment (first ∷ rest) posts))

-- the meaning of the question for a name, a moment and an input
abbrev pub note_meaning : Text → ℕ → Text → Meaning
note_meaning name moment input = record {
  by_files = λ config dir answer. (posts : ℕ) × IsNumberFile (dir number_name) posts × (answer ≡ note name moment input posts);
  of_list = λ list. note name moment input (length list.posts);
  may_miss = true;
  may_exceed = true;
  is_read = λ name. name ≡ number_name;
  is_bad = λ config dir name. IsNoNumber dir;
}

-- the question that is made of an input: an input that begins with `!` is bad at its end
abbrev pub made_of : {Q : Type 0} → (Text → Q) → Text → Result Q ℕ
made_of make [] = Ok (make [])
made_of make (first ∷ rest) = if first == 33 then Err (length (first ∷ rest)) else Ok (make (first ∷ rest))

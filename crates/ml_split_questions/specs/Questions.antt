-- What the questions about a divided set mean.
use Rattle.std.specs.Prelude.{◌≡◌, ◌&&◌, nat_le, ℕ, Bool, true, false, List, Option, Some, None, Result, Ok, Err, if◌then◌else◌}
use Rattle.ml_base.specs.Bytes.{Text}
use Rattle.ml_base.specs.declared.names.Set.{Set}
use Rattle.ml_reading.specs.Meanings.{Meaning}
use Rattle.ml_reading.specs.Queries.{text_or_absent}
use Rattle.ml_reading.specs.declared.question.Answer.{Answer}
use Rattle.ml_reading.specs.declared.question.Answer.TheVariants as answers
use Rattle.ml_split.specs.declared.rules.Rule.{Rule}
use Rattle.ml_subs.specs.Subscribers.{AreJoined, IsBadBucket, IsBucketName}
use Rattle.ml_subs.specs.declared.member_list.Member.{Member}
use Rattle.ml_split_questions.specs.Moves.{PlainMove}
use Rattle.ml_split_questions.specs.Texts.{IsMoved, division_text, moving_text}
use Rattle.ml_split_questions.specs.declared.division_question.Division.{Division}
use Rattle.ml_split_questions.specs.declared.move_question.Moving.{Moving}

-- what answers a question about a set: by files, of the members that its 53 files have together, whatever its count says; of a list, of the
-- set's members
abbrev pub set_meaning : Set → Bool → (List Member → Answer → Type 0) → (List Member → Answer) → Meaning
set_meaning set may_miss IsAnswer answer_of = record {
  by_files = λ config dir answer. (ms : List Member) × AreJoined dir set ms × IsAnswer ms answer;
  of_list = λ list. answer_of (list.sets set);
  may_miss = may_miss;
  may_exceed = false;
  is_read = IsBucketName set;
  is_bad = λ config dir name. IsBadBucket dir set name;
}

-- the parts into which rules divide a set
abbrev pub division_meaning : Set → List Rule → Meaning
division_meaning set rules = set_meaning set false (λ ms answer. answer ≡ answers.Text (division_text rules ms)) (λ ms. answers.Text (division_text rules ms))

-- what answers a question for the stream that moves a part of these members
abbrev pub IsMovedBy : PlainMove → List Rule → ℕ → List Member → Answer → Type 0
IsMovedBy words rules moment ms answer = (text : Option Text) × IsMoved rules ms words.name words.set words.into words.first moment text × (answer ≡ text_or_absent text)

-- the stream that moves a part, if there is one of the name
abbrev pub moving_meaning : PlainMove → List Rule → ℕ → Meaning
moving_meaning words rules moment =
    set_meaning words.set true (IsMovedBy words rules moment) (λ ms. text_or_absent (moving_text rules ms words.name words.set words.into words.first moment))

-- the question of rules that were read, or the place of the first line that is no rule
abbrev pub division_of : Set → Result (List Rule) ℕ → Result Division ℕ
division_of set (Ok rules) = Ok (record { set = set; rules = rules })
division_of set (Err at) = Err at

abbrev pub moving_of : PlainMove → ℕ → Result (List Rule) ℕ → Result Moving ℕ
moving_of words moment (Ok rules) = Ok (record { words = words; rules = rules; moment = moment })
moving_of words moment (Err at) = Err at

-- the words, if their first number is at least 1 and leaves room for 100,000 items after it
abbrev pub move_words : Bool → ℕ → Set → Text → Option PlainMove
move_words into first set name = if nat_le 1 first && nat_le first 999_999_900_000 then Some (record { into = into; first = first; set = set; name = name }) else None

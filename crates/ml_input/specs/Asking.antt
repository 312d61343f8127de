-- What a command does if its question is made of an input.
use Rattle.std.specs.Prelude.{◌≡◌, ◌⊎◌, ◌≤◌, ℕ, Bool, true, false, IfSome, IsTrue, None, Result, Ok, Err}
use Rattle.ml_base.specs.Bytes.{Text}
use Rattle.ml_base.specs.Faults.{Rose}
use Rattle.ml_base.specs.Ranges.{IsMoment}
use Rattle.ml_site.specs.declared.site.Site.{Ghosts}
use Rattle.ml_site.specs.declared.source.Clock.{Ghosts as ClockGhosts}
use Rattle.ml_site.specs.declared.source.Source.{Ghosts as SourceGhosts}
use Rattle.ml_ending.specs.declared.lines.Why.{Why}
use Rattle.ml_ending.specs.declared.lines.Why.TheVariants as whys
use Rattle.ml_ending.specs.Endings.{Says}
use Rattle.ml_reading.specs.Giving.{GivesAnswer}
use Rattle.ml_reading.specs.Meanings.{Meaning}
use Rattle.ml_input.specs.Input.{IsInput, IsTooLong, ReadsAtMost}
use Rattle.ml_input.specs.declared.error.InputError.{InputError}
use Rattle.ml_input.specs.declared.error.InputError.TheVariants as errors

-- A question that is made of an input: whether the clock is read for it, the most bytes of its input, which question it is by a moment and an
-- input, or at which place the input is bad, and what the question means.
pub record InputQuestion : Type 1 where
  pub Question : Type 0
  pub timed : Bool
  pub limit : ℕ
  pub made : ℕ → Text → Result Question ℕ
  pub meaning : Question → Meaning

-- what is made of words, a moment and an input: the question, the place at which the input is bad, or lack of memory
abbrev pub IsMade : {Q : Type 0} → Result Q ℕ → Result Q InputError → Type 0
IsMade made (Ok question) = made ≡ Ok question
IsMade made (Err (errors.Bad at)) = made ≡ Err at
IsMade made (Err errors.Memory) = Unit {0}

-- the whole input makes this question
abbrev pub IsQuestion : {I Q : Type 0} → SourceGhosts I → ℕ → (Text → Result Q ℕ) → I → I → Q → Type 0
IsQuestion source limit made input next question = (text : Text) × IsInput source limit input next text × (made text ≡ Ok question)

-- why an input makes no question: it can't be read, it is too long, it is bad, or memory runs out
abbrev pub HasNoQuestion : {I Q : Type 0} → SourceGhosts I → ℕ → (Text → Result Q ℕ) → I → I → Why → Type 0
HasNoQuestion source limit made input next whys.Input = Rose (source.faults input) (source.faults next) × ReadsAtMost source limit input next
HasNoQuestion source limit made input next whys.Long = IsTooLong source limit input next
HasNoQuestion source limit made input next (whys.Bad at) = (text : Text) × IsInput source limit input next text × (made text ≡ Err at)
HasNoQuestion source limit made input next whys.Memory = ReadsAtMost source limit input next
HasNoQuestion source limit made input next _ = ⊥

-- The input was read at this moment, and its question answered. Or there is no question, and a stop line says so, without a call on the disk.
abbrev pub AsksAt : {I S : Type 0} → SourceGhosts I → Ghosts S → InputQuestion → ℕ → I → I → S → S → ℕ → Type 0
AsksAt source ghosts asked moment input next old new status =
    ((question : asked.Question) × IsQuestion source asked.limit (asked.made moment) input next question × GivesAnswer ghosts (asked.meaning question) old new status)
    ⊎ ((why : Why) × HasNoQuestion source asked.limit (asked.made moment) input next why × Says ghosts old new status None why)

-- the moment of a question: the one that the clock shows, if that is told, or 0 if no clock is read
abbrev pub IsMomentOf : {K : Type 0} → ClockGhosts K → Bool → K → ℕ → Type 0
IsMomentOf clocks true clock moment = IsMoment moment × IfSome (clocks.shows clock) (λ shown. moment ≡ shown)
IsMomentOf clocks false clock moment = moment ≡ 0

-- The clock was read if it is wanted, then the input, and its question answered. Or the clock failed, and the input wasn't read; a stop
-- line says so, without a call on the disk.
abbrev pub Asks : {I S K : Type 0} → SourceGhosts I → Ghosts S → ClockGhosts K → InputQuestion → I → I → S → S → K → K → ℕ → Type 0
Asks source ghosts clocks asked input next old new clock after status =
    ((moment : ℕ) × IsMomentOf clocks asked.timed clock moment × AsksAt source ghosts asked moment input next old new status)
    ⊎ (IsTrue asked.timed × Says ghosts old new status None whys.Clock × Rose (clocks.faults clock) (clocks.faults after) × (next ≡ input))

-- the clock is read only if it is wanted
abbrev pub ReadsClock : {K : Type 0} → ClockGhosts K → Bool → K → K → Type 0
ReadsClock clocks true clock after = clocks.faults clock ≤ clocks.faults after
ReadsClock clocks false clock after = after ≡ clock

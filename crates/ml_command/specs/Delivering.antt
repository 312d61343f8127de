-- What `deliver` does.
use Rattle.std.specs.Prelude.{◌≡◌, ◌⊎◌, ℕ, None}
use Rattle.ml_base.specs.Bytes.{Text}
use Rattle.ml_base.specs.Faults.{Rose}
use Rattle.ml_plain.specs.declared.Act.TheVariants as acts
use Rattle.ml_site.specs.declared.site.Site.{Ghosts}
use Rattle.ml_site.specs.declared.source.Clock.{Ghosts as ClockGhosts}
use Rattle.ml_site.specs.declared.source.Source.{Ghosts as SourceGhosts}
use Rattle.ml_ending.specs.declared.lines.Why.{Why}
use Rattle.ml_ending.specs.declared.lines.Why.TheVariants as whys
use Rattle.ml_ending.specs.Endings.{Says}
use Rattle.ml_input.specs.Input.{HasNoInput, IsInput, IsTooLong, ReadsAtMost}
use Rattle.ml_command.specs.Single.{AnswersItem, AnswersNow}

-- the most bytes of a message
abbrev pub longest_message : ℕ
longest_message = 33_554_432

-- The clock was read, then the input, and the delivery of it answered. Or the clock failed, and the input wasn't read; or the input failed, or
-- is too long. Then a stop line says so.
abbrev pub Delivers : {I S K : Type 0} → SourceGhosts I → Ghosts S → ClockGhosts K → ℕ → Text → Text → I → I → S → S → K → K → ℕ → Type 0
Delivers source ghosts clocks number sender recipient input next old new clock after status =
    ((message : Text) × IsInput source longest_message input next message × AnswersNow clocks ghosts number (acts.Deliver sender recipient message) clock old new status)
    ⊎ ((Says ghosts old new status None whys.Clock × Rose (clocks.faults clock) (clocks.faults after) × (next ≡ input))
    ⊎ ((Says ghosts old new status None whys.Input × Rose (source.faults input) (source.faults next) × ReadsAtMost source longest_message input next)
    ⊎ (Says ghosts old new status None whys.Long × IsTooLong source longest_message input next)))

-- the same at a moment that was read
abbrev pub DeliversAt : {I S : Type 0} → SourceGhosts I → Ghosts S → ℕ → ℕ → Text → Text → I → I → S → S → ℕ → Type 0
DeliversAt source ghosts number moment sender recipient input next old new status =
    ((message : Text) × IsInput source longest_message input next message × AnswersItem ghosts (record { number = number; moment = moment; act = acts.Deliver sender recipient message }) old new status)
    ⊎ ((why : Why) × HasNoInput source longest_message input next why × Says ghosts old new status None why)

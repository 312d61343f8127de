-- What the reading of words gives.
use Rattle.std.specs.Prelude.{◌≡◌, ◌⊎◌, ◌≤◌, length, Result, Err}
use Rattle.ml_config.specs.Configuration.{IsConfig}
use Rattle.ml_command.specs.Single.{IsGiven}
use Rattle.ml_command.specs.declared.words.Command.{Command}
use Rattle.ml_command.specs.declared.words.Command.TheVariants.{Deliver, Make, Exercise, Single}
use Rattle.ml_command.specs.declared.words.WordsError.{WordsError}
use Rattle.ml_command.specs.declared.words.WordsError.TheVariants.{Memory}

-- a reading gives this, unless memory ran out
abbrev pub Reads : {V : Type 0} → Result V WordsError → Result V WordsError → Type 0
Reads wanted result = (result ≡ wanted) ⊎ (result ≡ Err Memory)

-- the ranges of what a command has
abbrev pub InRange : Command → Type 0
InRange (Deliver number sender recipient) = (number ≤ 999_999_999_999) × (length sender ≤ 1000) × (length recipient ≤ 1000)
InRange (Make config key) = IsConfig config
InRange (Exercise count) = count ≤ 999_999
InRange (Single number act) = IsGiven number act
InRange _ = Unit {0}

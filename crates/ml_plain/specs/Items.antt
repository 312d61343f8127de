-- The ranges of items, and acts as items of one moment.
use Rattle.std.specs.Prelude.{◌≤◌, ◌+◌, ℕ, List, [], ◌∷◌, length}
use Rattle.ml_base.specs.Bytes.{Text}
use Rattle.ml_base.specs.Ranges.{IsMoment}
use Rattle.ml_plain.specs.declared.Item.{Item}
use Rattle.ml_plain.specs.declared.Act.{Act}
use Rattle.ml_plain.specs.declared.Act.TheVariants.{Deliver, Sent, Floor}

-- a delivery that isn't too long: at most 1,000 bytes in the sender and in the recipient, and 33,554,432 in the message
pub record IsDelivery (sender recipient message : Text) : Type 0 where
  pub from : length sender ≤ 1000
  pub to : length recipient ≤ 1000
  pub body : length message ≤ 33_554_432

-- a number from 1 up to a largest one
pub record IsUpTo (number most : ℕ) : Type 0 where
  pub from : 1 ≤ number
  pub to : number ≤ most

-- the ranges of an act: an id is 1 to 10^15, and a floor 1 to 999,999,999,999; addresses and keys are in theirs by their types
abbrev pub IsAct : Act → Type 0
IsAct (Deliver sender recipient message) = IsDelivery sender recipient message
IsAct (Sent id) = IsUpTo id 1_000_000_000_000_000
IsAct (Floor at) = (1 ≤ at) × (at ≤ 999_999_999_999)
IsAct _ = Unit {0}

-- an item in its ranges: a number of at most 12 digits, and a moment before the year 10000
pub record IsItem (item : Item) : Type 0 where
  pub number : item.number ≤ 999_999_999_999
  pub moment : IsMoment item.moment
  pub act : IsAct item.act

-- acts as items of one moment, numbered from this number on
abbrev pub numbered : ℕ → ℕ → List Act → List Item
numbered first now [] = []
numbered first now (act ∷ more) = record { number = first; moment = now; act = act } ∷ numbered (first + 1) now more

-- the numbers of so many items from a first one on have at most twelve digits
abbrev pub AreNumbers : ℕ → ℕ → Type 0
AreNumbers first count = first + count ≤ 1_000_000_000_000

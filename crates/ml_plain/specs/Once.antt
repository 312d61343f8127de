-- Which items of a history count, by the history alone.
use Rattle.std.specs.Prelude.{ℕ, max, Bool, not, ◌&&◌, ◌||◌, ◌==◌, nat_le, if◌then◌else◌, List, [], ◌∷◌, Option, Some, None}
use Rattle.std.specs.List.{list_any}
use Rattle.ml_plain.specs.declared.Item.{Item}
use Rattle.ml_plain.specs.declared.Reply.{Reply}
use Rattle.ml_plain.specs.Answers.{floored, badfloor}
use Rattle.ml_plain.specs.Plain.{Plain}
use Rattle.ml_plain.specs.Steps.{step0}
use Rattle.ml_plain.specs.Histories.{floor_asked, may_rise}

-- what a history says about the items after it: the floor, and the numbers that its items had
pub record Past : Type 0 where
  pub floor : ℕ
  pub numbers : List ℕ

-- nothing has been: the floor is 1
abbrev pub beginning : Past
beginning = record { floor = 1; numbers = [] }

-- the number is among these
abbrev pub has_number : List ℕ → ℕ → Bool
has_number numbers number = list_any (λ n. n == number) numbers

-- an item counts if it has no number, or if its number isn't below the floor and no item before it has it
abbrev pub is_live : Past → ℕ → Bool
is_live past number = number == 0 || (nat_le past.floor number && not (has_number past.numbers number))

-- the floor after an item that counts
abbrev pub floor_by : ℕ → ℕ → Option ℕ → ℕ
floor_by floor number None = floor
floor_by floor number (Some at) = if may_rise floor number at then max floor at else floor

-- the floor after an item: one that counts may raise it
abbrev pub floor_after : Past → Item → ℕ
floor_after past item = if is_live past item.number then floor_by past.floor item.number (floor_asked item.act) else past.floor

-- what a history with one item more says
abbrev pub past_with : Past → Item → Past
past_with past item = record { floor = floor_after past item; numbers = item.number ∷ past.numbers }

-- what a history that continues another one says
abbrev pub past_from : Past → List Item → Past
past_from past [] = past
past_from past (item ∷ more) = past_from (past_with past item) more

-- what a history says about the items after it
abbrev pub past_of : List Item → Past
past_of h = past_from beginning h

-- the items that count, after a history
abbrev pub once_from : Past → List Item → List Item
once_from past [] = []
once_from past (item ∷ more) =
    if is_live past item.number then item ∷ once_from (past_with past item) more else once_from (past_with past item) more

-- the items of a history that count
abbrev pub once : List Item → List Item
once h = once_from beginning h

-- the reply to an item that counts, by the list and the floor before it
abbrev pub reply_by : Plain → ℕ → Item → Option ℕ → Reply
reply_by p floor item (Some at) = if may_rise floor item.number at then floored (max floor at) else badfloor
reply_by p floor item None = (step0 p item).1

-- the reply to an item that counts, by its act
abbrev pub own_reply : Plain → ℕ → Item → Reply
own_reply p floor item = reply_by p floor item (floor_asked item.act)

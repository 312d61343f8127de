-- Items with numbers: every number counts once, and none counts below the floor. What an item makes of a state, which is a plain list
-- with its floor and its kept replies.
use Rattle.std.specs.Prelude.{ℕ, ◌+◌, max, Bool, not, ◌&&◌, ◌||◌, ◌==◌, nat_le, nat_lt, if◌then◌else◌, List, [], ◌∷◌, ◌++◌, Option, Some, None}
use Rattle.ml_base.specs.Bytes.{Text}
use Rattle.ml_plain.specs.declared.Item.{Item}
use Rattle.ml_plain.specs.declared.Act.{Act}
use Rattle.ml_plain.specs.declared.Act.TheVariants.{Floor}
use Rattle.ml_plain.specs.declared.Reply.{Reply}
use Rattle.ml_plain.specs.Answers.{floored, stale, badfloor}
use Rattle.ml_plain.specs.Plain.{Plain}
use Rattle.ml_plain.specs.Steps.{step0}
use Rattle.ml_plain.specs.Replies.{line, status_of}

-- the replies that are kept for numbers
abbrev pub Kept : Type 0
Kept = ℕ → Option Reply

-- a list with its floor, which is at least 1, and the replies that are kept for numbers from the floor on
pub record State : Type 0 where
  pub plain : Plain
  pub floor : ℕ
  pub kept : Kept

-- no reply is kept, and the floor is 1
abbrev pub fresh : Plain → State
fresh p = record { plain = p; floor = 1; kept = λ n. None }

-- the floor that an act asks for
abbrev pub floor_asked : Act → Option ℕ
floor_asked (Floor at) = Some at
floor_asked _ = None

-- a floor may rise by at most 512,000 at once, and not above the number of its item, if that has one
abbrev pub may_rise : ℕ → ℕ → ℕ → Bool
may_rise floor number at = nat_le at (floor + 512_000) && (number == 0 || nat_le at number)

-- the replies that are left from a floor on
abbrev pub from_floor : ℕ → Kept → Kept
from_floor floor kept n = if nat_lt n floor then None else kept n

-- the state with its floor raised to this, unless it is as high already
abbrev pub with_floor : State → ℕ → State
with_floor q at = record q { floor = max q.floor at; kept = from_floor (max q.floor at) q.kept }

-- what asking for a floor does
abbrev pub raise : State → ℕ → ℕ → State × Reply
raise q number at = if may_rise q.floor number at then (with_floor q at, floored (max q.floor at)) else (q, badfloor)

-- what an item that counts does: it moves the floor, or it is a step of the list
abbrev pub effect_by : State → Item → Option ℕ → State × Reply
effect_by q item (Some at) = raise q item.number at
effect_by q item None = (record q { plain = (step0 q.plain item).0 }, (step0 q.plain item).1)

-- what an item that counts does, by its act
abbrev pub effect : State → Item → State × Reply
effect q item = effect_by q item (floor_asked item.act)

-- the replies with one more, if its item has a number
abbrev pub keep : ℕ → Reply → Kept → Kept
keep number reply kept n = if not (number == 0) && n == number then Some reply else kept n

-- what an item did, with its reply kept under its number
abbrev pub with_reply : ℕ → State × Reply → State × Reply
with_reply number done = (record done.0 { kept = keep number done.1 done.0.kept }, done.1)

-- the reply that is kept for an item's number
abbrev pub kept_for : State → ℕ → Option Reply
kept_for q number = if number == 0 then None else q.kept number

-- an item has a number, and it is below the floor
abbrev pub is_below : ℕ → ℕ → Bool
is_below floor number = not (number == 0) && nat_lt number floor

-- an item that repeats a number is answered with the number's reply; any other counts, and its reply is kept
abbrev pub step_by : State → Item → Option Reply → State × Reply
step_by q item (Some reply) = (q, reply)
step_by q item None = with_reply item.number (effect q item)

-- the state after an item, and the item's reply: below the floor that is `stale`, and nothing changes
unfoldable pub step : State → Item → State × Reply
step q item = if is_below q.floor item.number then (q, stale) else step_by q item (kept_for q item.number)

-- the state after items
abbrev pub fold : State → List Item → State
fold q [] = q
fold q (item ∷ more) = fold (step q item).0 more

-- the replies to items
abbrev pub answers : State → List Item → List Reply
answers q [] = []
answers q (item ∷ more) = (step q item).1 ∷ answers (step q item).0 more

-- the lines that answer items
abbrev pub text : State → List Item → Text
text q [] = []
text q (item ∷ more) = line item.number (step q item).1 ++ text (step q item).0 more

-- the status of the last item's reply, or this one if there is no item
abbrev pub last_from : ℕ → State → List Item → ℕ
last_from status q [] = status
last_from status q (item ∷ more) = last_from (status_of (step q item).1.code) (step q item).0 more

-- the plain list after items, all of which count
abbrev pub fold_plain : Plain → List Item → Plain
fold_plain p [] = p
fold_plain p (item ∷ more) = fold_plain (step0 p item).0 more

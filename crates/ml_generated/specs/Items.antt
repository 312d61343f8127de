-- The items of an exercise. The last digit of an item's number decides what it does.
use Rattle.std.specs.Prelude.{ℕ, zero, suc, ◌+◌, ◌*◌, ◌/◌, ◌%◌, ◌==◌, if◌then◌else◌, List, [], ◌∷◌, ◌++◌, drop}
use Rattle.ml_base.specs.Bytes.{Text}
use Rattle.ml_base.specs.declared.names.Set.TheVariants as sets
use Rattle.ml_plain.specs.declared.Act.{Act}
use Rattle.ml_plain.specs.declared.Act.TheVariants as acts
use Rattle.ml_plain.specs.declared.Item.{Item}
use Rattle.ml_stream.specs.Writing.{stream_text}
use Rattle.ml_generated.specs.Texts.{address, bounce_address, line, list_address, message, request_address}
use Rattle.ml_generated.specs.declared.items.Kind.{Kind}
use Rattle.ml_generated.specs.declared.items.Kind.TheVariants as kinds

-- the kind of an item, by the last digit of its number
abbrev pub kind_of : ℕ → Kind
kind_of digit =
    if digit == 0 then kinds.Timed else (
    if digit == 4 then kinds.Bounce else (
    if digit == 5 then kinds.Follow else (
    if digit == 6 then kinds.Leave else (
    if digit == 7 then kinds.Post else (
    if digit == 8 then kinds.Request else (
    if digit == 9 then kinds.Sent else kinds.Join))))))

-- what an item of a kind does
abbrev pub act_of : Kind → Text → Text → ℕ → Act
act_of kinds.Join local host i = acts.Add sets.List (address i)
act_of kinds.Bounce local host i = acts.Deliver [] (bounce_address local host i) (line [])
act_of kinds.Follow local host i = acts.Add sets.Digest (address i)
act_of kinds.Leave local host i = acts.Remove sets.List (address i)
act_of kinds.Post local host i = acts.Deliver (address i) (list_address local host) (message local host i)
act_of kinds.Request local host i = acts.Deliver (address i) (request_address local host) (message local host i)
act_of kinds.Sent local host i = acts.Sent ((i + 1) / 10)
act_of kinds.Timed local host i = acts.Timed

-- the item with this number, for a list with this local part and host
abbrev pub item : Text → Text → ℕ → Item
item local host i = record { number = i; moment = 1_000_000_000 + 1000 * i; act = act_of (kind_of (i % 10)) local host i }

-- `more` items, from this number on
abbrev pub items_from : Text → Text → ℕ → ℕ → List Item
items_from local host first zero = []
items_from local host first (suc more) = item local host first ∷ items_from local host (first + 1) more

-- the items of an exercise
abbrev pub generated : Text → Text → ℕ → List Item
generated local host n = items_from local host 1 n

-- the bytes that are left if `at` bytes of the held item are taken, and `ahead` items come after it, from number `next` on
abbrev pub left_of : Text → Text → Text → ℕ → ℕ → ℕ → Text
left_of local host held at next ahead = drop at held ++ stream_text (items_from local host next ahead)

-- The list of the worked examples, and items for it.
use Rattle.std.proofs.Common.{ℕ, true, false, [], ◌∷◌, ◌++◌, codes}
use Rattle.std.specs.List.{range_with_len}
use Rattle.ml_base.specs.Bytes.{Text}
use Rattle.ml_base.specs.declared.names.Set.{Set}
use Rattle.ml_base.specs.declared.names.Set.TheVariants as sets
use Rattle.ml_config.specs.declared.configuration.Config.{Config}
use Rattle.ml_config.specs.declared.configuration.Flags.{Flags}
use Rattle.ml_plain.specs.declared.Item.{Item}
use Rattle.ml_plain.specs.declared.Act.{Act}
use Rattle.ml_plain.specs.declared.Act.TheVariants.{Deliver, Timed, Add}
use Rattle.ml_plain.specs.Plain.{new_list}
use Rattle.ml_plain.specs.Histories.{State, fresh, fold}

-- the flags of a new list
abbrev pub usual : Flags
usual = record { b = false; d = false; f = false; g = false; h = false; j = false; k = false; l = false; m = false; p = true; r = false; s = false; t = false; u = false }

abbrev pub config : Flags → Config
config flags = record { flags = flags; local = codes "list"; host = codes "ex.org"; owner = codes "o@own.org"; prefix = []; max = 1048576 }

-- a new list, whose key is the bytes 0 to 31
abbrev pub a_list : Flags → State
a_list flags = fresh (new_list (config flags) (range_with_len 0 32))

abbrev pub item : ℕ → ℕ → Act → Item
item number moment act = record { number = number; moment = moment; act = act }

-- adds an address to a set at the usual moment
abbrev pub add_to : Set → Text → Item
add_to set who = item 0 1000000000 (Add set who)

abbrev pub add : Text → Item
add who = add_to sets.List who

abbrev pub timed : ℕ → Item
timed moment = item 0 moment Timed

-- the list with three members
abbrev pub three : State
three = fold (a_list usual) (add (codes "a@b") ∷ add (codes "c@d") ∷ add (codes "e@f") ∷ [])

-- a message of 45 bytes, also with another subject
abbrev pub about : Text → Text
about subject = codes "From: a@b\nTo: list@ex.org\nSubject: " ++ subject ++ codes "\n\nhi\n"

abbrev pub m : Text
m = about (codes "hello")

abbrev pub deliver : ℕ → ℕ → Text → Text → Text → Item
deliver number moment sender recipient message = item number moment (Deliver sender recipient message)

abbrev pub to_list : Text
to_list = codes "list@ex.org"

abbrev pub post_20 : Item
post_20 = deliver 20 1000000100 (codes "a@b") to_list m

-- a delivery from g@h of the message to one of the list's addresses
abbrev pub ask : ℕ → ℕ → Text → Item
ask number moment recipient = deliver number moment (codes "g@h") recipient m

-- a bounce, which comes without a sender
abbrev pub bounce : ℕ → Text → Item
bounce moment recipient = deliver 0 moment [] recipient (codes "\n")

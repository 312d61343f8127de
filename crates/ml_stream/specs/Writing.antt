-- How a stream spells an item.
use Rattle.std.specs.Prelude.{◌≡◌, ℕ, List, ◌∷◌, [], ◌++◌, length}
use Rattle.std.specs.List.{flat_map}
use Rattle.std.specs.Fmt.{decimal}
use Rattle.hex.specs.Hex.{encode_lower, IsBytes}
use Rattle.ml_base.specs.Bytes.{Text}
use Rattle.ml_base.specs.Name.{set_word}
use Rattle.ml_base.specs.Address.{IsAddress}
use Rattle.ml_base.specs.Netstrings.{ns}
use Rattle.ml_plain.specs.Items.{IsAct}
use Rattle.ml_plain.specs.declared.Item.{Item}
use Rattle.ml_plain.specs.declared.Act.{Act}
use Rattle.ml_plain.specs.declared.Act.TheVariants.{Deliver, Timed, Add, Remove, Sent, Rekey, Floor}

-- the letter of an act
abbrev pub letter : Act → ℕ
letter (Deliver sender recipient message) = 68
letter Timed = 84
letter (Add set who) = 65
letter (Remove set who) = 82
letter (Sent id) = 83
letter (Rekey key) = 75
letter (Floor at) = 70

-- the elements of an act
abbrev pub spelled_act : Act → Text
spelled_act (Deliver sender recipient message) = ns sender ++ ns recipient ++ ns message
spelled_act Timed = []
spelled_act (Add set who) = ns (set_word set) ++ ns who
spelled_act (Remove set who) = ns (set_word set) ++ ns who
spelled_act (Sent id) = ns (decimal id)
spelled_act (Rekey key) = ns (encode_lower key)
spelled_act (Floor at) = ns (decimal at)

-- the letter, the number, the moment, and the elements of the act
abbrev pub spelled_item : Item → Text
spelled_item item = letter item.act ∷ ns (decimal item.number) ++ ns (decimal item.moment) ++ spelled_act item.act

-- items in a row
abbrev pub stream_text : List Item → Text
stream_text items = flat_map spelled_item items

-- what the types say of an act: that an address is one, and that a key has 32 bytes
abbrev pub IsTyped : Act → Type 0
IsTyped (Deliver sender recipient message) = Unit {0}
IsTyped Timed = Unit {0}
IsTyped (Add set who) = IsAddress who
IsTyped (Remove set who) = IsAddress who
IsTyped (Sent id) = Unit {0}
IsTyped (Rekey key) = (length key ≡ 32) × IsBytes key
IsTyped (Floor at) = Unit {0}

-- an act that an item of a stream can have
abbrev pub IsGood : Act → Type 0
IsGood act = IsAct act × IsTyped act

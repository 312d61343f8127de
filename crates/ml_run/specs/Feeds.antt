-- What gives a run its items.
use Rattle.std.specs.Prelude.{◌≡◌, ℕ, [], length, Option, Some, None, IfSome}
use Rattle.ml_base.specs.Bytes.{Text}
use Rattle.ml_plain.specs.Items.{IsItem}
use Rattle.ml_plain.specs.declared.Item.{Item}
use Rattle.ml_stream.specs.declared.items.Items.{Items}
use Rattle.ml_stream.specs.Items.{place_of, ahead_of}
use Rattle.ml_stream.specs.Writing.{IsTyped, spelled_item}

-- a reader at the front of a stream
pub record IsFresh (reader : Items) : Type 0 where
  pub place : place_of reader ≡ 0
  pub ahead : ahead_of reader ≡ None

-- a reader at this place, with nothing read ahead
abbrev pub reader_at : ℕ → Items
reader_at place = record { reader = record { place = place; ahead = None }; failed = None }

-- the reader of an item's own bytes: before the item, and after it once it was given
abbrev pub reader_held : Item → Option Item → Items
reader_held item (Some held) = reader_at 0
reader_held item None = reader_at (length (spelled_item item))

-- an item's own bytes, and none once it was given
abbrev pub bytes_held : Item → Option Item → Text
bytes_held item (Some held) = spelled_item item
bytes_held item None = []

-- an item that a stream can have, which is in hand or was
pub record IsHeld (item : Item) (held : Option Item) : Type 0 where
  pub ranges : IsItem item
  pub typed : IsTyped item.act
  pub same : IfSome held (λ x. x ≡ item)

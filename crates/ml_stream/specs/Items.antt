-- What an `Items` still has to read, and what it answers.
use Rattle.std.specs.Prelude.{◌≡◌, ℕ, Option, Result, Ok, Err}
use Rattle.ml_base.specs.Bytes.{Text}
use Rattle.ml_plain.specs.declared.Item.{Item}
use Rattle.ml_stream.specs.Stream.{Read, got}
use Rattle.ml_stream.specs.Reading.{Stands, Tells}
use Rattle.ml_stream.specs.declared.items.Items.{Items}
use Rattle.ml_stream.specs.declared.stream_error.StreamError.{StreamError}

-- its place in the stream
abbrev pub place_of : Items → ℕ
place_of items = items.reader.place

-- the byte that it has read ahead, if any
abbrev pub ahead_of : Items → Option ℕ
ahead_of items = items.reader.ahead

-- the error that it answers from now on, if there was one
abbrev pub error_of : Items → Option StreamError
error_of items = items.failed

-- what it has yet to read is bs, if the source has `left` left
abbrev pub HasLeft : Items → Option Text → Text → Type 0
HasLeft items left bs = Stands items.reader.place items.reader.ahead left bs

-- it answered what reading gives, and it now stands after that
abbrev pub NextRead : Result (Option Item) StreamError → Items → Option Text → Read (Option Item) → Type 0
NextRead (Ok item) items left read = (rest : Text) × (read ≡ got item (place_of items) rest) × HasLeft items left rest
NextRead (Err e) items left read = Tells e read

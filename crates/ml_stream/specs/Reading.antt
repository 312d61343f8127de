-- What a reader has left of its stream, and how far it gets when it fails.
use Rattle.std.specs.Prelude.{◌≡◌, ◌⊎◌, ℕ, ◌+◌, ◌^◌, ◌<◌, [], ◌++◌, length, Option, Some, None, Result, Ok, Err}
use Rattle.std.specs.Option.{option_to_list}
use Rattle.ml_base.specs.Bytes.{Text}
use Rattle.ml_stream.specs.Stream.{Read, StreamEnd, IsStream, got}
use Rattle.ml_stream.specs.declared.stream_error.StreamError.{StreamError}
use Rattle.ml_stream.specs.declared.stream_error.StreamError.TheVariants.{Bad, Short, Fault, Memory}

-- These bytes are left from this place on, including the byte read ahead, and their places fit in 64 bits.
pub record Stands (place : ℕ) (ahead : Option ℕ) (left : Option Text) (bs : Text) : Type 0 where
  pub own : Text
  pub is_left : left ≡ Some own
  pub is_all : bs ≡ option_to_list ahead ++ own
  pub room : place + length bs < 2 ^ 64

-- an error that says something of the stream is the one that reading gives
abbrev pub Tells : {Y : Type 0} → StreamError → Read Y → Type 0
Tells (Bad at) read = read ≡ Err (Bad at)
Tells (Short at) read = read ≡ Err (Short at)
Tells Fault read = Unit {0}
Tells Memory read = Unit {0}

-- What a function answered is what reading gives, unless the source failed or memory ran out.
abbrev pub Reads : {X : Type 0} → Result X StreamError → ℕ → Option ℕ → Option Text → Read X → Type 0
Reads (Ok x) place ahead left read = (rest : Text) × (read ≡ Ok (record { value = x; place = place; rest = rest })) × Stands place ahead left rest
Reads (Err e) place ahead left read = Tells e read

-- one byte was taken from the beginning, or none because none is left
pub record Steps (old place : ℕ) (ahead : Option ℕ) (left : Option Text) (bs : Text) (b : Option ℕ) : Type 0 where
  pub rest : Text
  pub is_all : bs ≡ option_to_list b ++ rest
  pub stands : Stands place ahead left rest
  pub place_is : place ≡ old + length (option_to_list b)
  pub end : b ≡ None → rest ≡ []

-- fewer than `size` bytes were taken from the beginning
pub record IsCut (size : ℕ) (bs : Text) (left : Option Text) : Type 0 where
  pub front : Text
  pub rest : Text
  pub few : length front < size
  pub split : bs ≡ front ++ rest
  pub left_is : left ≡ Some rest

-- no value is read
abbrev pub Fails : {X : Type 0} → Read X → Type 0
Fails read = (e : StreamError) × (read ≡ Err e)

-- no value is read, or one after which no byte is left
abbrev pub IsUnfinished : {X : Type 0} → Read X → Type 0
IsUnfinished {X} read = Fails read ⊎ ((value : X) × (place : ℕ) × (read ≡ got value place []))

-- these bytes don't begin with a whole item
abbrev pub IsNoItem : ℕ → Text → Type 0
IsNoItem place bs = (ending : StreamEnd) × IsStream place bs [] ending

-- an error that says nothing of the stream: the source failed, or memory ran out
abbrev pub IsHindrance : StreamError → Type 0
IsHindrance e = (e ≡ Fault) ⊎ (e ≡ Memory)

-- An error was answered and some first bytes were taken. If the error says nothing of the stream, P holds of these bytes alone.
pub record EndsEarly (e : StreamError) (left : Option Text) (bs : Text) (P : Text → Type 0) : Type 0 where
  pub front : Text
  pub rest : Text
  pub split : bs ≡ front ++ rest
  pub left_is : left ≡ Some rest
  pub cut : IsHindrance e → P front

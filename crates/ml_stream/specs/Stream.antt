-- The grammar of the stream: items as a letter and netstrings, where each begins, and where it is bad or cut short.
use Rattle.std.specs.Prelude.{◌≡◌, ℕ, suc, ◌+◌, ◌-◌, ◌*◌, true, false, ◌==◌, nat_lt, if◌then◌else◌, List, [], ◌∷◌, length, take, drop, Option, Some, None, Result, Ok, Err}
use Rattle.std.specs.Str.{bytes_eq}
use Rattle.hex.specs.Hex.{decode_sized, encode_lower}
use Rattle.hex.specs.declared.error.FromHexError.{FromHexError}
use Rattle.ml_base.specs.Bytes.{Text, colon, comma}
use Rattle.ml_base.specs.Numbers.{moment_in, number_within, is_next_digit}
use Rattle.ml_base.specs.Name.{set_of}
use Rattle.ml_base.specs.declared.names.Set.{Set}
use Rattle.ml_base.specs.Address.{address_of}
use Rattle.ml_plain.specs.declared.Item.{Item}
use Rattle.ml_plain.specs.declared.Act.{Act}
use Rattle.ml_plain.specs.declared.Act.TheVariants as acts
use Rattle.ml_stream.specs.declared.reader.Letter.{Letter}
use Rattle.ml_stream.specs.declared.reader.Letter.TheVariants as letters
use Rattle.ml_stream.specs.declared.stream_error.StreamError.{StreamError}
use Rattle.ml_stream.specs.declared.stream_error.StreamError.TheVariants.{Bad, Short}

-- a value that was read, the place after it, and the bytes from there on
pub record Got (X : Type 0) : Type 0 where
  pub value : X
  pub place : ℕ
  pub rest : Text

-- what is read of bytes: a value, or why there is none
abbrev pub Read : Type 0 → Type 0
Read X = Result (Got X) StreamError

abbrev pub got : {X : Type 0} → X → ℕ → Text → Read X
got value place rest = Ok (record { value = value; place = place; rest = rest })

-- goes on reading after what was got
abbrev pub and_then : {A B : Type 0} → Read A → (Got A → Read B) → Read B
and_then (Ok found) next = next found
and_then (Err e) next = Err e

-- The length of the netstring that begins at start, up to its colon; `count` digits, of value n, were read before this place.
-- It is bad as soon as its digits are.
abbrev pub length_at : ℕ → ℕ → ℕ → ℕ → ℕ → Text → Read ℕ
length_at start limit count n place [] = Err (Short start)
length_at start limit count n place (b ∷ bs) =
    elim (b == colon) [
      | true ↦ if count == 0 then Err (Bad start) else got n (place + 1) bs
      | false ↦ elim (is_next_digit limit count n b) [ true ↦ length_at start limit (suc count) (10 * n + (b - 48)) (place + 1) bs | false ↦ Err (Bad start) ]
    ]

-- as many bytes of content as the length says
abbrev pub bytes_at : ℕ → Got ℕ → Read Text
bytes_at start l = if nat_lt (length l.rest) l.value then Err (Short start) else got (take l.value l.rest) (l.place + l.value) (drop l.value l.rest)

-- the content of the netstring that begins at start, without the comma after it
abbrev pub content_at : ℕ → ℕ → Text → Read Text
content_at start limit bs = and_then (length_at start limit 0 0 start bs) (bytes_at start)

-- the comma after a content
abbrev pub comma_at : ℕ → ℕ → Text → Read (Unit {0})
comma_at start place [] = Err (Short start)
comma_at start place (b ∷ bs) = if b == comma then got tt (place + 1) bs else Err (Bad start)

-- a content that is allowed, and its comma
abbrev pub closed : {X : Type 0} → ℕ → Option X → ℕ → Text → Read X
closed start None place bs = Err (Bad start)
closed start (Some x) place bs = and_then (comma_at start place bs) (λ after. got x after.place after.rest)

-- an element: a netstring whose length is within the limit and whose content `read` accepts
abbrev pub element_at : {X : Type 0} → ℕ → (Text → Option X) → ℕ → Text → Read X
element_at limit read start bs = and_then (content_at start limit bs) (λ content. closed start (read content.value) content.place content.rest)

-- the number of an item
abbrev pub item_number_of : Text → Option ℕ
item_number_of text = number_within 999_999_999_999 text

-- a number that is not 0
abbrev pub some_positive : Option ℕ → Option ℕ
some_positive None = None
some_positive (Some n) = if n == 0 then None else Some n

-- a number from 1 up to a largest one
abbrev pub positive_within : ℕ → Text → Option ℕ
positive_within most text = some_positive (number_within most text)

-- a floor: 1 to 999,999,999,999
abbrev pub floor_of : Text → Option ℕ
floor_of text = positive_within 999_999_999_999 text

-- the id of an entry of the queue: 1 to 10^15
abbrev pub id_of : Text → Option ℕ
id_of text = positive_within 1_000_000_000_000_000 text

-- any bytes, as a sender, a recipient or a message has them
abbrev pub any_bytes : Text → Option Text
any_bytes text = Some text

-- a key of 32 bytes, spelled by 64 hexadecimal digits in lower case
abbrev pub some_key : Text → Result Text FromHexError → Option Text
some_key text (Ok key) = if bytes_eq (encode_lower key) text then Some key else None
some_key text (Err e) = None

abbrev pub key_of : Text → Option Text
key_of text = some_key text (decode_sized text 32)

-- the kind of an item, from its first byte
abbrev pub letter_of : ℕ → Option Letter
letter_of b =
    if b == 65 then Some letters.Add else (
    if b == 68 then Some letters.Deliver else (
    if b == 70 then Some letters.Floor else (
    if b == 75 then Some letters.Rekey else (
    if b == 82 then Some letters.Remove else (
    if b == 83 then Some letters.Sent else (
    if b == 84 then Some letters.Timed else None))))))

-- a set and an address, and what is done to them
abbrev pub member_at : (Set → Text → Act) → ℕ → Text → Read Act
member_at act place bs =
    and_then (element_at 6 set_of place bs) (λ set.
    and_then (element_at 400 address_of set.place set.rest) (λ who.
    got (act set.value who.value) who.place who.rest))

abbrev pub add_at : ℕ → Text → Read Act
add_at place bs = member_at (λ set who. acts.Add set who) place bs

abbrev pub remove_at : ℕ → Text → Read Act
remove_at place bs = member_at (λ set who. acts.Remove set who) place bs

-- a floor
abbrev pub floor_at : ℕ → Text → Read Act
floor_at place bs = and_then (element_at 12 floor_of place bs) (λ at. got (acts.Floor at.value) at.place at.rest)

-- a key
abbrev pub rekey_at : ℕ → Text → Read Act
rekey_at place bs = and_then (element_at 64 key_of place bs) (λ key. got (acts.Rekey key.value) key.place key.rest)

-- a sender and a recipient of at most 1,000 bytes each, and a message of at most 33,554,432
abbrev pub deliver_at : ℕ → Text → Read Act
deliver_at place bs =
    and_then (element_at 1000 any_bytes place bs) (λ sender.
    and_then (element_at 1000 any_bytes sender.place sender.rest) (λ recipient.
    and_then (element_at 33_554_432 any_bytes recipient.place recipient.rest) (λ message.
    got (acts.Deliver sender.value recipient.value message.value) message.place message.rest)))

-- an id
abbrev pub sent_at : ℕ → Text → Read Act
sent_at place bs = and_then (element_at 16 id_of place bs) (λ id. got (acts.Sent id.value) id.place id.rest)

-- the elements of an act, after number and moment
abbrev pub act_at : Letter → ℕ → Text → Read Act
act_at letters.Add place bs = add_at place bs
act_at letters.Deliver place bs = deliver_at place bs
act_at letters.Floor place bs = floor_at place bs
act_at letters.Rekey place bs = rekey_at place bs
act_at letters.Remove place bs = remove_at place bs
act_at letters.Sent place bs = sent_at place bs
act_at letters.Timed place bs = got acts.Timed place bs

-- the elements of an item after its letter
unfoldable pub elements_at : Letter → ℕ → Text → Read Item
elements_at letter place bs =
    and_then (element_at 12 item_number_of place bs) (λ number.
    and_then (element_at 12 moment_in number.place number.rest) (λ moment.
    and_then (act_at letter moment.place moment.rest) (λ act.
    got (record { number = number.value; moment = moment.value; act = act.value }) act.place act.rest)))

abbrev pub some_item : Got Item → Read (Option Item)
some_item item = got (Some item.value) item.place item.rest

abbrev pub after_letter : ℕ → Option Letter → Text → Read (Option Item)
after_letter place None bs = Err (Bad place)
after_letter place (Some letter) bs = and_then (elements_at letter (place + 1) bs) some_item

-- an item from its letter on, or None at the end
abbrev pub item_at : ℕ → Text → Read (Option Item)
item_at place [] = got None place []
item_at place (b ∷ bs) = after_letter place (letter_of b) bs

-- what comes after the whole items: the end, or an element that is bad or cut short
pub data StreamEnd : Type 0 where
  End : StreamEnd
  Broken : StreamError → StreamEnd

-- the bytes from a place on are these items, and then this end
abbrev pub IsStream : ℕ → Text → List Item → StreamEnd → Type 0
IsStream place bs [] End = item_at place bs ≡ got None place []
IsStream place bs [] (Broken e) = item_at place bs ≡ Err e
IsStream place bs (item ∷ items) ending = (next : ℕ) × (rest : Text) × (item_at place bs ≡ got (Some item) next rest) × IsStream next rest items ending

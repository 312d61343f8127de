-- Any bytes are a stream, of exactly one list of items.
use Rattle.std.proofs.Common.{◌≡◌, ℕ, suc, zero, ◌+◌, ◌-◌, ◌*◌, ◌<◌, ◌≤◌, Bool, true, false, ◌==◌, nat_lt, if◌then◌else◌, List, [], ◌∷◌, length, take, drop, Option, Some, None, Ok, Err, ap, sym, refl, ◌∙◌, arith, length-drop}
use Rattle.ml_base.specs.Bytes.{Text}
use Rattle.ml_base.specs.Numbers.{moment_in, is_next_digit}
use Rattle.ml_base.specs.Name.{set_of}
use Rattle.ml_base.specs.Address.{address_of}
use Rattle.ml_base.specs.declared.names.Set.{Set}
use Rattle.ml_plain.specs.declared.Act.{Act}
use Rattle.ml_plain.specs.declared.Act.TheVariants.{Add, Remove}
use Rattle.ml_plain.specs.declared.Item.{Item}
use Rattle.ml_stream.specs.declared.reader.Letter.{Letter}
use Rattle.ml_stream.specs.declared.reader.Letter.TheVariants as letters
use Rattle.ml_stream.specs.declared.stream_error.StreamError.TheVariants.{Bad, Short}
use Rattle.ml_stream.specs.Stream.{Got, Read, got, and_then, length_at, content_at, comma_at, closed, element_at, item_number_of, floor_of, id_of, key_of, any_bytes, member_at, add_at, remove_at, deliver_at, sent_at, floor_at, rekey_at, act_at, elements_at, item_at, letter_of, after_letter, some_item, StreamEnd, End, Broken, IsStream}
use Rattle.ml_stream.proofs.Ahead.{stream_end, stream_err, stream_item}

-- what was got leaves fewer bytes
abbrev Shorter : {X : Type 0} → Text → Read X → Type 0
Shorter bs (Ok got) = length got.rest < length bs
Shorter bs (Err e) = Unit {0}

abbrev NoLonger : {X : Type 0} → Text → Read X → Type 0
NoLonger bs (Ok got) = length got.rest ≤ length bs
NoLonger bs (Err e) = Unit {0}

less_then : {A B : Type 0} (bs : Text) (r : Read A) (f : Got A → Read B) → Shorter bs r → ((got : Got A) → NoLonger got.rest (f got)) → Shorter bs (and_then r f)
less_then bs (Err e) f s g = tt
less_then {A} {B} bs (Ok got) f s g = go (f got) (g got)
  where
    go : (x : Read B) → NoLonger got.rest x → Shorter bs x
    go (Ok y) h = omega (arith, h, s)
    go (Err e) h = tt

shorter_is : {X : Type 0} (bs : Text) (r : Read X) → Shorter bs r → NoLonger bs r
shorter_is bs (Ok got) s = omega (arith, s)
shorter_is bs (Err e) s = tt

choose : {X : Type 0} (b : Bool) (bs : Text) (x y : Read X) → Shorter bs x → Shorter bs y → Shorter bs (if b then x else y)
choose true bs x y p q = p
choose false bs x y p q = q

either : {X : Type 0} (b : Bool) (bs : Text) (x y : Read X) → Shorter bs x → Shorter bs y → Shorter bs (elim b [ true ↦ x | false ↦ y ])
either true bs x y p q = p
either false bs x y p q = q

weaker : {X : Type 0} (b : ℕ) (bs : Text) (r : Read X) → Shorter bs r → Shorter (b ∷ bs) r
weaker b bs (Ok got) s = omega (arith, s)
weaker b bs (Err e) s = tt

length_shorter : (start limit count n place : ℕ) (bs : Text) → Shorter bs (length_at start limit count n place bs)
length_shorter start limit count n place [] = tt
length_shorter start limit count n place (b ∷ bs) =
    either (b == 58) (b ∷ bs) (if count == 0 then Err (Bad start) else got n (place + 1) bs)
    (elim (is_next_digit limit count n b) [ true ↦ length_at start limit (suc count) (10 * n + (b - 48)) (place + 1) bs | false ↦ Err (Bad start) ])
    (choose (count == 0) (b ∷ bs) (Err (Bad start)) (got n (place + 1) bs) tt (omega arith))
    (either (is_next_digit limit count n b) (b ∷ bs) (length_at start limit (suc count) (10 * n + (b - 48)) (place + 1) bs) (Err (Bad start))
    (weaker b bs (length_at start limit (suc count) (10 * n + (b - 48)) (place + 1) bs) (length_shorter start limit (suc count) (10 * n + (b - 48)) (place + 1) bs)) tt)

choose_long : {X : Type 0} (b : Bool) (bs : Text) (x y : Read X) → NoLonger bs x → NoLonger bs y → NoLonger bs (if b then x else y)
choose_long true bs x y p q = p
choose_long false bs x y p q = q

comma_long : (start place : ℕ) (bs : Text) → NoLonger bs (comma_at start place bs)
comma_long start place [] = tt
comma_long start place (b ∷ bs) = choose_long (b == 44) (b ∷ bs) (Ok (record { value = tt; place = place + 1; rest = bs })) (Err (Bad start)) (omega arith) tt

long_then : {A B : Type 0} (bs : Text) (r : Read A) (f : Got A → Read B) → NoLonger bs r → ((got : Got A) → NoLonger got.rest (f got)) → NoLonger bs (and_then r f)
long_then bs (Err e) f s g = tt
long_then {A} {B} bs (Ok got) f s g = go (f got) (g got)
  where
    go : (x : Read B) → NoLonger got.rest x → NoLonger bs x
    go (Ok y) h = omega (arith, h, s)
    go (Err e) h = tt

closed_long : {X : Type 0} (start : ℕ) (o : Option X) (place : ℕ) (bs : Text) → NoLonger bs (closed start o place bs)
closed_long start None place bs = tt
closed_long start (Some x) place bs = long_then bs (comma_at start place bs) (λ got. Ok (record { value = x; place = got.place; rest = got.rest })) (comma_long start place bs) (λ got. omega arith)

element_shorter : {X : Type 0} (limit : ℕ) (read : Text → Option X) (start : ℕ) (bs : Text) → Shorter bs (element_at limit read start bs)
element_shorter limit read start bs =
    less_then bs (content_at start limit bs) (λ got. closed start (read got.value) got.place got.rest)
    (less_then bs (length_at start limit 0 0 start bs) (λ l. if nat_lt (length l.rest) l.value then Err (Short start) else Ok (record { value = take l.value l.rest; place = l.place + l.value; rest = drop l.value l.rest }))
    (length_shorter start limit 0 0 start bs)
    (λ l. choose_long (nat_lt (length l.rest) l.value) l.rest (Err (Short start)) (Ok (record { value = take l.value l.rest; place = l.place + l.value; rest = drop l.value l.rest })) tt (omega (arith, length-drop l.value l.rest))))
    (λ got. closed_long start (read got.value) got.place got.rest)

member_shorter : (act : Set → Text → Act) (place : ℕ) (bs : Text) → Shorter bs (member_at act place bs)
member_shorter act place bs =
    less_then bs (element_at 6 set_of place bs) _ (element_shorter 6 set_of place bs) (λ set.
    long_then set.rest (element_at 400 address_of set.place set.rest) _ (shorter_is set.rest (element_at 400 address_of set.place set.rest) (element_shorter 400 address_of set.place set.rest)) (λ who. omega arith))

deliver_shorter : (place : ℕ) (bs : Text) → Shorter bs (deliver_at place bs)
deliver_shorter place bs =
    less_then bs (element_at 1000 any_bytes place bs) _ (element_shorter 1000 any_bytes place bs) (λ sender.
    long_then sender.rest (element_at 1000 any_bytes sender.place sender.rest) _ (shorter_is sender.rest (element_at 1000 any_bytes sender.place sender.rest) (element_shorter 1000 any_bytes sender.place sender.rest)) (λ recipient.
    long_then recipient.rest (element_at 33_554_432 any_bytes recipient.place recipient.rest) _
    (shorter_is recipient.rest (element_at 33_554_432 any_bytes recipient.place recipient.rest) (element_shorter 33_554_432 any_bytes recipient.place recipient.rest)) (λ message. omega arith)))

act_longer : (letter : Letter) (place : ℕ) (bs : Text) → NoLonger bs (act_at letter place bs)
act_longer letters.Add place bs = shorter_is bs (add_at place bs) (member_shorter (λ set who. Add set who) place bs)
act_longer letters.Remove place bs = shorter_is bs (remove_at place bs) (member_shorter (λ set who. Remove set who) place bs)
act_longer letters.Rekey place bs = shorter_is bs (rekey_at place bs) (less_then bs (element_at 64 key_of place bs) _ (element_shorter 64 key_of place bs) (λ key. omega arith))
act_longer letters.Floor place bs = shorter_is bs (floor_at place bs) (less_then bs (element_at 12 floor_of place bs) _ (element_shorter 12 floor_of place bs) (λ at. omega arith))
act_longer letters.Deliver place bs = shorter_is bs (deliver_at place bs) (deliver_shorter place bs)
act_longer letters.Sent place bs = shorter_is bs (sent_at place bs) (less_then bs (element_at 16 id_of place bs) _ (element_shorter 16 id_of place bs) (λ id. omega arith))
act_longer letters.Timed place bs = omega arith

elements_shorter : (letter : Letter) (place : ℕ) (bs : Text) → Shorter bs (elements_at letter place bs)
unfolding elements_at
elements_shorter letter place bs =
    less_then bs (element_at 12 item_number_of place bs) _ (element_shorter 12 item_number_of place bs) (λ number.
    long_then number.rest (element_at 12 moment_in number.place number.rest) _ (shorter_is number.rest (element_at 12 moment_in number.place number.rest) (element_shorter 12 moment_in number.place number.rest)) (λ moment.
    long_then moment.rest (act_at letter moment.place moment.rest) _ (act_longer letter moment.place moment.rest) (λ act. omega arith)))

abbrev Streams : ℕ → Text → Type 0
Streams place bs = (items : List Item) × (ending : StreamEnd) × IsStream place bs items ending

on_item : (n place : ℕ) (bs whole : Text) (r : Read Item) → length bs ≤ n → ((p : ℕ) (rest : Text) → length rest < length bs → Streams p rest) → item_at place whole ≡ and_then r some_item → Shorter bs r → Streams place whole
on_item n place bs whole (Err e) le rec is s = ([], Broken e, is)
on_item n place bs whole (Ok found) le rec is s = let t = rec found.place found.rest s in (found.value ∷ t.0, t.1, (found.place, found.rest, is, t.2))

on_letter : (n place : ℕ) (bs whole : Text) (o : Option Letter) → length bs ≤ n → ((p : ℕ) (rest : Text) → length rest < length bs → Streams p rest)
    → item_at place whole ≡ after_letter place o bs → Streams place whole
on_letter n place bs whole (Some letter) le rec is = on_item n place bs whole (elements_at letter (place + 1) bs) le rec is (elements_shorter letter (place + 1) bs)
on_letter n place bs whole None le rec is = ([], Broken (Bad place), is)

streams_by : (n place : ℕ) (bs : Text) → length bs ≤ n → Streams place bs
streams_by n place [] le = ([], End, refl)
streams_by zero place (b ∷ bs) le = absurd (omega arith)
streams_by (suc n) place (b ∷ bs) le = on_letter n place bs (b ∷ bs) (letter_of b) (omega arith) (λ p rest s. streams_by n p rest (omega (arith, s))) refl

-- any bytes are a stream of some items
pub streams : (place : ℕ) (bs : Text) → (items : List Item) × (ending : StreamEnd) × IsStream place bs items ending
streams place bs = streams_by (length bs) place bs (omega arith)

-- and of no others
pub one_stream : (place : ℕ) (bs : Text) (items others : List Item) (ending other : StreamEnd) → IsStream place bs items ending → IsStream place bs others other → (items ≡ others) × (ending ≡ other)
one_stream place bs [] others End other s t = let e = stream_end place place bs [] others other t s in (sym e.0, sym e.1)
one_stream place bs [] others (Broken x) other s t = let e = stream_err place bs x others other t s in (sym e.0, sym e.1)
one_stream place bs (i ∷ is) others ending other s t =
    let e = stream_item place s.0 bs s.1 i others other t s.2 in
    let more = one_stream s.0 s.1 is e.0 ending other s.3 e.2 in
    (ap (λ (l : List Item). i ∷ l) more.0 ∙ sym e.1, more.1)

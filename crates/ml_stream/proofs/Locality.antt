-- Reading an item looks at no byte after the item.
use Rattle.std.proofs.Common.{◌≡◌, ℕ, suc, ◌+◌, ◌-◌, ◌*◌, ◌≤◌, Bool, true, false, ◌==◌, nat_lt, if◌then◌else◌, [], ◌∷◌, ◌++◌, length, take, drop, Option, Some, None, Ok, Err, ap, sym, refl, ◌∙◌, arith, append_assoc}
use Rattle.std.proofs.lemmas.List.{take-append-drop, length-take-le}
use Rattle.std.proofs.lemmas.Bool.Decides.{nat_tests}
use Rattle.ml_base.specs.Bytes.{Text}
use Rattle.ml_base.specs.Numbers.{moment_in, is_next_digit}
use Rattle.ml_base.specs.Name.{set_of}
use Rattle.ml_base.specs.Address.{address_of}
use Rattle.ml_base.specs.declared.names.Set.{Set}
use Rattle.ml_plain.specs.declared.Act.{Act}
use Rattle.ml_plain.specs.declared.Act.TheVariants.{Deliver, Timed, Add, Remove, Sent, Floor, Rekey}
use Rattle.ml_plain.specs.declared.Item.{Item}
use Rattle.ml_stream.specs.declared.reader.Letter.{Letter}
use Rattle.ml_stream.specs.declared.reader.Letter.TheVariants as letters
use Rattle.ml_stream.specs.declared.stream_error.StreamError.{StreamError}
use Rattle.ml_stream.specs.declared.stream_error.StreamError.TheVariants.{Bad, Short}
use Rattle.ml_stream.specs.Stream.{Got, Read, got, and_then, length_at, bytes_at, content_at, comma_at, closed, element_at, item_number_of, floor_of, id_of, key_of, any_bytes, member_at, deliver_at, act_at, elements_at, item_at, letter_of, after_letter, some_item}
use Rattle.ml_stream.proofs.Elements.{content_full, sender_then, recipient_then, message_then}

-- the bytes that were read, at the beginning: whatever comes after them, the same is got
pub record ReadsFront {X : Type 0} (f : Text → Read X) (bs : Text) (g : Got X) : Type 0 where
  pub one : Text
  pub split : bs ≡ one ++ g.rest
  pub all : (more : Text) → f (one ++ more) ≡ got g.value g.place more

abbrev pub IsLocal : {X : Type 0} → (Text → Read X) → Type 0
IsLocal {X} f = (bs : Text) (g : Got X) → f bs ≡ Ok g → ReadsFront f bs g

err_ok : {X : Type 0} (e : StreamError) (g : Got X) → ◌≡◌ {A = Read X} (Err e) (Ok g) → ⊥
err_ok e g is = cc

ok_same : {X : Type 0} (x y : Got X) → ◌≡◌ {A = Read X} (Ok x) (Ok y) → x ≡ y
ok_same x y is = cc

-- nothing is read
pub got_local : {X : Type 0} (value : X) (place : ℕ) → IsLocal (λ bs. got value place bs)
got_local {X} value place bs g is =
    let same : record { value = value; place = place; rest = bs } ≡ g = ok_same (record { value = value; place = place; rest = bs }) g is in record {
      one = [];
      split = ap (λ (x : Got X). x.rest) same;
      all = λ more. ap (λ (x : Got X). got x.value x.place more) same;
    }

-- one byte is read
byte_local : {X : Type 0} (f : Text → Read X) (b : ℕ) (bs : Text) (g : Got X) (value : X) (place : ℕ) → ((more : Text) → f (b ∷ more) ≡ got value place more) → f (b ∷ bs) ≡ Ok g → ReadsFront f (b ∷ bs) g
byte_local {X} f b bs g value place each is =
    let same : record { value = value; place = place; rest = bs } ≡ g = ok_same (record { value = value; place = place; rest = bs }) g (sym (each bs) ∙ is) in record {
      one = b ∷ [];
      split = ap (λ (x : Got X). b ∷ x.rest) same;
      all = λ more. each more ∙ ap (λ (x : Got X). got x.value x.place more) same;
    }

-- one byte is read, and then what the rest gives
byte_more : {X : Type 0} (f h : Text → Read X) (b : ℕ) (bs : Text) (g : Got X) → ((more : Text) → f (b ∷ more) ≡ h more) → ReadsFront h bs g → ReadsFront f (b ∷ bs) g
byte_more f h b bs g each r = record { one = b ∷ r.one; split = ap (λ (t : Text). b ∷ t) r.split; all = λ more. each (r.one ++ more) ∙ r.all more }

pub then_local : {A B : Type 0} (f : Text → Read A) (h : Got A → Read B) → IsLocal f → ((value : A) (place : ℕ) → IsLocal (λ bs. h (record { value = value; place = place; rest = bs }))) → IsLocal (λ bs. and_then (f bs) h)
then_local {A} {B} f h first next bs g is = go (f bs) refl is
  where
    go : (r : Read A) → f bs ≡ r → and_then r h ≡ Ok g → ReadsFront (λ bs. and_then (f bs) h) bs g
    go (Err e) same is = absurd (err_ok e g is)
    go (Ok x) same is =
        let one = first bs x same in
        let two = next x.value x.place x.rest g is in record {
          one = one.one ++ two.one;
          split = one.split ∙ ap (λ (t : Text). one.one ++ t) two.split ∙ sym (append_assoc one.one two.one g.rest);
          all = λ more. ap (λ (t : Text). and_then (f t) h) (append_assoc one.one two.one more) ∙ ap (λ (r : Read A). and_then r h) (one.all (two.one ++ more)) ∙ two.all more;
        }

-- one step of a length
abbrev digit : ℕ → ℕ → ℕ → ℕ → ℕ → ℕ → Bool → Bool → Bool → Text → Read ℕ
digit start limit count n place b colon none next bs =
    elim colon [
      | true ↦ if none then Err (Bad start) else got n (place + 1) bs
      | false ↦ elim next [ true ↦ length_at start limit (suc count) (10 * n + (b - 48)) (place + 1) bs | false ↦ Err (Bad start) ]
    ]

digit_local : (start limit count n place b : ℕ) (bs : Text) (g : Got ℕ) (colon none next : Bool)
    → (length_at start limit (suc count) (10 * n + (b - 48)) (place + 1) bs ≡ Ok g → ReadsFront (λ bs. length_at start limit (suc count) (10 * n + (b - 48)) (place + 1) bs) bs g)
    → digit start limit count n place b colon none next bs ≡ Ok g → ReadsFront (λ bs. digit start limit count n place b colon none next bs) bs g
digit_local start limit count n place b bs g true true next rec is = absurd (err_ok (Bad start) g is)
digit_local start limit count n place b bs g true false next rec is = got_local n (place + 1) bs g is
digit_local start limit count n place b bs g false none true rec is = rec is
digit_local start limit count n place b bs g false none false rec is = absurd (err_ok (Bad start) g is)

pub length_local : (start limit count n place : ℕ) → IsLocal (λ bs. length_at start limit count n place bs)
length_local start limit count n place [] g is = absurd (err_ok (Short start) g is)
length_local start limit count n place (b ∷ bs) g is =
    byte_more (λ bs. length_at start limit count n place bs) (λ bs. digit start limit count n place b (b == 58) (count == 0) (is_next_digit limit count n b) bs) b bs g (λ more. refl)
    (digit_local start limit count n place b bs g (b == 58) (count == 0) (is_next_digit limit count n b) (λ e. length_local start limit (suc count) (10 * n + (b - 48)) (place + 1) bs g e) is)

-- as many bytes as a length says
bytes_local : (start limit : ℕ) (bs : Text) (l : Got ℕ) (g : Got Text) → length_at start limit 0 0 start bs ≡ Ok l → bytes_at start l ≡ Ok g → ReadsFront (λ bs. content_at start limit bs) bs g
bytes_local start limit bs l g first is = go (nat_lt (length l.rest) l.value) refl is
  where
    go : (short : Bool) → nat_lt (length l.rest) l.value ≡ short → (if short then Err (Short start) else got (take l.value l.rest) (l.place + l.value) (drop l.value l.rest)) ≡ Ok g → ReadsFront (λ bs. content_at start limit bs) bs g
    go true e is = absurd (err_ok (Short start) g is)
    go false e is =
        let low : l.value ≤ length l.rest = grind (arith, nat_tests, e) in
        let one = length_local start limit 0 0 start bs l first in
        let same : record { value = take l.value l.rest; place = l.place + l.value; rest = drop l.value l.rest } ≡ g = ok_same (record { value = take l.value l.rest; place = l.place + l.value; rest = drop l.value l.rest }) g is in
        let long : length (take l.value l.rest) ≡ l.value = length-take-le l.value l.rest low in record {
          one = one.one ++ take l.value l.rest;
          split = one.split ∙ ap (λ (t : Text). one.one ++ t) (sym (take-append-drop l.value l.rest)) ∙ sym (append_assoc one.one (take l.value l.rest) (drop l.value l.rest))
              ∙ ap (λ (x : Got Text). (one.one ++ take l.value l.rest) ++ x.rest) same;
          all = λ more. content_full start limit l.place l.value ((one.one ++ take l.value l.rest) ++ more) (take l.value l.rest ++ more) (take l.value l.rest) more
              (ap (length_at start limit 0 0 start) (append_assoc one.one (take l.value l.rest) more) ∙ one.all (take l.value l.rest ++ more)) refl long
              ∙ ap (λ (x : Got Text). got x.value x.place more) same;
        }

pub content_local : (start limit : ℕ) → IsLocal (λ bs. content_at start limit bs)
content_local start limit bs g is = go (length_at start limit 0 0 start bs) refl is
  where
    go : (r : Read ℕ) → length_at start limit 0 0 start bs ≡ r → and_then r (bytes_at start) ≡ Ok g → ReadsFront (λ bs. content_at start limit bs) bs g
    go (Err e) first is = absurd (err_ok e g is)
    go (Ok l) first is = bytes_local start limit bs l g first is

pub comma_local : (start place : ℕ) → IsLocal (λ bs. comma_at start place bs)
comma_local start place [] g is = absurd (err_ok (Short start) g is)
comma_local start place (b ∷ bs) g is = go (b == 44) refl is
  where
    go : (comma : Bool) → (b == 44) ≡ comma → (if comma then got tt (place + 1) bs else Err (Bad start)) ≡ Ok g → ReadsFront (λ bs. comma_at start place bs) (b ∷ bs) g
    go true e is = byte_local (λ bs. comma_at start place bs) b bs g tt (place + 1) (λ more. ap (λ (c : Bool). if c then got tt (place + 1) more else Err (Bad start)) e) (ap (λ (c : Bool). if c then got tt (place + 1) bs else Err (Bad start)) e ∙ is)
    go false e is = absurd (err_ok (Bad start) g is)

pub closed_local : {X : Type 0} (start : ℕ) (o : Option X) (place : ℕ) → IsLocal (λ bs. closed start o place bs)
closed_local {X} start None place bs g is = absurd (err_ok (Bad start) g is)
closed_local {X} start (Some x) place bs g is = then_local (λ bs. comma_at start place bs) (λ comma. got x comma.place comma.rest) (comma_local start place) (λ value p. got_local x p) bs g is

pub element_local : {X : Type 0} (limit : ℕ) (read : Text → Option X) (start : ℕ) → IsLocal (λ bs. element_at limit read start bs)
element_local {X} limit read start = then_local (λ bs. content_at start limit bs) (λ content. closed start (read content.value) content.place content.rest) (content_local start limit) (λ value place. closed_local start (read value) place)

pub member_local : (act : Set → Text → Act) (place : ℕ) → IsLocal (λ bs. member_at act place bs)
member_local act place =
    then_local (λ bs. element_at 6 set_of place bs) (λ set. and_then (element_at 400 address_of set.place set.rest) (λ who. got (act set.value who.value) who.place who.rest)) (element_local 6 set_of place)
    (λ set p. then_local (λ bs. element_at 400 address_of p bs) (λ who. got (act set who.value) who.place who.rest) (element_local 400 address_of p) (λ who end. got_local (act set who) end))

pub deliver_local : (place : ℕ) → IsLocal (λ bs. deliver_at place bs)
deliver_local place =
    then_local (λ bs. element_at 1000 any_bytes place bs) sender_then (element_local 1000 any_bytes place) (λ sender p.
    then_local (λ bs. element_at 1000 any_bytes p bs) (recipient_then sender) (element_local 1000 any_bytes p) (λ recipient q.
    then_local (λ bs. element_at 33_554_432 any_bytes q bs) (message_then sender recipient) (element_local 33_554_432 any_bytes q) (λ message end. got_local (Deliver sender recipient message) end)))

pub act_local : (letter : Letter) (place : ℕ) → IsLocal (λ bs. act_at letter place bs)
act_local letters.Add place = member_local (λ set who. Add set who) place
act_local letters.Deliver place = deliver_local place
act_local letters.Sent place = then_local (λ bs. element_at 16 id_of place bs) (λ id. got (Sent id.value) id.place id.rest) (element_local 16 id_of place) (λ id end. got_local (Sent id) end)
act_local letters.Timed place = got_local Timed place
act_local letters.Remove place = member_local (λ set who. Remove set who) place
act_local letters.Floor place = then_local (λ bs. element_at 12 floor_of place bs) (λ at. got (Floor at.value) at.place at.rest) (element_local 12 floor_of place) (λ at end. got_local (Floor at) end)
act_local letters.Rekey place = then_local (λ bs. element_at 64 key_of place bs) (λ key. got (Rekey key.value) key.place key.rest) (element_local 64 key_of place) (λ key end. got_local (Rekey key) end)

pub elements_local : (letter : Letter) (place : ℕ) → IsLocal (λ bs. elements_at letter place bs)
unfolding elements_at
elements_local letter place =
    then_local (λ bs. element_at 12 item_number_of place bs)
    (λ number. and_then (element_at 12 moment_in number.place number.rest) (λ moment. and_then (act_at letter moment.place moment.rest) (λ act. got (record { number = number.value; moment = moment.value; act = act.value }) act.place act.rest)))
    (element_local 12 item_number_of place) (λ number p.
    then_local (λ bs. element_at 12 moment_in p bs) (λ moment. and_then (act_at letter moment.place moment.rest) (λ act. got (record { number = number; moment = moment.value; act = act.value }) act.place act.rest))
    (element_local 12 moment_in p) (λ moment q.
    then_local (λ bs. act_at letter q bs) (λ act. got (record { number = number; moment = moment; act = act.value }) act.place act.rest) (act_local letter q) (λ act end. got_local (record { number = number; moment = moment; act = act }) end)))

none_some : (i : Item) → None ≡ Some i → ⊥
none_some i e = cc

letter_local : (place : ℕ) (o : Option Letter) → IsLocal (λ bs. after_letter place o bs)
letter_local place None bs g is = absurd (err_ok (Bad place) g is)
letter_local place (Some letter) bs g is = then_local (λ bs. elements_at letter (place + 1) bs) some_item (elements_local letter (place + 1)) (λ item end. got_local (Some item) end) bs g is

-- an item
pub item_local : (place : ℕ) (bs : Text) (item : Item) (p : ℕ) (rest : Text) → item_at place bs ≡ got (Some item) p rest → ReadsFront (λ bs. item_at place bs) bs (record { value = Some item; place = p; rest = rest })
item_local place [] item p rest is = absurd (none_some item (ap (λ (x : Got (Option Item)). x.value) (ok_same (record { value = None; place = place; rest = [] }) (record { value = Some item; place = p; rest = rest }) is)))
item_local place (b ∷ bs) item p rest is =
    byte_more (λ bs. item_at place bs) (λ bs. after_letter place (letter_of b) bs) b bs (record { value = Some item; place = p; rest = rest }) (λ more. refl) (letter_local place (letter_of b) bs (record { value = Some item; place = p; rest = rest }) is)

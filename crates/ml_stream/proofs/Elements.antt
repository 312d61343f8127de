-- Elements of the stream, put together from their parts.
use Rattle.std.proofs.Common.{◌≡◌, ◌≢◌, ℕ, ◌+◌, ◌-◌, ◌^◌, ◌<◌, min, Bool, true, false, List, [], ◌∷◌, ◌++◌, if◌then◌else◌, length, take, drop, Option, Some, None, Ok, Err, Result, ap, sym, ◌∙◌, arith, length-append}
use Rattle.std.specs.Option.{option_to_list}
use Rattle.std.proofs.lemmas.Bool.Decides.{when_true, when_false, nat_tests}
use Rattle.std.proofs.lemmas.Bool.{le-ltb, lt-ltb}
use Rattle.std.proofs.Math.Seq.{take-append_seam, drop-append_seam}
use Rattle.ml_stream.specs.declared.stream_error.StreamError.{StreamError}
use Rattle.ml_stream.specs.declared.stream_error.StreamError.TheVariants.{Bad, Short, Fault, Memory}
use Rattle.ml_stream.specs.Reading.{Stands, Tells}
use Rattle.ml_stream.specs.Stream.{Got, Read, got, and_then, length_at, bytes_at, content_at, comma_at, closed, element_at, floor_of, id_of, key_of, any_bytes, member_at, deliver_at, sent_at, floor_at, rekey_at, act_at, elements_at, item_at, item_number_of, letter_of, after_letter, some_item}
use Rattle.ml_stream.specs.declared.reader.Letter.{Letter}
use Rattle.ml_base.specs.Numbers.{moment_in}
use Rattle.ml_base.specs.declared.names.Set.{Set}
use Rattle.ml_base.specs.Bytes.{Text}
use Rattle.ml_base.specs.Name.{set_of}
use Rattle.ml_base.specs.Address.{address_of}
use Rattle.ml_plain.specs.declared.Act.{Act}
use Rattle.ml_plain.specs.declared.Act.TheVariants.{Deliver, Floor, Rekey, Sent}
use Rattle.ml_plain.specs.declared.Item.{Item}
use Rattle.ml_stream.proofs.Bytewise.{Fills}

pub comma_some : (start place b : ℕ) (bs : List ℕ) → b ≡ 44 → comma_at start place (b ∷ bs) ≡ Ok (record { value = tt; place = place + 1; rest = bs })
comma_some start place b bs e = grind (arith, nat_tests)

pub comma_bad : (start place b : ℕ) (bs : List ℕ) → b ≢ 44 → comma_at start place (b ∷ bs) ≡ Err (Bad start)
comma_bad start place b bs e = grind (arith, nat_tests)

-- what is left is what the source has left, if no byte was read ahead
pub own_is : (place : ℕ) (ahead : Option ℕ) (left : Option (List ℕ)) (bs : List ℕ) → ahead ≡ None → (s : Stands place ahead left bs) → bs ≡ s.own
own_is place ahead left bs none s = s.is_all ∙ ap (λ a. option_to_list a ++ s.own) none

pub stands_own : (place : ℕ) (ahead : Option ℕ) (rest : List ℕ) (left : Option (List ℕ)) → ahead ≡ None → left ≡ Some rest → place + length rest < 2 ^ 64 → Stands place ahead left rest
stands_own place ahead rest left none e room = record { own = rest; is_left = e; is_all = ap (λ a. option_to_list a ++ rest) (sym none); room = room }

-- the content is there
pub content_full : (start limit p n : ℕ) (bs own content rest : List ℕ) → length_at start limit 0 0 start bs ≡ Ok (record { value = n; place = p; rest = own }) → own ≡ content ++ rest → length content ≡ n
    → content_at start limit bs ≡ Ok (record { value = content; place = p + n; rest = rest })
content_full start limit p n bs own content rest e parts len =
    ap (λ r. and_then r (bytes_at start)) e
    ∙ ap (λ b. if b then Err (Short start) else Ok (record { value = take n own; place = p + n; rest = drop n own })) (le-ltb (length own) n (omega (arith, ap length parts, length-append content rest)))
    ∙ ap (λ (t : List ℕ × List ℕ). let r : Result (Got (List ℕ)) StreamError = Ok (record { value = t.0; place = p + n; rest = t.1 }) in r) (split content rest n own parts len)
  where
    split : (content rest : List ℕ) (n : ℕ) (own : List ℕ) → own ≡ content ++ rest → length content ≡ n → ◌≡◌ {A = List ℕ × List ℕ} (take n own, drop n own) (content, rest)
    split content rest n own parts len =
        ap (λ o. (take n o, drop n o)) parts ∙ ap (λ k. (take k (content ++ rest), drop k (content ++ rest))) (sym len)
        ∙ ap (λ t. (t, drop (length content) (content ++ rest))) (take-append_seam content rest) ∙ ap (λ t. (content, t)) (drop-append_seam content rest)

-- the content is cut short
pub content_short : (start limit p n : ℕ) (bs own : List ℕ) → length_at start limit 0 0 start bs ≡ Ok (record { value = n; place = p; rest = own }) → length own < n
    → content_at start limit bs ≡ Err (Short start)
content_short start limit p n bs own e short =
    ap (λ r. and_then r (bytes_at start)) e
    ∙ ap (λ b. if b then Err (Short start) else Ok (record { value = take n own; place = p + n; rest = drop n own })) (lt-ltb (length own) n short)

-- an element, from its content and its comma
pub element_ok : {X : Type 0} (limit start p place : ℕ) (read : List ℕ → Option X) (bs content own rest : List ℕ) (x : X) → content_at start limit bs ≡ Ok (record { value = content; place = p; rest = own })
    → read content ≡ Some x → comma_at start p own ≡ Ok (record { value = tt; place = place; rest = rest }) → element_at limit read start bs ≡ Ok (record { value = x; place = place; rest = rest })
element_ok limit start p place read bs content own rest x e is comma =
    ap (λ r. and_then r (λ got. closed start (read got.value) got.place got.rest)) e ∙ ap (λ o. closed start o p own) is
    ∙ ap (λ r. and_then r (λ got. Ok (record { value = x; place = got.place; rest = got.rest }))) comma

-- the content, from what filling a buffer of its length says
pub content_filled : (start limit p n new : ℕ) (bs left_own buf : List ℕ) (full : Bool) (ahead : Option ℕ) (left after : Option (List ℕ))
    → length_at start limit 0 0 start bs ≡ Ok (record { value = n; place = p; rest = left_own }) → (s : Stands p ahead left left_own) → ahead ≡ None → length buf ≡ n → Fills left after buf full → full ≡ true
    → new ≡ min (p + n) (2 ^ 64 - 1)
    → (rest : List ℕ) × (content_at start limit bs ≡ Ok (record { value = buf; place = new; rest = rest })) × Stands new ahead after rest
content_filled start limit p n new bs left_own buf full ahead left after e s none len fills is_full is_new =
    let h = when_true ((rest : List ℕ) × (s.own ≡ buf ++ rest) × (after ≡ Some rest)) ((length s.own < length buf) × (after ≡ Some [])) is_full (fills s.own s.is_left) in
    let parts : left_own ≡ buf ++ h.0 = own_is p ahead left left_own none s ∙ h.1 in
    let long : length left_own ≡ length buf + length h.0 = ap length parts ∙ length-append buf h.0 in
    let room = s.room in
    let place : new ≡ p + n = omega arith in
    (h.0, content_full start limit p n bs left_own buf h.0 e parts len ∙ ap (λ k. Ok (record { value = buf; place = k; rest = h.0 })) (sym place), stands_own new ahead h.0 after none h.2 (omega arith))

pub content_ended : (start limit p n : ℕ) (bs left_own buf : List ℕ) (full : Bool) (ahead : Option ℕ) (left after : Option (List ℕ))
    → length_at start limit 0 0 start bs ≡ Ok (record { value = n; place = p; rest = left_own }) → (s : Stands p ahead left left_own) → ahead ≡ None → length buf ≡ n → Fills left after buf full → full ≡ false
    → content_at start limit bs ≡ Err (Short start)
content_ended start limit p n bs left_own buf full ahead left after e s none len fills is_full =
    let h = when_false ((rest : List ℕ) × (s.own ≡ buf ++ rest) × (after ≡ Some rest)) ((length s.own < length buf) × (after ≡ Some [])) is_full (fills s.own s.is_left) in
    content_short start limit p n bs left_own e (omega (arith, h.0, ap length (own_is p ahead left left_own none s)))

-- an item, from its elements
pub item_ok : (letter : Letter) (p p1 p2 p3 : ℕ) (bs r1 r2 r3 : List ℕ) (number moment : ℕ) (act : Act)
    → element_at 12 item_number_of p bs ≡ got number p1 r1
    → element_at 12 moment_in p1 r1 ≡ got moment p2 r2
    → act_at letter p2 r2 ≡ got act p3 r3
    → elements_at letter p bs ≡ got (record { number = number; moment = moment; act = act }) p3 r3
unfolding elements_at
item_ok letter p p1 p2 p3 bs r1 r2 r3 number moment act a b d =
    ap (λ r. and_then r (λ number. and_then (element_at 12 moment_in number.place number.rest) (λ moment. and_then (act_at letter moment.place moment.rest) (λ act.
    got (record { number = number.value; moment = moment.value; act = act.value }) act.place act.rest)))) a
    ∙ ap (λ r. and_then r (λ moment. and_then (act_at letter moment.place moment.rest) (λ act. got (record { number = number; moment = moment.value; act = act.value }) act.place act.rest))) b
    ∙ ap (λ r. and_then r (λ act. got (record { number = number; moment = moment; act = act.value }) act.place act.rest)) d

pub member_ok : (act : Set → Text → Act) (p p1 p2 : ℕ) (bs r1 r2 : List ℕ) (set : Set) (who : List ℕ)
    → element_at 6 set_of p bs ≡ got set p1 r1
    → element_at 400 address_of p1 r1 ≡ got who p2 r2
    → member_at act p bs ≡ got (act set who) p2 r2
member_ok act p p1 p2 bs r1 r2 set who a b =
    ap (λ r. and_then r (λ set. and_then (element_at 400 address_of set.place set.rest) (λ who. got (act set.value who.value) who.place who.rest))) a
    ∙ ap (λ r. and_then r (λ who. got (act set who.value) who.place who.rest)) b

pub floor_ok : (p p1 : ℕ) (bs r1 : List ℕ) (at : ℕ) → element_at 12 floor_of p bs ≡ got at p1 r1 → floor_at p bs ≡ got (Floor at) p1 r1
floor_ok p p1 bs r1 at a = ap (λ r. and_then r (λ at. got (Floor at.value) at.place at.rest)) a

pub rekey_ok : (p p1 : ℕ) (bs r1 : List ℕ) (key : List ℕ) → element_at 64 key_of p bs ≡ got key p1 r1 → rekey_at p bs ≡ got (Rekey key) p1 r1
rekey_ok p p1 bs r1 key a = ap (λ r. and_then r (λ key. got (Rekey key.value) key.place key.rest)) a

pub sent_ok : (p p1 : ℕ) (bs r1 : List ℕ) (id : ℕ) → element_at 16 id_of p bs ≡ got id p1 r1 → sent_at p bs ≡ got (Sent id) p1 r1
sent_ok p p1 bs r1 id a = ap (λ r. and_then r (λ id. got (Sent id.value) id.place id.rest)) a

-- a delivery after its sender, and after its recipient
abbrev pub sender_then : Got Text → Read Act
sender_then sender =
    and_then (element_at 1000 any_bytes sender.place sender.rest) (λ recipient.
    and_then (element_at 33_554_432 any_bytes recipient.place recipient.rest) (λ message.
    got (Deliver sender.value recipient.value message.value) message.place message.rest))

abbrev pub recipient_then : Text → Got Text → Read Act
recipient_then sender recipient =
    and_then (element_at 33_554_432 any_bytes recipient.place recipient.rest) (λ message. got (Deliver sender recipient.value message.value) message.place message.rest)

abbrev pub message_then : Text → Text → Got Text → Read Act
message_then sender recipient message = got (Deliver sender recipient message.value) message.place message.rest

pub deliver_ok : (p p1 p2 p3 : ℕ) (bs r1 r2 r3 : List ℕ) (sender recipient message : Text)
    → element_at 1000 any_bytes p bs ≡ got sender p1 r1
    → element_at 1000 any_bytes p1 r1 ≡ got recipient p2 r2
    → element_at 33_554_432 any_bytes p2 r2 ≡ got message p3 r3
    → deliver_at p bs ≡ got (Deliver sender recipient message) p3 r3
deliver_ok p p1 p2 p3 bs r1 r2 r3 sender recipient message a b d =
    ap (λ r. and_then r sender_then) a ∙ ap (λ r. and_then r (recipient_then sender)) b ∙ ap (λ r. and_then r (message_then sender recipient)) d

pub item_letter : (p place b : ℕ) (letter : Letter) (rest : List ℕ) → letter_of b ≡ Some letter → place ≡ p + 1 → item_at p (b ∷ rest) ≡ and_then (elements_at letter place rest) some_item
item_letter p place b letter rest e is =
    ap (λ o. after_letter p o rest) e ∙ ap (λ q. and_then (elements_at letter q rest) some_item) (sym is)

pub item_bad : (p b : ℕ) (rest : List ℕ) → letter_of b ≡ None → item_at p (b ∷ rest) ≡ Err (Bad p)
item_bad p b rest e = ap (λ o. after_letter p o rest) e

pub item_end : (p place : ℕ) (o : Option ℕ) (bs rest : List ℕ) → bs ≡ [] → rest ≡ [] → o ≡ None → place ≡ p + length (option_to_list o) → item_at p bs ≡ got None place rest
item_end p place o bs rest e r none is =
    let same : place ≡ p = is ∙ ap (λ q. p + length (option_to_list q)) none ∙ (let h : p + 0 ≡ p = omega arith in h) in
    ap (item_at p) e ∙ ap (λ q. let x : Read (Option Item) = got None q [] in x) (sym same)
    ∙ ap (λ q. let x : Read (Option Item) = got None place q in x) (sym r)

-- an error that describes one reading describes another that fails in the same way
pub tells_too : {Y Z : Type 0} (e : StreamError) (one : Result (Got Y) StreamError) (two : Result (Got Z) StreamError) → ((x : StreamError) → one ≡ Err x → two ≡ Err x) → Tells e one → Tells e two
tells_too (Bad at) one two f h = f (Bad at) h
tells_too (Short at) one two f h = f (Short at) h
tells_too Fault one two f h = tt
tells_too Memory one two f h = tt

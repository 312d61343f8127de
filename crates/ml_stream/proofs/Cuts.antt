-- How much of a stream was taken when reading it stopped early.
use Rattle.std.proofs.Common.{◌≡◌, inl, inr, ⊎_elim, ℕ, ◌+◌, ◌<◌, Bool, true, false, eqb, [], ◌∷◌, ◌++◌, length, Option, Some, None, Result, Ok, Err, OnErr, IfErr, ap, sym, refl, ◌∙◌, arith, append_assoc}
use Rattle.std.specs.Result.{IsErrAnd}
use Rattle.std.specs.Option.{option_to_list}
use Rattle.std.proofs.lemmas.Bool.{eqb-true, eqb-false}
use Rattle.std.proofs.lemmas.List.{append-nil}
use Rattle.ml_base.specs.Bytes.{Text}
use Rattle.ml_base.specs.Numbers.{moment_in}
use Rattle.ml_plain.specs.declared.Item.{Item}
use Rattle.ml_stream.specs.declared.reader.Letter.{Letter}
use Rattle.ml_stream.specs.declared.stream_error.StreamError.{StreamError}
use Rattle.ml_stream.specs.declared.stream_error.StreamError.TheVariants.{Bad, Short, Fault, Memory}
use Rattle.ml_stream.specs.Stream.{Got, Read, got, and_then, length_at, bytes_at, content_at, comma_at, closed, element_at, item_number_of, any_bytes, deliver_at, act_at, elements_at, letter_of, some_item, Broken}
use Rattle.ml_stream.specs.Reading.{Stands, EndsEarly, Fails, IsCut, IsHindrance, IsNoItem, IsUnfinished}
use Rattle.ml_stream.proofs.Locality.{IsLocal, length_local, content_local, element_local}
use Rattle.ml_stream.proofs.Elements.{own_is, content_short, item_letter, sender_then, recipient_then, message_then}

-- the exits of a `?`
pub at_exit : {T E : Type 0} (r : Result T E) (Q P : E → Type 0) → IsErrAnd r Q → ((e : E) → Q e → P e) → IfErr r P
at_exit (Ok x) Q P h f = tt
at_exit (Err e) Q P h f = f e h

pub on_exit : {T E : Type 0} (r : Result T E) (P : Type 0) → P → OnErr r P
on_exit (Ok x) P p = tt
on_exit (Err e) P p = p

empty : (xs : Text) → length xs < 1 → xs ≡ []
empty [] e = refl
empty (x ∷ xs) e = absurd (omega (arith, e))

-- errors that say something of the stream
pub bad_not : (at : ℕ) → IsHindrance (Bad at) → ⊥
bad_not at h = ⊎_elim (λ (e : Bad at ≡ Fault). cc) (λ (e : Bad at ≡ Memory). cc) h

pub short_not : (at : ℕ) → IsHindrance (Short at) → ⊥
short_not at h = ⊎_elim (λ (e : Short at ≡ Fault). cc) (λ (e : Short at ≡ Memory). cc) h

-- what is left if no byte was read ahead
pub left_own : (place : ℕ) (ahead : Option ℕ) (left : Option Text) (bs : Text) → ahead ≡ None → Stands place ahead left bs → left ≡ Some bs
left_own place ahead left bs none s = s.is_left ∙ ap (λ (t : Text). Some t) (sym (own_is place ahead left bs none s))

-- a byte was not read
pub byte_kept : (place : ℕ) (ahead : Option ℕ) (left after : Option Text) (bs buf : Text) → ahead ≡ None → length buf ≡ 1 → (s : Stands place ahead left bs) → IsCut (length buf) s.own after → after ≡ Some bs
byte_kept place ahead left after bs buf none one s c =
    c.left_is ∙ ap (λ (t : Text). Some t) (sym (own_is place ahead left bs none s ∙ c.split ∙ ap (λ (t : Text). t ++ c.rest) (empty c.front (omega (arith, c.few, one)))))

-- nothing was taken
pub breaks_none : (e : StreamError) (left : Option Text) (bs : Text) (P : Text → Type 0) → left ≡ Some bs → P [] → EndsEarly e left bs P
breaks_none e left bs P is p = record { front = []; rest = bs; split = refl; left_is = is; cut = λ fault. p }

-- a byte was taken, or the stream was at its end
pub breaks_byte : (e : StreamError) (place : ℕ) (ahead b : Option ℕ) (left : Option Text) (bs rest : Text) (P : Text → Type 0) → bs ≡ option_to_list b ++ rest → ahead ≡ None → Stands place ahead left rest → (IsHindrance e → ⊥) → EndsEarly e left bs P
breaks_byte e place ahead b left bs rest P split none s other = record { front = option_to_list b; rest = rest; split = split; left_is = left_own place ahead left rest none s; cut = λ fault. absurd (other fault) }

-- the same, inside a value that was read in part
pub breaks_further : (e : StreamError) (left : Option Text) (bs front rest : Text) (Q P : Text → Type 0) → bs ≡ front ++ rest → EndsEarly e left rest Q → ((t : Text) → Q t → P (front ++ t)) → EndsEarly e left bs P
breaks_further e left bs front rest Q P split b f = record {
  front = front ++ b.front;
  rest = b.rest;
  split = split ∙ ap (λ (t : Text). front ++ t) b.split ∙ sym (append_assoc front b.front b.rest);
  left_is = b.left_is;
  cut = λ fault. f b.front (b.cut fault);
}

pub breaks_map : (e : StreamError) (left : Option Text) (bs : Text) (Q P : Text → Type 0) → EndsEarly e left bs Q → ((t : Text) → Q t → P t) → EndsEarly e left bs P
breaks_map e left bs Q P b f = record { front = b.front; rest = b.rest; split = b.split; left_is = b.left_is; cut = λ fault. f b.front (b.cut fault) }

-- all was taken
pub breaks_all : (e : StreamError) (left : Option Text) (bs : Text) (P : Text → Type 0) → left ≡ Some [] → (IsHindrance e → ⊥) → EndsEarly e left bs P
breaks_all e left bs P is other = record { front = bs; rest = []; split = sym (append-nil bs); left_is = is; cut = λ fault. absurd (other fault) }

-- the first of two values was read in part
pub breaks_first : {A B : Type 0} (e : StreamError) (left : Option Text) (bs : Text) (f : Text → Read A) (h : Got A → Read B) → EndsEarly e left bs (λ t. Fails (f t)) → EndsEarly e left bs (λ t. Fails (and_then (f t) h))
breaks_first {A} {B} e left bs f h b = breaks_map e left bs (λ t. Fails (f t)) (λ t. Fails (and_then (f t) h)) b (λ t x. (x.0, ap (λ (r : Read A). and_then r h) x.1))

-- the first of two values was read, and the second in part
pub breaks_then : {A B : Type 0} (e : StreamError) (left : Option Text) (bs rest : Text) (f : Text → Read A) (h : Got A → Read B) (value : A) (place : ℕ) → IsLocal f → f bs ≡ got value place rest
    → EndsEarly e left rest (λ t. Fails (h (record { value = value; place = place; rest = t }))) → EndsEarly e left bs (λ t. Fails (and_then (f t) h))
breaks_then {A} {B} e left bs rest f h value place local is b =
    let one = local bs (record { value = value; place = place; rest = rest }) is in
    breaks_further e left bs one.one rest (λ t. Fails (h (record { value = value; place = place; rest = t }))) (λ t. Fails (and_then (f t) h)) one.split b
    (λ t x. (x.0, ap (λ (r : Read A). and_then r h) (one.all t) ∙ x.1))

-- a value was read and then reading stopped, but not for a fault
pub breaks_got : {A : Type 0} (e : StreamError) (place : ℕ) (ahead : Option ℕ) (left : Option Text) (bs rest : Text) (f : Text → Read A) (value : A) (P : Text → Type 0) → IsLocal f → f bs ≡ got value place rest
    → ahead ≡ None → Stands place ahead left rest → (IsHindrance e → ⊥) → EndsEarly e left bs P
breaks_got {A} e place ahead left bs rest f value P local is none s other =
    let one = local bs (record { value = value; place = place; rest = rest }) is in
    record { front = one.one; rest = rest; split = one.split; left_is = left_own place ahead left rest none s; cut = λ fault. absurd (other fault) }

-- the same if memory ran out after it
pub breaks_read : {A : Type 0} (e : StreamError) (place : ℕ) (ahead : Option ℕ) (left : Option Text) (bs rest : Text) (f : Text → Read A) (value : A) (P : Text → Type 0) → IsLocal f → f bs ≡ got value place rest
    → ahead ≡ None → Stands place ahead left rest → ((front : Text) → f front ≡ got value place [] → P front) → EndsEarly e left bs P
breaks_read {A} e place ahead left bs rest f value P local is none s all =
    let one = local bs (record { value = value; place = place; rest = rest }) is in
    record { front = one.one; rest = rest; split = one.split; left_is = left_own place ahead left rest none s; cut = λ h. all one.one (ap f (sym (append-nil one.one)) ∙ one.all []) }

-- a length was read, and nothing after it
pub length_unfinished : (start limit n p : ℕ) (front : Text) → length_at start limit 0 0 start front ≡ got n p [] → IsUnfinished (content_at start limit front)
length_unfinished start limit n p front is = go (eqb n 0) refl
  where
    go : (t : Bool) → eqb n 0 ≡ t → IsUnfinished (content_at start limit front)
    go true z = inr ([], p + 0, ap (λ (r : Read ℕ). and_then r (bytes_at start)) (is ∙ ap (λ (m : ℕ). got m p []) (eqb-true n 0 z)))
    go false z = inl (Short start, content_short start limit p n front [] is (omega (arith, eqb-false n 0 z)))

-- an element isn't read if its content isn't finished
pub element_unfinished : {X : Type 0} (limit start : ℕ) (read : Text → Option X) (t : Text) → IsUnfinished (content_at start limit t) → Fails (element_at limit read start t)
element_unfinished {X} limit start read t u = ⊎_elim
    (λ f. (f.0, ap (λ (r : Read Text). and_then r (λ content. closed start (read content.value) content.place content.rest)) f.1))
    (λ g. let f = unclosed (read g.0) g.1 in (f.0, ap (λ (r : Read Text). and_then r (λ content. closed start (read content.value) content.place content.rest)) g.2 ∙ f.1))
    u
  where
    unclosed : (o : Option X) (place : ℕ) → Fails (closed start o place [])
    unclosed None place = (Bad start, refl)
    unclosed (Some x) place = (Short start, refl)

pub breaks_element : {X : Type 0} (e : StreamError) (limit start : ℕ) (read : Text → Option X) (left : Option Text) (bs : Text) → EndsEarly e left bs (λ t. IsUnfinished (content_at start limit t)) → EndsEarly e left bs (λ t. Fails (element_at limit read start t))
breaks_element e limit start read left bs b = breaks_map e left bs (λ t. IsUnfinished (content_at start limit t)) (λ t. Fails (element_at limit read start t)) b (λ t u. element_unfinished limit start read t u)

-- a content was read in part
pub breaks_content : (e : StreamError) (start limit p n size : ℕ) (ahead : Option ℕ) (left after : Option Text) (bs own : Text) → length_at start limit 0 0 start bs ≡ got n p own → ahead ≡ None → (s : Stands p ahead left own) → size ≡ n → IsCut size s.own after
    → EndsEarly e after bs (λ t. IsUnfinished (content_at start limit t))
breaks_content e start limit p n size ahead left after bs own is none s same c =
    let one = length_local start limit 0 0 start bs (record { value = n; place = p; rest = own }) is in record {
      front = one.one ++ c.front;
      rest = c.rest;
      split = one.split ∙ ap (λ (t : Text). one.one ++ t) (own_is p ahead left own none s ∙ c.split) ∙ sym (append_assoc one.one c.front c.rest);
      left_is = c.left_is;
      cut = λ fault. inl (Short start, content_short start limit p n (one.one ++ c.front) c.front (one.all c.front) (omega (arith, c.few, same)));
    }

-- a content was read, but the comma after it wasn't
pub breaks_comma : {X : Type 0} (e : StreamError) (limit start p : ℕ) (read : Text → Option X) (left : Option Text) (bs content own : Text) (x : X) → content_at start limit bs ≡ got content p own → read content ≡ Some x
    → EndsEarly e left own (λ t. Fails (comma_at start p t)) → EndsEarly e left bs (λ t. Fails (element_at limit read start t))
breaks_comma {X} e limit start p read left bs content own x is value b =
    breaks_then e left bs own (λ t. content_at start limit t) (λ found. closed start (read found.value) found.place found.rest) content p (content_local start limit) is
    (breaks_map e left own (λ t. Fails (comma_at start p t)) (λ t. Fails (closed start (read content) p t)) b
    (λ t f. (f.0, ap (λ (o : Option X). closed start o p t) value ∙ ap (λ (r : Read (Unit {0})). and_then r (λ comma. got x comma.place comma.rest)) f.1)))

-- the elements of an item were read in part
pub breaks_item : (e : StreamError) (p place b : ℕ) (letter : Letter) (left : Option Text) (bs rest : Text) → bs ≡ b ∷ rest → letter_of b ≡ Some letter → place ≡ p + 1 → EndsEarly e left rest (λ t. Fails (elements_at letter place t)) → EndsEarly e left bs (IsNoItem p)
breaks_item e p place b letter left bs rest split is next b' =
    breaks_further e left bs (b ∷ []) rest (λ t. Fails (elements_at letter place t)) (IsNoItem p) split b'
    (λ t f. (Broken f.0, item_letter p place b letter t is next ∙ ap (λ (r : Read Item). and_then r some_item) f.1))

abbrev number_then : Letter → Got ℕ → Read Item
number_then letter number =
    and_then (element_at 12 moment_in number.place number.rest) (λ moment. and_then (act_at letter moment.place moment.rest) (λ act.
    got (record { number = number.value; moment = moment.value; act = act.value }) act.place act.rest))

abbrev moment_then : Letter → ℕ → Got ℕ → Read Item
moment_then letter number moment = and_then (act_at letter moment.place moment.rest) (λ act. got (record { number = number; moment = moment.value; act = act.value }) act.place act.rest)

pub elements_first : (e : StreamError) (left : Option Text) (bs : Text) (letter : Letter) (p : ℕ) → EndsEarly e left bs (λ t. Fails (element_at 12 item_number_of p t)) → EndsEarly e left bs (λ t. Fails (elements_at letter p t))
unfolding elements_at
elements_first e left bs letter p b = breaks_first e left bs (λ t. element_at 12 item_number_of p t) (number_then letter) b

pub elements_second : (e : StreamError) (left : Option Text) (bs rest : Text) (letter : Letter) (p q number : ℕ) → element_at 12 item_number_of p bs ≡ got number q rest
    → EndsEarly e left rest (λ t. Fails (element_at 12 moment_in q t)) → EndsEarly e left bs (λ t. Fails (elements_at letter p t))
unfolding elements_at
elements_second e left bs rest letter p q number is b =
    breaks_then e left bs rest (λ t. element_at 12 item_number_of p t) (number_then letter) number q (element_local 12 item_number_of p) is
    (breaks_first e left rest (λ t. element_at 12 moment_in q t) (moment_then letter number) b)

pub elements_third : (e : StreamError) (left : Option Text) (bs rest last : Text) (letter : Letter) (p q r number moment : ℕ) → element_at 12 item_number_of p bs ≡ got number q rest → element_at 12 moment_in q rest ≡ got moment r last
    → EndsEarly e left last (λ t. Fails (act_at letter r t)) → EndsEarly e left bs (λ t. Fails (elements_at letter p t))
unfolding elements_at
elements_third e left bs rest last letter p q r number moment is next b =
    breaks_then e left bs rest (λ t. element_at 12 item_number_of p t) (number_then letter) number q (element_local 12 item_number_of p) is
    (breaks_then e left rest last (λ t. element_at 12 moment_in q t) (moment_then letter number) moment r (element_local 12 moment_in q) next
    (breaks_first e left last (λ t. act_at letter r t) (λ act. got (record { number = number; moment = moment; act = act.value }) act.place act.rest) b))

-- the parts of a delivery were read in part
pub deliver_first : (e : StreamError) (left : Option Text) (bs : Text) (p : ℕ) → EndsEarly e left bs (λ t. Fails (element_at 1000 any_bytes p t)) → EndsEarly e left bs (λ t. Fails (deliver_at p t))
deliver_first e left bs p b = breaks_first e left bs (λ t. element_at 1000 any_bytes p t) sender_then b

pub deliver_second : (e : StreamError) (left : Option Text) (bs rest : Text) (p q : ℕ) (sender : Text) → element_at 1000 any_bytes p bs ≡ got sender q rest
    → EndsEarly e left rest (λ t. Fails (element_at 1000 any_bytes q t)) → EndsEarly e left bs (λ t. Fails (deliver_at p t))
deliver_second e left bs rest p q sender is b =
    breaks_then e left bs rest (λ t. element_at 1000 any_bytes p t) sender_then sender q (element_local 1000 any_bytes p) is
    (breaks_first e left rest (λ t. element_at 1000 any_bytes q t) (recipient_then sender) b)

pub deliver_third : (e : StreamError) (left : Option Text) (bs rest last : Text) (p q r : ℕ) (sender recipient : Text) → element_at 1000 any_bytes p bs ≡ got sender q rest → element_at 1000 any_bytes q rest ≡ got recipient r last
    → EndsEarly e left last (λ t. Fails (element_at 33_554_432 any_bytes r t)) → EndsEarly e left bs (λ t. Fails (deliver_at p t))
deliver_third e left bs rest last p q r sender recipient is next b =
    breaks_then e left bs rest (λ t. element_at 1000 any_bytes p t) sender_then sender q (element_local 1000 any_bytes p) is
    (breaks_then e left rest last (λ t. element_at 1000 any_bytes q t) (recipient_then sender) recipient r (element_local 1000 any_bytes q) next
    (breaks_first e left last (λ t. element_at 33_554_432 any_bytes r t) (message_then sender recipient) b))

-- What a batch takes from the source.
use Rattle.std.proofs.Common.{◌≡◌, inl, inr, ℕ, ◌+◌, ◌<◌, ◌≤◌, List, [], ◌∷◌, ◌++◌, length, Option, Some, None, Err, ap, sym, refl, subst, ◌∙◌, arith, append_assoc, length-append}
use Rattle.std.specs.Option.{option_to_list}
use Rattle.std.proofs.lemmas.List.{append-nil}
use Rattle.ml_base.specs.Bytes.{Text}
use Rattle.ml_plain.specs.declared.Item.{Item}
use Rattle.ml_stream.specs.declared.items.Items.{Items}
use Rattle.ml_run.specs.declared.batches.BatchEnd.{BatchEnd}
use Rattle.ml_run.specs.declared.batches.BatchEnd.TheVariants as ends
use Rattle.ml_ending.specs.declared.lines.Why.{Why}
use Rattle.ml_ending.specs.declared.lines.Why.TheVariants as whys
use Rattle.ml_stream.specs.declared.stream_error.StreamError.{StreamError}
use Rattle.ml_stream.specs.declared.stream_error.StreamError.TheVariants.{Bad, Short, Fault, Memory}
use Rattle.ml_stream.specs.Stream.{got, Read, StreamEnd, End, Broken, IsStream, after_letter, elements_at, item_at, letter_of}
use Rattle.ml_stream.specs.Reading.{EndsEarly, IsNoItem, Tells}
use Rattle.ml_stream.specs.Items.{HasLeft, place_of, ahead_of}
use Rattle.ml_run.specs.Stops.{why_of_stream}
use Rattle.ml_run.specs.Batches.{Spells, TakesTo, Takes, IsPartReason}
use Rattle.ml_stream.proofs.Ahead.{no_bytes_end}
use Rattle.ml_stream.proofs.Cuts.{left_own}
use Rattle.ml_run.proofs.Batching.{number_cut}
use Rattle.ml_stream.proofs.Locality.{item_local}
use Rattle.ml_stream.proofs.Streams.{streams}

-- two rows of items
pub spells_joined : (place mid end : ℕ) (one two : Text) (xs ys : List Item) → Spells place one xs mid → Spells mid two ys end → Spells place (one ++ two) (xs ++ ys) end
spells_joined place mid end one two [] ys s t =
    subst (λ (front : Text). Spells place (front ++ two) ys end) (sym s.0) (subst (λ (n : ℕ). Spells n two ys end) s.1 t)
spells_joined place mid end one two (x ∷ xs) ys s t =
    (s.0, s.1 ++ two, s.2, ap (λ (front : Text). front ++ two) s.3 ∙ append_assoc s.0 s.1 two, s.4, spells_joined s.2 mid end s.1 two xs ys s.5 t)

-- what comes after a row of items is the rest of the stream
pub spells_stream : (place mid : ℕ) (one more : Text) (xs later : List Item) (ending : StreamEnd) → Spells place one xs mid → IsStream mid more later ending → IsStream place (one ++ more) (xs ++ later) ending
spells_stream place mid one more [] later ending s h =
    subst (λ (front : Text). IsStream place (front ++ more) later ending) (sym s.0) (subst (λ (n : ℕ). IsStream n more later ending) s.1 h)
spells_stream place mid one more (x ∷ xs) later ending s h = (
  s.2,
  s.1 ++ more,
  ap (item_at place) (ap (λ (front : Text). front ++ more) s.3 ∙ append_assoc s.0 s.1 more) ∙ s.4 (s.1 ++ more),
  spells_stream s.2 mid s.1 more xs later ending s.5 h,
)

-- one item
pub spells_one : (place next : ℕ) (own : Text) (item : Item) → ((more : Text) → item_at place (own ++ more) ≡ got (Some item) next more) → Spells place own (item ∷ []) next
spells_one place next own item all = (own, [], next, sym (append-nil own), all, (refl, refl))

-- a batch has taken its items, and some more bytes
takes_more : (end : BatchEnd) (place mid : ℕ) (bs front rest own rest' : Text) (items : List Item) (more : ℕ) (reader : Items) (left : Option Text) (after : List Item) (ending : StreamEnd) → bs ≡ front ++ rest → Spells place front items mid
    → rest ≡ own ++ rest' → left ≡ Some rest' → IsStream mid own after ending → ((front : Text) → IsStream place front (items ++ after) ending → TakesTo end place front rest' items more reader left) → Takes end place bs items more reader left
takes_more end place mid bs front rest own rest' items more reader left after ending split spells next left_is stream f = record {
  front = front ++ own;
  rest = rest';
  split = split ∙ ap (λ (t : Text). front ++ t) next ∙ sym (append_assoc front own rest');
  left_is = left_is;
  holds = f (front ++ own) (spells_stream place mid front own items after ending spells stream);
}

err_item : (e : StreamError) (item : Item) (place : ℕ) (rest : Text) → ◌≡◌ {A = Read (Option Item)} (Err e) (got (Some item) place rest) → ⊥
err_item e item place rest is = cc

-- the front of what is no item holds no item
none_front : (place : ℕ) (front rest bs : Text) (e : StreamError) → bs ≡ front ++ rest → item_at place bs ≡ Err e → IsNoItem place front
none_front place front rest bs e split is = let some = streams place front in go some.0 some.1 some.2
  where
    go : (items : List Item) (ending : StreamEnd) → IsStream place front items ending → IsNoItem place front
    go [] ending s = (ending, s)
    go (item ∷ items) ending s =
        let one = item_local place front item s.0 s.1 s.2 in
        let wide : item_at place bs ≡ got (Some item) s.0 (s.1 ++ rest) = ap (item_at place) (split ∙ ap (λ (b : Text). b ++ rest) one.split ∙ append_assoc one.one s.1 rest) ∙ one.all (s.1 ++ rest) in
        absurd (err_item e item s.0 (s.1 ++ rest) (sym is ∙ wide))

-- if an error was answered, what was taken holds no item
none_taken : (e : StreamError) (place : ℕ) (bs : Text) (left' : Option Text) → Tells e (item_at place bs) → (b : EndsEarly e left' bs (IsNoItem place)) → IsNoItem place b.front
none_taken (Bad at) place bs left' tells b = none_front place b.front b.rest bs (Bad at) b.split tells
none_taken (Short at) place bs left' tells b = none_front place b.front b.rest bs (Short at) b.split tells
none_taken Fault place bs left' tells b = b.cut (inl refl)
none_taken Memory place bs left' tells b = b.cut (inr refl)

stream_more : (e : StreamError) → why_of_stream e ≡ whys.More → ⊥
stream_more (Bad at) is = let bad : whys.Bad at ≡ whys.More = is in cc
stream_more (Short at) is = let bad : whys.Short at ≡ whys.More = is in cc
stream_more Fault is = let bad : whys.Input ≡ whys.More = is in cc
stream_more Memory is = let bad : whys.Memory ≡ whys.More = is in cc

-- an error was answered instead of an item
pub takes_error : (e : StreamError) (place : ℕ) (bs : Text) (items : List Item) (more more' : ℕ) (reader new : Items) (left left' : Option Text) (t : Takes ends.Full place bs items more reader left)
    → Tells e (item_at (place_of reader) t.rest) → EndsEarly e left' t.rest (IsNoItem (place_of reader)) → Takes (ends.Stopped None (why_of_stream e)) place bs items more' new left'
takes_error e place bs items more more' reader new left left' t tells b =
    let none = none_taken e (place_of reader) t.rest left' tells b in
    takes_more (ends.Stopped None (why_of_stream e)) place (place_of reader) bs t.front t.rest b.front b.rest items more' new left' [] none.0 t.split t.holds.0 b.split b.left_is none.1
    (λ front s. (record { after = []; ending = none.0; stream = s; holds = (tt, λ is. refl, omega arith) }, λ is. absurd (stream_more e is)))

-- the stream was at its end
pub takes_last : (place : ℕ) (bs : Text) (items : List Item) (more more' : ℕ) (reader new : Items) (left left' : Option Text) (p : ℕ) (rest : Text) (t : Takes ends.Full place bs items more reader left)
    → item_at (place_of reader) t.rest ≡ got None p rest → ahead_of new ≡ None → HasLeft new left' rest → Takes ends.Last place bs items more' new left'
takes_last place bs items more more' reader new left left' p rest t is none has =
    let empty = no_bytes_end (place_of reader) p t.rest rest is in
    takes_more ends.Last place (place_of reader) bs t.front t.rest [] rest items more' new left' [] End t.split t.holds.0 (empty.0 ∙ sym empty.1) (left_own (place_of new) (ahead_of new) left' rest none has) refl
    (λ front s. record { after = []; ending = End; stream = s; holds = refl })

-- the next item was read
pub takes_next : (place : ℕ) (bs : Text) (items : List Item) (more more' : ℕ) (reader new : Items) (left left' : Option Text) (item : Item) (rest : Text) (t : Takes ends.Full place bs items more reader left)
    → item_at (place_of reader) t.rest ≡ got (Some item) (place_of new) rest → ahead_of new ≡ None → HasLeft new left' rest → Takes ends.Full place bs (items ++ item ∷ []) more' new left'
takes_next place bs items more more' reader new left left' item rest t is none has =
    let one = item_local (place_of reader) t.rest item (place_of new) rest is in record {
      front = t.front ++ one.one;
      rest = rest;
      split = t.split ∙ ap (λ (s : Text). t.front ++ s) one.split ∙ sym (append_assoc t.front one.one rest);
      left_is = left_own (place_of new) (ahead_of new) left' rest none has;
      holds = (spells_joined place (place_of reader) (place_of new) t.front one.one items (item ∷ []) t.holds.0 (spells_one (place_of reader) (place_of new) one.one item one.all), none, has);
    }

not_input : (why : Why) → IsPartReason why → why ≡ whys.Input → ⊥
not_input why part is = subst IsPartReason is part

not_more : (why : Why) → IsPartReason why → why ≡ whys.More → ⊥
not_more why part is = subst IsPartReason is part

-- and refused
pub takes_refused : (place : ℕ) (bs : Text) (items : List Item) (more more' : ℕ) (reader new : Items) (left left' : Option Text) (item : Item) (rest : Text) (why : Why) (t : Takes ends.Full place bs items more reader left)
    → item_at (place_of reader) t.rest ≡ got (Some item) (place_of new) rest → ahead_of new ≡ None → HasLeft new left' rest → 0 < more' → IsPartReason why → Takes (ends.Stopped (Some item.number) why) place bs items more' new left'
takes_refused place bs items more more' reader new left left' item rest why t is none has some part =
    let one = item_local (place_of reader) t.rest item (place_of new) rest is in
    let alone : item_at (place_of reader) one.one ≡ got (Some item) (place_of new) [] = ap (item_at (place_of reader)) (sym (append-nil one.one)) ∙ one.all [] in
    takes_more (ends.Stopped (Some item.number) why) place (place_of reader) bs t.front t.rest one.one rest items more' new left' (item ∷ []) End t.split t.holds.0 one.split (left_own (place_of new) (ahead_of new) left' rest none has)
    (place_of new, [], alone, refl)
    (λ front s. (
      record { after = item ∷ []; ending = End; stream = s; holds = (number_cut more' item (item ∷ []) [] some refl, λ e. absurd (not_input why part e), omega (arith, some)) },
      λ e. absurd (not_more why part e),
    ))

none_or : {A : Type 0} (o : Option A) (P : Option A → Type 0) → P None → ((a : A) → P (Some a)) → P o
none_or None P none some = none
none_or (Some a) P none some = some a

-- a byte is no item
byte_none : (place b : ℕ) → IsNoItem place (b ∷ [])
unfolding elements_at
byte_none place b =
    let h = none_or (letter_of b) (λ o. (e : StreamError) × (after_letter place o [] ≡ Err e)) (Bad place, refl) (λ letter. (Short (place + 1), refl)) in
    (Broken h.0, h.1)

one_none : (place : ℕ) (o : Option ℕ) → IsNoItem place (option_to_list o)
one_none place None = (End, refl)
one_none place (Some b) = byte_none place b

one_byte : (o : Option ℕ) → length (option_to_list o) ≤ 1
one_byte None = omega arith
one_byte (Some b) = omega arith

-- no item was to be read
pub takes_byte : (place : ℕ) (bs : Text) (new : Items) (left' : Option Text) → HasLeft new left' bs → Takes (ends.Stopped None whys.More) place bs [] 0 new left'
takes_byte place bs new left' has =
    let none = one_none place (ahead_of new) in record {
      front = option_to_list (ahead_of new);
      rest = has.own;
      split = has.is_all;
      left_is = has.is_left;
      holds = (record { after = []; ending = none.0; stream = none.1; holds = (tt, λ e. refl, omega arith) }, λ e. (refl, refl, one_byte (ahead_of new)));
    }

pub takes_end : (place : ℕ) (bs : Text) (new : Items) (left' : Option Text) → HasLeft new left' bs → Takes ends.Last place bs [] 0 new left'
takes_end place bs new left' has =
    let none = one_none place (ahead_of new) in record {
      front = option_to_list (ahead_of new);
      rest = has.own;
      split = has.is_all;
      left_is = has.is_left;
      holds = record { after = []; ending = none.0; stream = none.1; holds = refl };
    }

input_more : whys.Input ≡ whys.More → ⊥
input_more e = cc

pub takes_nothing : (place : ℕ) (bs : Text) (new : Items) (left' : Option Text) → ahead_of new ≡ None → HasLeft new left' bs → Takes (ends.Stopped None whys.Input) place bs [] 0 new left'
takes_nothing place bs new left' none has = record {
  front = [];
  rest = bs;
  split = refl;
  left_is = left_own (place_of new) (ahead_of new) left' bs none has;
  holds = (record { after = []; ending = End; stream = refl; holds = (tt, λ e. refl, omega arith) }, λ e. absurd (input_more e));
}

-- a batch has no items yet
pub takes_none : (place : ℕ) (bs : Text) (reader : Items) (left : Option Text) → place ≡ place_of reader → ahead_of reader ≡ None → HasLeft reader left bs → Takes ends.Full place bs [] 0 reader left
takes_none place bs reader left is none has = record { front = []; rest = bs; split = refl; left_is = left_own (place_of reader) (ahead_of reader) left bs none has; holds = ((refl, sym is), none, has) }

pub one_longer : (items : List Item) (item : Item) (n m : ℕ) → length items ≡ n → m ≡ n + 1 → length (items ++ item ∷ []) ≡ m
one_longer items item n m is next = length-append items (item ∷ []) ∙ (let e : length items + 1 ≡ m = omega (arith, is, next) in e)

-- What a batch holds, item by item.
use Rattle.std.proofs.Common.{◌≡◌, ◌≢◌, ℕ, suc, zero, ◌+◌, ◌-◌, ◌^◌, ◌<◌, min, true, Result, Ok, Err, OnOk, OnErr, IfOk, IfErr, List, [], ◌∷◌, ◌++◌, length, take, drop, get_or, Option, Some, None, ap, ap₂, sym, refl, subst, ◌∙◌, arith, append_assoc, length-append}
use Rattle.std.specs.Prelude.{IsSome}
use Rattle.std.proofs.lemmas.List.{take_at, drop_at, drop_more}
use Rattle.ml_base.specs.Bytes.{Text}
use Rattle.ml_base.specs.Dir.{Dir, with_puts, are_files}
use Rattle.ml_base.specs.declared.puts.Put.{Put}
use Rattle.ml_base.specs.Laying.{are_distinct}
use Rattle.ml_journal.specs.Records.{content_size}
use Rattle.ml_plain.specs.declared.Item.{Item}
use Rattle.ml_plain.specs.declared.Reply.{Reply}
use Rattle.ml_plain.specs.Replies.{line, status_of, is_status}
use Rattle.ml_list.specs.Applying.{Does}
use Rattle.ml_plain.specs.Directory.{IsState}
use Rattle.ml_list.specs.Damage.{IsNamed}
use Rattle.ml_plain.specs.Histories.{State, fold, text, step}
use Rattle.ml_list.proofs.States.{fold-nil, fold-one, fold-append, text-nil, text-one, text-append, last-nil, last-more}
use Rattle.ml_stream.specs.declared.items.Items.{Items}
use Rattle.ml_run.specs.declared.batches.Batch.{Batch}
use Rattle.ml_run.specs.declared.batches.BatchEnd.{BatchEnd}
use Rattle.ml_run.specs.declared.batches.BatchEnd.TheVariants as ends
use Rattle.ml_ending.specs.declared.lines.Why.{Why}
use Rattle.ml_ending.specs.declared.lines.Why.TheVariants as whys
use Rattle.ml_base.specs.declared.names.Name.{Name}
use Rattle.ml_base.specs.declared.part_error.PartError.{PartError}
use Rattle.ml_base.specs.declared.part_error.PartError.TheVariants.{Fault, Memory, Damaged}
use Rattle.ml_base.specs.PartErrors.{OnDamaged}
use Rattle.ml_ending.specs.Stops.{why_of_part}
use Rattle.ml_stream.specs.Stream.{StreamEnd}
use Rattle.ml_run.proofs.LaidPuts.{laid_over, laid_files, all_distinct}
use Rattle.ml_run.specs.Batches.{laid_all, IsBatch, IsEmptyBatch, HasNext, Holds, IsFirst, first_number, IsAhead, Gathers, IsStop, IsNumberOf, HasReason, IsPartReason, HasRoom, IsJustFull, EndsInTime}

-- no items
pub holds_none : (dir : Dir) (g : Batch) (q : State) → IsEmptyBatch g → IsState dir q → Holds dir g.last g q []
holds_none dir g q e stands = record {
  state = subst (λ (txn : List Put). IsState (with_puts dir txn) (fold q [])) (sym e.txn) (subst (λ (s : State). IsState dir s) (sym (fold-nil q)) stands);
  lines = e.lines ∙ sym (text-nil q);
  count = e.count;
  first = e.first;
  last_is = sym (last-nil g.last q);
}

first_more : (first new : Option ℕ) (number : ℕ) (items : List Item) (item : Item) → IsFirst first items → new ≡ first_number first number → number ≡ item.number → IsFirst new (items ++ item ∷ [])
first_more first new number [] item is next same = next ∙ ap (λ (o : Option ℕ). first_number o number) is ∙ ap (λ (n : ℕ). Some n) same
first_more first new number (i ∷ items) item is next same = next ∙ ap (λ (o : Option ℕ). first_number o number) is

-- one item more
pub holds_more : (dir : Dir) (last : ℕ) (g new : Batch) (q : State) (items : List Item) (item : Item) (more : List Put) (reply : Reply)
    → Holds dir last g q items → HasNext g new item.number more reply → Does (with_puts dir g.txn) (more, reply) (step (fold q items) item) → Holds dir last new q (items ++ item ∷ [])
holds_more dir last g new q items item more reply h next gives =
    let folded : fold q (items ++ item ∷ []) ≡ (step (fold q items) item).0 = fold-append q items (item ∷ []) ∙ fold-one (fold q items) item in record {
      state = subst (λ (txn : List Put). IsState (with_puts dir txn) (fold q (items ++ item ∷ []))) (sym next.txn)
          (subst (λ (d : Dir). IsState d (fold q (items ++ item ∷ []))) (sym (laid_over dir g.txn more))
          (subst (λ (s : State). IsState (with_puts (with_puts dir g.txn) more) s) (sym folded) gives.state));
      lines = next.lines ∙ ap (λ (t : Text). t ++ line item.number reply) h.lines ∙ ap (λ (r : Reply). text q items ++ line item.number r) gives.reply
          ∙ ap (λ (t : Text). text q items ++ t) (sym (text-one (fold q items) item)) ∙ sym (text-append q items (item ∷ []));
      count = next.count ∙ ap (λ (n : ℕ). n + 1) h.count ∙ sym (length-append items (item ∷ []));
      first = first_more g.first new.first item.number items item h.first next.first refl;
      last_is = next.last ∙ ap (λ (r : Reply). status_of r.code) gives.reply ∙ sym (last-more last q items item);
    }

-- the sizes of two rows of puts
pub content_joined : (xs ys : List Put) → content_size (xs ++ ys) ≡ content_size xs + content_size ys
content_joined [] ys = sym (let z : 0 + content_size ys ≡ content_size ys = omega arith in z)
content_joined (x ∷ xs) ys = omega (arith, content_joined xs ys)

-- a batch of items over those that were ahead, at its start
pub gathers_none : (dir : Dir) (g : Batch) (room : ℕ) (reader : Items) (left : Option Text) (ahead : List Item) (ending : StreamEnd) (q : State)
    → IsEmptyBatch g → IsAhead reader left ahead ending → IsState dir q → Gathers dir g.last g ends.Full room reader left ahead ending q
gathers_none dir g room reader left ahead ending q e a stands = record { items = []; rest = ahead; split = refl; holds = holds_none dir g q e stands; ends = a }

-- one item more was read and added
pub gathers_more : (dir : Dir) (last : ℕ) (g new : Batch) (room : ℕ) (reader next : Items) (left left' : Option Text) (ahead : List Item) (ending : StreamEnd) (q : State) (item : Item)
    (s : Gathers dir last g ends.Full room reader left ahead ending q) (later : List Item) → s.rest ≡ item ∷ later → IsAhead next left' later ending
    → Holds dir last new q (s.items ++ item ∷ []) → Gathers dir last new ends.Full room next left' ahead ending q
gathers_more dir last g new room reader next left left' ahead ending q item s later is a holds = record {
  items = s.items ++ item ∷ [];
  rest = later;
  split = s.split ∙ ap (λ (l : List Item). s.items ++ l) is ∙ sym (append_assoc s.items (item ∷ []) later);
  holds = holds;
  ends = a;
}

-- the number of the item that is refused
pub number_cut : (more : ℕ) (item : Item) (rest later : List Item) → 0 < more → rest ≡ item ∷ later → IsNumberOf (Some item.number) (take more rest)
number_cut zero item rest later some is = absurd (omega (arith, some))
number_cut (suc more) item rest later some is = subst (λ (l : List Item). IsNumberOf (Some item.number) (take (suc more) l)) (sym is) refl

pub same_batch : (g : Batch) (txn : List Put) (lines : Text) → txn ≡ g.txn → lines ≡ g.lines → record { txn = txn; lines = lines; count = g.count; size = g.size; first = g.first; last = g.last } ≡ g
same_batch g txn lines e f = λ i. record { txn = e i; lines = f i; count = g.count; size = g.size; first = g.first; last = g.last }

some_first : (first : Option ℕ) (number : ℕ) → IsSome (first_number first number)
some_first None number = refl
some_first (Some n) number = refl

-- a batch with one item more is one
pub next_batch : (g new : Batch) (more : List Put) (number last : ℕ) → IsBatch g → g.count < 16 → are_files more ≡ true → is_status last ≡ true
    → new.txn ≡ laid_all g.txn more → new.count ≡ g.count + 1 → new.size ≡ min (content_size new.txn) (2 ^ 64 - 1) → new.first ≡ first_number g.first number → new.last ≡ last → IsBatch new
next_batch g new more number last h room files status txn count size first lasts = record {
  files = ap are_files txn ∙ laid_files g.txn more h.files files;
  distinct = ap are_distinct txn ∙ all_distinct g.txn more h.distinct;
  size = size;
  last = ap is_status lasts ∙ status;
  few = omega (arith, count, room);
  none = λ zero. absurd (omega (arith, count, zero));
  first = λ some. subst (λ (o : Option ℕ). IsSome o) (sym first) (some_first g.first number);
}

-- the puts of an item, joined to a batch's and then laid over them
pub laid_txn : (old more now new : List Put) (front : ℕ) → now ≡ old ++ more → front ≡ length old → new ≡ laid_all (take front now) (drop front now) → new ≡ laid_all old more
laid_txn old more now new front is size e =
    e ∙ ap (λ (l : List Put). laid_all (take front l) (drop front l)) is ∙ ap₂ laid_all (take_at old more front (sym size)) (drop_at old more front (sym size))

-- an item's puts and its answer were added, or the batch is as it was
pub added_next : (r : Result (Unit {0}) Why) (dir : Dir) (g mid new : Batch) (item : Item) (more : List Put) (reply : Reply) → mid ≡ g → OnOk r (HasNext mid new item.number more reply)
    → ((q : State) → IsState (with_puts dir g.txn) q → Does (with_puts dir g.txn) (more, reply) (step q item)) → OnOk r ((last : ℕ) (q : State) (items : List Item) → Holds dir last g q items → Holds dir last new q (items ++ item ∷ []))
added_next (Ok u) dir g mid new item more reply same next gives = λ last q items h.
    holds_more dir last g new q items item more reply h (subst (λ (m : Batch). HasNext m new item.number more reply) same next) (gives (fold q items) h.state)
added_next (Err e) dir g mid new item more reply same next gives = tt

-- the same for the batch alone
pub next_over : (r : Result (Unit {0}) Why) (g mid new : Batch) (number : ℕ) (more : List Put) (reply : Reply) → mid ≡ g → OnOk r (HasNext mid new number more reply)
    → OnOk r ((puts : List Put) × (answer : Reply) × HasNext g new number puts answer)
next_over (Ok u) g mid new number more reply same next = (more, reply, subst (λ (m : Batch). HasNext m new number more reply) same next)
next_over (Err e) g mid new number more reply same next = tt

-- the size of a batch that is counted
pub few_bytes : (g : Batch) → IsBatch g → g.size < 4_194_304 → content_size g.txn < 4_194_304
few_bytes g is low = omega (arith, is.size, low)

-- a batch without items has few bytes
pub none_low : (g : Batch) → IsEmptyBatch g → g.size < 4_194_304
none_low g is = let zero : content_size g.txn ≡ 0 = ap content_size is.txn in omega (arith, is.batch.size, zero)

-- a batch that ends for another reason than being full
pub ended_in_time : (end : BatchEnd) (g : Batch) → end ≢ ends.Full → HasRoom g → EndsInTime end g
ended_in_time ends.Full g other room = absurd (other refl)
ended_in_time ends.Last g other room = room
ended_in_time (ends.Stopped who why) g other room = room

-- a batch that had room has one item more
pub just_full : (g new : Batch) (number : ℕ) → IsBatch g → g.count < 16 → g.size < 4_194_304 → (more : List Put) × (reply : Reply) × HasNext g new number more reply → IsJustFull new
just_full g new number is few low h = record { before = g; number = number; more = h.0; reply = h.1; next = h.2; not_full = (few, few_bytes g is low) }

-- the size from a place on
pub content_next : (puts : List Put) (i : ℕ) (put : Put) → i < length puts → put ≡ get_or puts i put → content_size (drop i puts) ≡ content_size (put ∷ []) + content_size (drop (i + 1) puts)
content_next puts i put lt is = ap content_size (drop_more puts i put lt ∙ ap (λ (p : Put). p ∷ drop (i + 1) puts) (sym is)) ∙ content_joined (put ∷ []) (drop (i + 1) puts)

-- what holds of a result's value, at that value
pub at_ok : {T E : Type 0} (P : T → Type 0) (r : Result T E) (x : T) → IfOk r P → r ≡ Ok x → P x
at_ok {T} {E} P r x h is = subst (λ (q : Result T E). IfOk q P) is h

pub at_on_ok : {T E : Type 0} {P : Type 0} (r : Result T E) (x : T) → OnOk r P → r ≡ Ok x → P
at_on_ok {T} {E} {P} r x h is = subst (λ (q : Result T E). OnOk q P) is h

pub at_on_err : {T E : Type 0} {P : Type 0} (r : Result T E) (e : E) → OnErr r P → r ≡ Err e → P
at_on_err {T} {E} {P} r e h is = subst (λ (q : Result T E). OnErr q P) is h

pub at_err : {T E : Type 0} (P : E → Type 0) (r : Result T E) (e : E) → IfErr r P → r ≡ Err e → P e
at_err {T} {E} P r e h is = subst (λ (q : Result T E). IfErr q P) is h

-- an item that was refused stops its batch
pub refused_stop : (why : Why) (number more : ℕ) (rest : List Item) (ending : StreamEnd) (disk : Type 0) (damaged : Name → Type 0) → IsPartReason why → HasReason why ⊥ disk damaged → ((name : Name) → damaged name → ⊥)
    → IsNumberOf (Some number) (take more rest) → IsStop why (Some number) more rest ending
refused_stop whys.Memory number more rest ending disk damaged part reason sound is = is
refused_stop whys.Disk number more rest ending disk damaged part reason sound is = (refl, is)
refused_stop (whys.At name) number more rest ending disk damaged part reason sound is = sound name reason.1
refused_stop (whys.Bad at) number more rest ending disk damaged part reason sound is = absurd part
refused_stop (whys.Short at) number more rest ending disk damaged part reason sound is = absurd part
refused_stop whys.More number more rest ending disk damaged part reason sound is = absurd part
refused_stop whys.Input number more rest ending disk damaged part reason sound is = absurd part
refused_stop whys.Usage number more rest ending disk damaged part reason sound is = absurd part
refused_stop whys.Words number more rest ending disk damaged part reason sound is = absurd part
refused_stop whys.Long number more rest ending disk damaged part reason sound is = absurd part
refused_stop whys.Clock number more rest ending disk damaged part reason sound is = absurd part
refused_stop whys.NoList number more rest ending disk damaged part reason sound is = absurd part
refused_stop whys.There number more rest ending disk damaged part reason sound is = absurd part
refused_stop whys.Absent number more rest ending disk damaged part reason sound is = absurd part

-- a batch over another name of its directory, or over another name of itself
pub same_dir : (old new : Dir) (last : ℕ) (g next : Batch) (item : Item) → new ≡ old → ((last : ℕ) (q : State) (items : List Item) → Holds new last g q items → Holds new last next q (items ++ item ∷ []))
    → (q : State) (items : List Item) → Holds old last g q items → Holds old last next q (items ++ item ∷ [])
same_dir old new last g next item is f = subst (λ (d : Dir). (q : State) (items : List Item) → Holds d last g q items → Holds d last next q (items ++ item ∷ [])) is (f last)

-- why a part gave no answer
pub part_reason : (error : PartError) (disk : Type 0) (damaged : Name → Type 0) → (error ≡ Fault → disk) → OnDamaged error IsNamed → OnDamaged error damaged → HasReason (why_of_part error) ⊥ disk damaged
part_reason Fault disk damaged cause named is = cause refl
part_reason Memory disk damaged cause named is = tt
part_reason (Damaged name) disk damaged cause named is = (named, is)

pub when_told : (error : PartError) (told : Type 0) (damaged : Name → Type 0) → (told → OnDamaged error damaged) → OnDamaged error (λ name. told → damaged name)
when_told Fault told damaged is = tt
when_told Memory told damaged is = tt
when_told (Damaged name) told damaged is = is

-- A run whose stream is one item in hand.
use Rattle.std.proofs.Common.{◌≡◌, ⊎_elim, ℕ, ◌+◌, Bool, true, false, eqb, List, [], ◌∷◌, length, Option, Some, None, Ok, ap, sym, subst, refl, ◌∙◌, arith, zero-add}
use Rattle.std.proofs.lemmas.Bool.{eqb-true}
use Rattle.std.proofs.lemmas.List.{append-nil}
use Rattle.std.proofs.lemmas.Bool.Decides.{nat_tests}
use Rattle.ml_base.specs.Bytes.{Text}
use Rattle.ml_base.specs.Dir.{Dir}
use Rattle.ml_base.specs.Faults.{Rose}
use Rattle.ml_base.specs.declared.names.Name.{Name}
use Rattle.ml_site.specs.Disk.{Contents}
use Rattle.ml_journal.specs.Log.{directory}
use Rattle.ml_plain.specs.Histories.{State}
use Rattle.ml_plain.specs.Items.{IsItem}
use Rattle.ml_plain.specs.declared.Item.{Item}
use Rattle.ml_stream.specs.Items.{HasLeft, NextRead, place_of}
use Rattle.ml_stream.specs.Stream.{StreamEnd, End, Broken, IsStream, item_at, got}
use Rattle.ml_stream.specs.Writing.{IsTyped, spelled_item}
use Rattle.ml_stream.specs.declared.stream_error.StreamError.TheVariants as errors
use Rattle.ml_stream.proofs.Spelled.{item_written}
use Rattle.ml_run.specs.Feeds.{IsHeld, bytes_held, reader_held}
use Rattle.ml_run.specs.Batches.{IsOfNext}
use Rattle.ml_run.specs.Endings.{Begins, Brings, HasMore, IsBroken, TellsStream}
use Rattle.ml_run.specs.Leaving.{HasState}
use Rattle.ml_run.specs.Single.{IsAlone, is_item_status}
use Rattle.ml_run.specs.Stops.{is_run_status}

-- what is handed over is what the item's own bytes give
pub given_held : (item : Item) (held : Option Item) (bs : Text) → IsHeld item held → HasLeft (reader_held item held) (Some (bytes_held item held)) bs
    → NextRead (Ok held) (reader_held item None) (Some (bytes_held item None)) (item_at (place_of (reader_held item held)) bs)
given_held item (Some x) bs h has =
    let own = spelled_item item in
    let same : own ≡ has.own = let left = has.is_left in cc in (
      [],
      ap (item_at 0) (has.is_all ∙ sym same ∙ sym (append-nil own)) ∙ item_written 0 item [] h.ranges h.typed ∙ ap (λ (n : ℕ). got (Some item) n []) (zero-add (length own)) ∙ ap (λ (y : Item). got (Some y) (length own) []) (sym h.same),
      record { own = []; is_left = refl; is_all = refl; room = let fits = has.room in omega (arith, fits, ap length has.is_all, ap length same) },
    )
given_held item None bs h has =
    let none : [] ≡ has.own = let left = has.is_left in cc in
    ([], ap (item_at (length (spelled_item item))) (has.is_all ∙ sym none), record { own = []; is_left = refl; is_all = refl; room = let fits = has.room in omega (arith, fits, ap length has.is_all, ap length none) })

-- the stream of an item's own bytes is that item
item_stream : (item : Item) → IsItem item → IsTyped item.act → IsStream 0 (spelled_item item) (item ∷ []) End
item_stream item ranges typed =
    let own = spelled_item item in (0 + length own, [], subst (λ (t : Text). item_at 0 t ≡ got (Some item) (0 + length own) []) (append-nil own) (item_written 0 item [] ranges typed), refl)

pub brings_item : (item : Item) → IsItem item → IsTyped item.act → Brings (Some (spelled_item item)) (item ∷ []) End
brings_item item ranges typed = record { bytes = spelled_item item; left_is = refl; stream = item_stream item ranges typed }

pub begins_item : (item : Item) (held : Contents) (q : State) → IsItem item → IsTyped item.act → HasState (directory held) q → Begins (Some (spelled_item item)) held (item ∷ []) End q
begins_item item held q ranges typed s = record { bytes = spelled_item item; left_is = refl; stream = item_stream item ranges typed; state = s }

not_broken : IsBroken End → ⊥
not_broken b = ⊎_elim (λ (e : End ≡ Broken (errors.Bad b.0)). cc) (λ (e : End ≡ Broken (errors.Short b.0)). cc) b.1

no_more : (item : Item) → HasMore 1 (item ∷ []) End → ⊥
no_more item m = ⊎_elim (λ lt. omega (arith, lt)) (λ other. other refl) m

pub status_known : (status answered : ℕ) (item : Item) → (status ≡ 74 → ⊥) → TellsStream status 1 answered (item ∷ []) End → is_run_status status ≡ true → is_item_status status ≡ true
status_known status answered item never tells is =
    let broken : status ≡ 65 → ⊥ = λ e. not_broken (tells.broken e).0 in
    let more : status ≡ 72 → ⊥ = λ e. no_more item (tells.more e).1 in
    go (eqb status 74) (eqb status 65) (eqb status 72) refl refl refl broken more
  where
    go : (a b d : Bool) → eqb status 74 ≡ a → eqb status 65 ≡ b → eqb status 72 ≡ d → (status ≡ 65 → ⊥) → (status ≡ 72 → ⊥) → is_item_status status ≡ true
    go true b d e f h broken more = absurd (never (eqb-true status 74 e))
    go false true d e f h broken more = absurd (broken (eqb-true status 65 f))
    go false false true e f h broken more = absurd (more (eqb-true status 72 h))
    go false false false e f h broken more = grind (arith, nat_tests)

pub none_rose : Rose 0 0 → ⊥
none_rose rose = absurd (omega (arith, rose))

-- the item for which a file is named is the one in hand
pub alone_next : (item : Item) (count : ℕ) (files : Dir) (who : Option ℕ) (name : Name) → IsItem item → IsTyped item.act → IsOfNext (Brings (Some (spelled_item item))) count files who name → IsOfNext (IsAlone item) count files who name
alone_next item count files who name ranges typed of = record {
  item = of.item;
  number = of.number;
  reads = of.reads;
  asked = of.asked;
  none = of.none;
  next = λ all ending alone. of.next all ending
      (subst (λ (e : StreamEnd). Brings (Some (spelled_item item)) all e) (sym alone.1) (subst (λ (items : List Item). Brings (Some (spelled_item item)) items End) (sym alone.0) (brings_item item ranges typed)));
}

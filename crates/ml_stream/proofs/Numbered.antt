-- Reading what was written of numbered acts gives these acts.
use Rattle.std.proofs.Common.{◌≡◌, ℕ, ◌+◌, List, [], ◌∷◌, ◌++◌, length, refl, ap, sym, ◌∙◌, arith, append-nil}
use Rattle.std.proofs.lemmas.List.Concat.{flat_map-cons, flat_map-append}
use Rattle.std.specs.List.{AllByRecursion}
use Rattle.ml_base.specs.Bytes.{Text}
use Rattle.ml_base.specs.Ranges.{IsMoment}
use Rattle.ml_plain.specs.Items.{AreNumbers, numbered}
use Rattle.ml_plain.specs.declared.Act.{Act}
use Rattle.ml_plain.specs.declared.Item.{Item}
use Rattle.ml_stream.specs.Stream.{IsStream, End, item_at}
use Rattle.ml_stream.specs.Writing.{IsGood, spelled_item, stream_text}
use Rattle.ml_stream.proofs.Spelled.{item_written}

pub acts_read : (place first now : ℕ) (acts : List Act) → IsMoment now → AreNumbers first (length acts) → AllByRecursion IsGood acts → IsStream place (stream_text (numbered first now acts)) (numbered first now acts) End
acts_read place first now [] moment numbers good = refl
acts_read place first now (act ∷ more) moment numbers good = (
  place + length (spelled_item item),
  stream_text (numbered (first + 1) now more),
  ap (item_at place) (flat_map-cons spelled_item item (numbered (first + 1) now more))
      ∙ item_written place item (stream_text (numbered (first + 1) now more)) (record { number = omega (arith, numbers); moment = moment; act = good.0.0 }) good.0.1,
  acts_read (place + length (spelled_item item)) (first + 1) now more moment (omega (arith, numbers)) good.1,
)
  where
    item : Item
    item = record { number = first; moment = now; act = act }

-- one more item
numbered_last : (first now : ℕ) (acts : List Act) (act : Act) → numbered first now (acts ++ act ∷ []) ≡ numbered first now acts ++ record { number = first + length acts; moment = now; act = act } ∷ []
numbered_last first now [] act = let same : first ≡ first + 0 = omega arith in ap (λ (n : ℕ). record { number = n; moment = now; act = act } ∷ []) same
numbered_last first now (a ∷ acts) act =
    let same : first + 1 + length acts ≡ first + length (a ∷ acts) = omega arith in
    ap (λ (l : List Item). record { number = first; moment = now; act = a } ∷ l) (numbered_last (first + 1) now acts act ∙ ap (λ (n : ℕ). numbered (first + 1) now acts ++ record { number = n; moment = now; act = act } ∷ []) same)

-- the text of one more item
pub written_last : (first now : ℕ) (acts : List Act) (act : Act) → stream_text (numbered first now acts) ++ spelled_item (record { number = first + length acts; moment = now; act = act })
    ≡ stream_text (numbered first now (acts ++ act ∷ []))
written_last first now acts act =
    ap (λ (t : Text). stream_text (numbered first now acts) ++ t) (sym (append-nil (spelled_item (record { number = first + length acts; moment = now; act = act }))))
    ∙ sym (flat_map-append spelled_item (numbered first now acts) (record { number = first + length acts; moment = now; act = act } ∷ []))
    ∙ ap stream_text (sym (numbered_last first now acts act))

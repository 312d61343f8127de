-- A source of an exercise turns to its next item, and gives the bytes of one.
use Rattle.std.proofs.Common.{◌≡◌, ℕ, zero, suc, ◌+◌, ◌-◌, ◌<◌, ◌≤◌, min, ◌++◌, length, take, drop, Some, ap, ap₂, sym, refl, ◌∙◌, arith, append_assoc, length-append, length-drop, length-take}
use Rattle.std.proofs.lemmas.List.{drop_all, drop-drop, take-append-drop, take-append-le, take_all}
use Rattle.std.proofs.lemmas.List.Concat.{flat_map-cons}
use Rattle.ml_base.specs.Bytes.{Text}
use Rattle.ml_site.specs.Source.{Takes}
use Rattle.ml_stream.specs.Writing.{spelled_item, stream_text}
use Rattle.ml_generated.specs.Items.{item, items_from, left_of}

-- the item that was held is taken whole, and the next one is held
pub turned : (local host held fresh : Text) (at next ahead : ℕ) → at ≡ length held → 0 < ahead → fresh ≡ spelled_item (item local host next)
    → left_of local host fresh 0 (next + 1) (ahead - 1) ≡ left_of local host held at next ahead
turned local host held fresh at next zero all some is = absurd (omega arith)
turned local host held fresh at next (suc more) all some is =
    let less : suc more - 1 ≡ more = omega arith in
    let rest = items_from local host (next + 1) more in
    ap (λ (k : ℕ). fresh ++ stream_text (items_from local host (next + 1) k)) less ∙ ap (λ (t : Text). t ++ stream_text rest) is
    ∙ sym (flat_map-cons spelled_item (item local host next) rest) ∙ ap (λ (t : Text). t ++ stream_text (items_from local host next (suc more))) (sym (drop_all at held (omega arith)))

-- some first bytes of what is left of an item are read into a buffer
taken : (held left buf part : Text) (at count : ℕ) → left ≡ take (length held - at) (drop at held) → count ≡ min (length left) (length buf) → part ≡ take count left
    → drop at held ≡ take count (part ++ drop count buf) ++ drop (at + count) held
taken held left buf part at count is_left is_count is_part =
    let all : left ≡ drop at held = is_left ∙ take_all (length held - at) (drop at held) (omega (arith, length-drop at held)) in
    let part_len : length part ≡ count = ap length is_part ∙ length-take count left ∙ (let h : min count (length left) ≡ count = omega arith in h) in
    let front : take count (part ++ drop count buf) ≡ part = take-append-le count part (drop count buf) (omega (arith, part_len)) ∙ take_all count part (omega (arith, part_len)) in
    sym (ap (λ (t : Text). t ++ drop (at + count) held) (front ∙ is_part ∙ ap (take count) all) ∙ ap (λ (t : Text). take count (drop at held) ++ t) (sym (drop-drop count at held)) ∙ take-append-drop count (drop at held))

-- a read takes from the item that is held; if it gives no byte, no item comes after that
pub takes : (local host held buf part left : Text) (at count next ahead : ℕ) → (at ≡ length held → ahead ≡ 0) → at ≤ length held → left ≡ take (length held - at) (drop at held) → count ≡ min (length left) (length buf) → part ≡ take count left
    → Takes (left_of local host held at next ahead) (Some (left_of local host held (at + count) next ahead)) (part ++ drop count buf) count
takes local host held buf part left at count next ahead end within is_left is_count is_part = (
  drop (at + count) held ++ rest,
  ap (λ (x : Text). x ++ rest) (taken held left buf part at count is_left is_count is_part) ∙ append_assoc (take count (part ++ drop count buf)) (drop (at + count) held) rest,
  refl,
  λ none some. ap₂ (λ (x y : Text). x ++ y) (drop_all (at + count) held (omega (arith, last none some))) (ap (λ (k : ℕ). stream_text (items_from local host next k)) (end (last none some))),
)
  where
    rest : Text
    rest = stream_text (items_from local host next ahead)

    last : count ≡ 0 → 0 < length (part ++ drop count buf) → at ≡ length held
    last none some =
        let whole : length left ≡ length held - at = ap length is_left ∙ ap length (take_all (length held - at) (drop at held) (omega (arith, length-drop at held))) ∙ length-drop at held in
        let parts = length-append part (drop count buf) in
        let empty : length part ≡ min count (length left) = ap length is_part ∙ length-take count left in
        let more = length-drop count buf in
        omega (arith, whole, parts, empty, more, none, some, is_count, within)

-- Reading a piece of the input after what was read before.
use Rattle.std.proofs.Common.{[], arith, refl, ◌≡◌, ℕ, ◌+◌, ◌≤◌, ◌<◌, ◌++◌, length, take, Option, Some, None, IfSome, ap, sym, subst, ◌∙◌, append_assoc}
use Rattle.std.proofs.lemmas.List.{length-take-le, take-append-le, take-take}
use Rattle.std.proofs.Math.Seq.{take-append-add, take-append_seam}
use Rattle.ml_base.specs.Bytes.{Text}
use Rattle.ml_site.specs.Source.{Takes}
use Rattle.ml_site.specs.declared.source.Source.{Ghosts as SourceGhosts}
use Rattle.ml_input.specs.Input.{Continues, ReadsAtMost, TakesFront}

-- zeros were added to bytes, and the first bytes of a piece written over the zeros: this adds those bytes of the piece
written : (old zeros piece after rest : Text) (room count : ℕ) → length old + count ≤ room → count ≤ length piece
    → take (length old + count) (take room ((take (length old) (old ++ zeros) ++ (piece ++ after)) ++ rest)) ≡ old ++ take count piece
written old zeros piece after rest room count fits low =
    take-take (length old + count) room ((take (length old) (old ++ zeros) ++ (piece ++ after)) ++ rest) fits
    ∙ ap (λ t. take (length old + count) ((t ++ (piece ++ after)) ++ rest)) (take-append_seam old zeros)
    ∙ ap (λ t. take (length old + count) t) (append_assoc old (piece ++ after) rest)
    ∙ take-append-add old ((piece ++ after) ++ rest) count
    ∙ ap (λ t. old ++ take count t) (append_assoc piece after rest)
    ∙ ap (λ t. old ++ t) (take-append-le count piece (after ++ rest) low)

-- one more read adds the piece that it took
pub continues : (before after : Option Text) (old new grown zeros piece beyond rest : Text) (len room count : ℕ) → len ≡ length old → len + count ≤ room → count ≤ length piece → 0 < length piece
    → grown ≡ old ++ zeros → new ≡ take (len + count) (take room ((take len grown ++ (piece ++ beyond)) ++ rest))
    → IfSome before (λ left. Takes left after piece count) → IfSome before (λ left. Continues left after old new count)
continues None after old new grown zeros piece beyond rest len room count own fits low some is cut t = t
continues (Some left) after old new grown zeros piece beyond rest len room count own fits low some is cut t = record {
  piece = take count piece;
  rest = t.0;
  split = t.1;
  after_is = t.2;
  added = cut ∙ ap (λ g. take (len + count) (take room ((take len g ++ (piece ++ beyond)) ++ rest))) is
      ∙ ap (λ n. take (n + count) (take room ((take n (old ++ zeros) ++ (piece ++ beyond)) ++ rest))) own
      ∙ written old zeros piece beyond rest room count (subst (λ n. n + count ≤ room) own fits) low;
  count_is = sym (length-take-le count piece low);
  end = λ none. t.3 none some;
}

-- nothing was read of an input that is left as it is
pub nothing_read : {I : Type 0} (source : SourceGhosts I) (limit : ℕ) (input : I) → ReadsAtMost source limit input input
nothing_read source limit input = of (source.left input) refl
  where
    of : (left : Option Text) → source.left input ≡ left → ReadsAtMost source limit input input
    of None is = subst (λ (o : Option Text). IfSome o (λ left. TakesFront left (source.left input) (λ n. n ≤ limit + 1))) (sym is) tt
    of (Some bytes) is = subst (λ (o : Option Text). IfSome o (λ left. TakesFront left (source.left input) (λ n. n ≤ limit + 1))) (sym is)
        (record { front = []; rest = bytes; split = refl; after_is = is; count = omega arith })

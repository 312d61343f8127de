-- What is left of a stream is its next item, an error or the end.
use Rattle.std.proofs.Common.{◌≡◌, ◌≢◌, ◌⊎◌, inl, inr, ℕ, ◌+◌, true, false, List, [], ◌∷◌, Option, Some, None, Result, Ok, Err, ap, sym, refl, subst, ◌∙◌}
use Rattle.std.proofs.lemmas.Option.{same_Some}
use Rattle.ml_base.specs.Bytes.{Text, is_empty}
use Rattle.ml_plain.specs.declared.Item.{Item}
use Rattle.ml_stream.specs.declared.reader.Letter.{Letter}
use Rattle.ml_stream.specs.declared.stream_error.StreamError.{StreamError}
use Rattle.ml_stream.specs.declared.stream_error.StreamError.TheVariants.{Bad}
use Rattle.ml_stream.specs.Stream.{Read, got, and_then, StreamEnd, End, Broken, IsStream, item_at, after_letter, letter_of, elements_at, some_item}

abbrev ItemRead : Type 0
ItemRead = Read (Option Item)

-- the parts of what was read, or others if nothing was read
value_in : ItemRead → Option Item
value_in (Ok found) = found.value
value_in (Err e) = None

place_in : ItemRead → ℕ
place_in (Ok found) = found.place
place_in (Err e) = 0

rest_in : ItemRead → Text
rest_in (Ok found) = found.rest
rest_in (Err e) = []

some_none : (i : Item) → Some i ≡ None → ⊥
some_none i e = cc

err_ok : {X Y : Type 0} (x : X) (y : Y) → ◌≡◌ {A = Result Y X} (Err x) (Ok y) → ⊥
err_ok x y e = cc

pub stream_end : (place p : ℕ) (bs r : Text) (items : List Item) (ending : StreamEnd) → IsStream place bs items ending → item_at place bs ≡ got None p r → (items ≡ []) × (ending ≡ End)
unfolding value_in
stream_end place p bs r [] End h e = (refl, refl)
stream_end place p bs r [] (Broken x) h e = absurd (err_ok x _ (sym h ∙ e))
stream_end place p bs r (i ∷ is) ending h e = absurd (some_none i (ap value_in (sym h.2 ∙ e)))

broken_same : (x y : StreamError) → ◌≡◌ {A = ItemRead} (Err x) (Err y) → y ≡ x
broken_same x y e = cc

pub stream_err : (place : ℕ) (bs : Text) (x : StreamError) (items : List Item) (ending : StreamEnd) → IsStream place bs items ending → item_at place bs ≡ Err x → (items ≡ []) × (ending ≡ Broken x)
stream_err place bs x [] End h e = absurd (err_ok x _ (sym e ∙ h))
stream_err place bs x [] (Broken y) h e = (refl, ap Broken (broken_same x y (sym e ∙ h)))
stream_err place bs x (i ∷ is) ending h e = absurd (err_ok x _ (sym e ∙ h.2))

pub stream_item : (place p : ℕ) (bs r : Text) (i : Item) (items : List Item) (ending : StreamEnd) → IsStream place bs items ending → item_at place bs ≡ got (Some i) p r → (later : List Item) × (items ≡ i ∷ later) × IsStream p r later ending
unfolding value_in place_in rest_in
stream_item place p bs r i [] End h e = absurd (some_none i (ap value_in (sym e ∙ h)))
stream_item place p bs r i [] (Broken x) h e = absurd (err_ok x _ (sym h ∙ e))
stream_item place p bs r i (j ∷ js) ending h e =
    let same = sym h.2 ∙ e in (
      js,
      ap (λ k. k ∷ js) (same_Some j i (ap value_in same)),
      subst (λ q. IsStream q r js ending) (ap place_in same) (subst (λ q. IsStream h.0 q js ending) (ap rest_in same) h.3),
    )

-- bytes begin an item or are bad: they aren't the end
no_end : (place p : ℕ) (b : ℕ) (bs r : Text) (o : Option Letter) → after_letter place o bs ≡ got None p r → ⊥
unfolding value_in
no_end place p b bs r None e = err_ok (Bad place) _ e
no_end place p b bs r (Some letter) e = go (elements_at letter (place + 1) bs) e
  where
    go : (x : Read Item) → and_then x some_item ≡ got None p r → ⊥
    go (Ok found) h = some_none found.value (ap value_in h)
    go (Err x) h = err_ok x _ h

-- the end is read only if no byte is left
pub no_bytes_end : (place p : ℕ) (bs r : Text) → item_at place bs ≡ got None p r → (bs ≡ []) × (r ≡ [])
unfolding rest_in
no_bytes_end place p [] r e = (refl, sym (ap rest_in e))
no_bytes_end place p (b ∷ bs) r e = absurd (no_end place p b bs r (letter_of b) e)

-- if bytes are left, items or a bad element are left too
pub more_ahead : (place : ℕ) (bs : Text) (items : List Item) (ending : StreamEnd) → IsStream place bs items ending → is_empty bs ≡ false → (items ≢ []) ⊎ (¬ (ending ≡ End))
more_ahead place bs [] ending s some = inr (λ is. bytes bs some (subst (λ (x : StreamEnd). IsStream place bs [] x) is s))
  where
    bytes : (bs : Text) → is_empty bs ≡ false → item_at place bs ≡ got None place [] → ⊥
    bytes [] e h = cc
    bytes (b ∷ bs) e h = no_end place place b bs [] (letter_of b) h
more_ahead place bs (i ∷ is) ending s some = inl (λ e. cc)

pub none_ahead : (place : ℕ) (bs : Text) (items : List Item) (ending : StreamEnd) → IsStream place bs items ending → is_empty bs ≡ true → (items ≡ []) × (ending ≡ End)
none_ahead place bs items ending s none = stream_end place place bs [] items ending s (ap (item_at place) (nothing bs none))
  where
    nothing : (bs : Text) → is_empty bs ≡ true → bs ≡ []
    nothing [] e = refl
    nothing (b ∷ bs) e = cc

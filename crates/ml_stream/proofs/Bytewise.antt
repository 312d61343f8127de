-- For functions that read a byte at a time.
use Rattle.std.proofs.Common.{◌≡◌, ℕ, suc, ◌+◌, ◌-◌, ◌^◌, ◌<◌, ◌≤◌, min, Bool, true, false, List, [], ◌∷◌, ◌++◌, length, get_or, Option, Some, None, ap, refl, ◌∙◌, arith, MatchBool, ◌≢◌, ◌*◌, Err}
use Rattle.std.specs.Option.{option_to_list}
use Rattle.std.proofs.lemmas.Bool.Decides.{when_true, when_false, nat_tests}
use Rattle.ml_stream.specs.Reading.{Stands, Steps}
use Rattle.ml_stream.specs.Stream.{length_at, got}
use Rattle.ml_stream.specs.declared.stream_error.StreamError.TheVariants.{Bad}
use Rattle.ml_base.specs.Numbers.{is_next_digit}
use Rattle.std.proofs.lemmas.Bool.{eq-eqb, ne_eqb}

one_item : (xs : List ℕ) → length xs ≡ 1 → xs ≡ get_or xs 0 0 ∷ []
one_item [] e = absurd (omega arith)
one_item (x ∷ []) e = refl
one_item (x ∷ y ∷ xs) e = absurd (omega arith)

none_item : (xs : List ℕ) → length xs < 1 → xs ≡ []
none_item [] e = refl
none_item (x ∷ xs) e = absurd (omega arith)

-- what the result of filling a one-byte buffer says
abbrev pub Fills : Option (List ℕ) → Option (List ℕ) → List ℕ → Bool → Type 0
Fills left after buf full = (own : List ℕ) → left ≡ Some own → MatchBool full ((rest : List ℕ) × (own ≡ buf ++ rest) × (after ≡ Some rest)) ((length own < length buf) × (after ≡ Some []))

pub one_taken : (place new : ℕ) (left after : Option (List ℕ)) (bs buf : List ℕ) (full : Bool) → length buf ≡ 1 → new ≡ min (place + 1) (2 ^ 64 - 1) → full ≡ true
    → Fills left after buf full → Stands place None left bs → Steps place new None after bs (Some (get_or buf 0 0))
one_taken place new left after bs buf full one is_new is_full fills s =
    let h = when_true ((rest : List ℕ) × (s.own ≡ buf ++ rest) × (after ≡ Some rest)) ((length s.own < length buf) × (after ≡ Some [])) is_full (fills s.own s.is_left) in
    let all : bs ≡ get_or buf 0 0 ∷ h.0 = s.is_all ∙ h.1 ∙ ap (λ b. b ++ h.0) (one_item buf one) in
    let long : length bs ≡ suc (length h.0) = ap length all in
    let room = s.room in
    record {
      rest = h.0;
      is_all = all;
      stands = record { own = h.0; is_left = h.2; is_all = refl; room = omega arith };
      place_is = omega arith;
      end = λ e. cc;
    }

pub none_taken : (place : ℕ) (left after : Option (List ℕ)) (bs buf : List ℕ) (full : Bool) → length buf ≡ 1 → full ≡ false
    → Fills left after buf full → Stands place None left bs → Steps place place None after bs None
none_taken place left after bs buf full one is_full fills s =
    let h = when_false ((rest : List ℕ) × (s.own ≡ buf ++ rest) × (after ≡ Some rest)) ((length s.own < length buf) × (after ≡ Some [])) is_full (fills s.own s.is_left) in
    let all : bs ≡ [] = s.is_all ∙ none_item s.own (omega (arith, h.0)) in
    record {
      rest = [];
      is_all = all;
      stands = record { own = []; is_left = h.1; is_all = refl; room = let room = s.room in omega (arith, ap length all) };
      place_is = omega arith;
      end = λ e. refl;
    }

-- the first byte of what is left
pub first_is : (rest next : List ℕ) (o : Option ℕ) (b : ℕ) → rest ≡ option_to_list o ++ next → o ≡ Some b → rest ≡ b ∷ next
first_is rest next o b e is = e ∙ ap (λ q. option_to_list q ++ next) is

-- nothing is left
pub end_is : (rest next : List ℕ) (o : Option ℕ) → rest ≡ option_to_list o ++ next → o ≡ None → (o ≡ None → next ≡ []) → rest ≡ []
end_is rest next o e is end = e ∙ ap (λ q. option_to_list q ++ next) is ∙ end is

pub one_further : (old place : ℕ) (o : Option ℕ) (b : ℕ) → place ≡ old + length (option_to_list o) → o ≡ Some b → place ≡ old + 1
one_further old place o b e is = e ∙ ap (λ q. old + length (option_to_list q)) is

pub len_colon : (start limit count n p b : ℕ) (bs : List ℕ) → b ≡ 58 → count ≢ 0 → length_at start limit count n p (b ∷ bs) ≡ got n (p + 1) bs
len_colon start limit count n p b bs e some = rw (eq-eqb b 58 e, ne_eqb count 0 some, length_at)

pub len_bad_colon : (start limit count n p b : ℕ) (bs : List ℕ) → b ≡ 58 → count ≡ 0 → length_at start limit count n p (b ∷ bs) ≡ Err (Bad start)
len_bad_colon start limit count n p b bs e none = rw (eq-eqb b 58 e, eq-eqb count 0 none, length_at)

pub len_digit : (start limit count n p b : ℕ) (bs : List ℕ) → b ≢ 58 → is_next_digit limit count n b ≡ true → length_at start limit count n p (b ∷ bs) ≡ length_at start limit (suc count) (10 * n + (b - 48)) (p + 1) bs
len_digit start limit count n p b bs colon is = rw (ne_eqb b 58 colon, is, length_at)

pub len_bad : (start limit count n p b : ℕ) (bs : List ℕ) → b ≢ 58 → is_next_digit limit count n b ≡ false → length_at start limit count n p (b ∷ bs) ≡ Err (Bad start)
len_bad start limit count n p b bs colon is = rw (ne_eqb b 58 colon, is, length_at)

-- what still holds when a digit is added to a number
pub digit_keeps : (limit count n b : ℕ) → count ≤ n + 1 → is_next_digit limit count n b ≡ true → (10 * n + (b - 48) ≤ limit) × (count + 1 ≤ 10 * n + (b - 48) + 1)
digit_keeps limit count n b few is = (grind (arith, nat_tests), grind (arith, nat_tests))

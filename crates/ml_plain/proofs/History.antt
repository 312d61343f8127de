-- The proof that every item with a number counts once.
use Rattle.std.proofs.Common.{◌≡◌, ◌≢◌, ◌≤◌, ◌⊎◌, inl, inr, ℕ, zero, suc, Bool, true, false, not, cond, ◌&&◌, ◌||◌, eqb, leb, List, [], ◌∷◌, Option, Some, None, is_some, refl, sym, ap, ap₂, ◌∙◌, arith, take, slice_get}
use Rattle.std.proofs.lemmas.Bool.{ne_eqb, eqb-true, eqb-false, le-leb, false≢true}
use Rattle.ml_plain.specs.declared.Item.{Item}
use Rattle.ml_plain.specs.declared.Reply.{Reply}
use Rattle.ml_plain.specs.Answers.{stale}
use Rattle.ml_plain.specs.Plain.{Plain}
use Rattle.ml_plain.specs.Histories.{State, fold_plain, step, effect, kept_for, is_below, fold, answers, fresh}
use Rattle.ml_plain.specs.Once.{Past, has_number, is_live, past_with, past_from, past_of, once_from, own_reply, beginning}
use Rattle.ml_plain.specs.OnceLaws.{CountsOnce, AnswersOnce, IsRepeated}
use Rattle.ml_plain.proofs.Turns.{Agrees, Way, refused, repeated, counted, way_of, agrees_more, effect_plain, effect_reply, effect_moved, step_stale, step_kept, below_not, below_no, below_is, keep_same, keep_other, live_new, number_more}

-- the list after an item is the list after the items that count
plain_step : (past : Past) (q : State) (x : Item) (rest : List Item) → Agrees past q
    → fold_plain (step q x).0.plain (once_from (past_with past x) rest) ≡ fold_plain q.plain (once_from past (x ∷ rest))
plain_step past q x rest a = go (way_of past q x a)
  where
    skipped : (r : Reply) → is_live past x.number ≡ false → step q x ≡ (q, r) → fold_plain (step q x).0.plain (once_from (past_with past x) rest) ≡ fold_plain q.plain (once_from past (x ∷ rest))
    skipped r dead is =
        ap (λ (s : State × Reply). fold_plain s.0.plain (once_from (past_with past x) rest)) is
        ∙ sym (ap (λ (b : Bool). fold_plain q.plain (cond b (x ∷ once_from (past_with past x) rest) (once_from (past_with past x) rest))) dead)

    go : Way past q x → fold_plain (step q x).0.plain (once_from (past_with past x) rest) ≡ fold_plain q.plain (once_from past (x ∷ rest))
    go (refused e dead is) = skipped stale dead is
    go (repeated r some le kept dead is) = skipped r dead is
    go (counted e live is) =
        ap (λ (s : State × Reply). fold_plain s.0.plain (once_from (past_with past x) rest)) is
        ∙ ap (λ (p : Plain). fold_plain p (once_from (past_with past x) rest)) (effect_plain q x)
        ∙ sym (ap (λ (b : Bool). fold_plain q.plain (cond b (x ∷ once_from (past_with past x) rest) (once_from (past_with past x) rest))) live)

pub counts_from : (past : Past) (q : State) (h : List Item) → Agrees past q → ((fold q h).plain ≡ fold_plain q.plain (once_from past h)) × ((fold q h).floor ≡ (past_from past h).floor)
counts_from past q [] a = (refl, a.floor)
counts_from past q (x ∷ xs) a =
    let more = counts_from (past_with past x) (step q x).0 xs (agrees_more past q x a) in
    (more.0 ∙ plain_step past q x xs a, more.1)

live_from : (past : Past) (q : State) (h : List Item) (i : ℕ) (item : Item) → Agrees past q → slice_get h i ≡ Some item → is_live (past_from past (take i h)) item.number ≡ true
    → slice_get (answers q h) i ≡ Some (own_reply (fold_plain q.plain (once_from past (take i h))) (past_from past (take i h)).floor item)
live_from past q [] i item a at live = cc
live_from past q (x ∷ xs) zero item a at live =
    let same : x ≡ item = cc in
    let live_x : is_live past x.number ≡ true = ap (λ (y : Item). is_live past y.number) same ∙ live in
    go live_x same (way_of past q x a)
  where
    go : is_live past x.number ≡ true → x ≡ item → Way past q x → slice_get (answers q (x ∷ xs)) zero ≡ Some (own_reply q.plain past.floor item)
    go live_x same (refused e dead is) = absurd (cc (live_x, dead))
    go live_x same (repeated r some le kept dead is) = absurd (cc (live_x, dead))
    go live_x same (counted e alive is) =
        ap (λ (s : State × Reply). Some s.1) is ∙ ap Some (effect_reply q x ∙ ap₂ (λ (f : ℕ) (y : Item). own_reply q.plain f y) a.floor same)
live_from past q (x ∷ xs) (suc i) item a at live =
    live_from (past_with past x) (step q x).0 xs i item (agrees_more past q x a) at live
    ∙ ap (λ (p : Plain). Some (own_reply p (past_from (past_with past x) (take i xs)).floor item)) (plain_step past q x (take i xs) a)

below_from : (past : Past) (q : State) (h : List Item) (i : ℕ) (item : Item) → Agrees past q → slice_get h i ≡ Some item → is_below (past_from past (take i h)).floor item.number ≡ true
    → slice_get (answers q h) i ≡ Some stale
below_from past q [] i item a at low = cc
below_from past q (x ∷ xs) zero item a at low =
    let same : x ≡ item = cc in
    let low_x : is_below q.floor x.number ≡ true = ap₂ (λ (f : ℕ) (y : Item). is_below f y.number) a.floor same ∙ low in
    ap (λ (s : State × Reply). Some s.1) (step_stale q x low_x)
below_from past q (x ∷ xs) (suc i) item a at low = below_from (past_with past x) (step q x).0 xs i item (agrees_more past q x a) at low

-- the floor doesn't fall
floor_up : (past : Past) (q : State) (x : Item) → Agrees past q → q.floor ≤ (step q x).0.floor
floor_up past q x a = go (way_of past q x a)
  where
    same : (r : Reply) → step q x ≡ (q, r) → q.floor ≤ (step q x).0.floor
    same r is = let e = ap (λ (s : State × Reply). s.0.floor) is in omega (arith, e)

    go : Way past q x → q.floor ≤ (step q x).0.floor
    go (refused e dead is) = same stale is
    go (repeated r some le kept dead is) = same r is
    go (counted e live is) = let moved = (effect_moved q x).up in let e = ap (λ (s : State × Reply). s.0.floor) is in omega (arith, e, moved)

floors_up : (past : Past) (q : State) (h : List Item) → Agrees past q → past.floor ≤ (past_from past h).floor
floors_up past q [] a = omega arith
floors_up past q (x ∷ xs) a =
    let more = floors_up (past_with past x) (step q x).0 xs (agrees_more past q x a) in
    let here = floor_up past q x a in
    let after = (agrees_more past q x a).floor in
    omega (arith, more, here, after, a.floor)

-- a reply that is kept stays, as long as the floor is no higher than its number
stays : (past : Past) (q : State) (x : Item) (n : ℕ) (r : Reply) → Agrees past q → n ≢ 0 → q.kept n ≡ Some r → (step q x).0.floor ≤ n → (step q x).0.kept n ≡ Some r
stays past q x n r a some is le = go (way_of past q x a)
  where
    same : (w : Reply) → step q x ≡ (q, w) → (step q x).0.kept n ≡ Some r
    same w e = ap (λ (s : State × Reply). s.0.kept n) e ∙ is

    go : Way past q x → (step q x).0.kept n ≡ Some r
    go (refused e dead way) = same stale way
    go (repeated w some_x le_x kept dead way) = same w way
    go (counted e live way) =
        let moved = effect_moved q x in
        let le_new : (effect q x).0.floor ≤ n = let f = ap (λ (s : State × Reply). s.0.floor) way in omega (arith, f, le) in
        ap (λ (s : State × Reply). s.0.kept n) way ∙ keep_other x.number (effect q x).1 (effect q x).0.kept n clash ∙ moved.kept n le_new ∙ is
      where
        clash : x.number ≡ n → ⊥
        clash e_n =
            let found : kept_for q x.number ≡ Some r = ap (λ m. kept_for q m) e_n ∙ ap (λ (b : Bool). cond b None (q.kept n)) (ne_eqb n 0 some) ∙ is in
            let old = step_kept q x r e found in
            let floor_old = ap (λ (s : State × Reply). s.0.floor) old in
            (let dead : is_live past x.number ≡ false = repeat found in cc (live, dead))
          where
            repeat : kept_for q x.number ≡ Some r → is_live past x.number ≡ false
            repeat found = live_new past q x.number a e ∙ ap (λ (o : Option Reply). not (is_some o)) found

-- an item that isn't below the floor has its own reply kept
kept_after : (past : Past) (q : State) (x : Item) → Agrees past q → x.number ≢ 0 → q.floor ≤ x.number → (step q x).0.kept x.number ≡ Some (step q x).1
kept_after past q x a some le = go (way_of past q x a)
  where
    go : Way past q x → (step q x).0.kept x.number ≡ Some (step q x).1
    go (refused e dead way) = absurd (let l = (below_is q.floor x.number e).1 in omega (arith, l, le))
    go (repeated r some_x le_x kept dead way) = ap (λ (s : State × Reply). s.0.kept x.number) way ∙ kept ∙ sym (ap (λ (s : State × Reply). Some s.1) way)
    go (counted e live way) =
        ap (λ (s : State × Reply). s.0.kept x.number) way ∙ keep_same x.number (effect q x).1 (effect q x).0.kept some ∙ sym (ap (λ (s : State × Reply). Some s.1) way)

-- an item whose number has a kept reply is answered with it
answered_now : (q : State) (x : Item) (r : Reply) → x.number ≢ 0 → q.floor ≤ x.number → q.kept x.number ≡ Some r → (step q x).1 ≡ r
answered_now q x r some le is =
    let found : kept_for q x.number ≡ Some r = ap (λ (b : Bool). cond b None (q.kept x.number)) (ne_eqb x.number 0 some) ∙ is in
    ap (λ (s : State × Reply). s.1) (step_kept q x r (below_no q.floor x.number le) found)

answered : (past : Past) (q : State) (h : List Item) (i : ℕ) (item : Item) (r : Reply) → Agrees past q → slice_get h i ≡ Some item → item.number ≢ 0
    → (past_from past (take i h)).floor ≤ item.number → q.kept item.number ≡ Some r → slice_get (answers q h) i ≡ Some r
answered past q [] i item r a at some le is = cc
answered past q (x ∷ xs) zero item r a at some le is =
    let same : x ≡ item = cc in
    let number = ap (λ (y : Item). y.number) same in
    ap Some (answered_now q x r (λ z. some (sym number ∙ z)) (omega (arith, number, le, a.floor)) (ap q.kept number ∙ is))
answered past q (x ∷ xs) (suc i) item r a at some le is =
    let more = agrees_more past q x a in
    let up = floors_up (past_with past x) (step q x).0 (take i xs) more in
    let after = more.floor in
    answered (past_with past x) (step q x).0 xs i item r more at some le (stays past q x item.number r a some is (omega (arith, up, after, le)))

again_from : (past : Past) (q : State) (h : List Item) (i j : ℕ) (item first : Item) → Agrees past q → slice_get h i ≡ Some item → slice_get h j ≡ Some first → j ≤ i
    → item.number ≢ 0 → item.number ≡ first.number → (past_from past (take i h)).floor ≤ item.number → slice_get (answers q h) i ≡ slice_get (answers q h) j
again_from past q [] i j item first a at_i at_j le some same low = cc
again_from past q (x ∷ xs) zero zero item first a at_i at_j le some same low = refl
again_from past q (x ∷ xs) zero (suc j) item first a at_i at_j le some same low = absurd (omega (arith, le))
again_from past q (x ∷ xs) (suc i) zero item first a at_i at_j le some same low =
    let is : x ≡ first = cc in
    let number : x.number ≡ item.number = ap (λ (y : Item). y.number) is ∙ sym same in
    let more = agrees_more past q x a in
    let up = floors_up (past_with past x) (step q x).0 (take i xs) more in
    let after = more.floor in
    let here = floor_up past q x a in
    let kept = kept_after past q x a (λ z. some (sym number ∙ z)) (omega (arith, up, after, here, low, number)) in
    answered (past_with past x) (step q x).0 xs i item (step q x).1 more at_i some low (ap (step q x).0.kept (sym number) ∙ kept)
again_from past q (x ∷ xs) (suc i) (suc j) item first a at_i at_j le some same low =
    again_from (past_with past x) (step q x).0 xs i j item first (agrees_more past q x a) at_i at_j (omega (arith, le)) some same low

-- a number that a history says it had was that of one of its items
met : (past : Past) (h : List Item) (i n : ℕ) → has_number (past_from past (take i h)).numbers n ≡ true → (has_number past.numbers n ≡ true) ⊎ IsRepeated h i n
met past h zero n e = inl e
met past [] (suc i) n e = inl e
met past (x ∷ xs) (suc i) n e = elim (met (past_with past x) xs i n e) [
  | inl old ↦ here (eqb x.number n) refl old
  | inr later ↦ inr (let b = later.before in record { earlier = suc later.earlier; first = later.first; here = later.here; before = omega (arith, b); same = later.same })
]
  where
    here : (b : Bool) → eqb x.number n ≡ b → has_number (x.number ∷ past.numbers) n ≡ true → (has_number past.numbers n ≡ true) ⊎ IsRepeated (x ∷ xs) (suc i) n
    here true z old = inr (record { earlier = 0; first = x; here = refl; before = omega arith; same = sym (eqb-true x.number n z) })
    here false z old = inl (sym (number_more past.numbers x.number n (eqb-false x.number n z)) ∙ old)

-- an item that neither counts nor is below the floor repeats a number
repeats : (past : Past) (n : ℕ) → is_live past n ≡ false → is_below past.floor n ≡ false → has_number past.numbers n ≡ true
repeats past n dead high = go (eqb n 0) refl
  where
    go : (b : Bool) → eqb n 0 ≡ b → has_number past.numbers n ≡ true
    go true z = absurd (let live : is_live past n ≡ true = ap (λ (b : Bool). b || (leb past.floor n && not (has_number past.numbers n))) z in cc (live, dead))
    go false z =
        let le = below_not past.floor n (eqb-false n 0 z) high in
        let rest : is_live past n ≡ not (has_number past.numbers n) =
        ap (λ (b : Bool). b || (leb past.floor n && not (has_number past.numbers n))) z ∙ ap (λ (b : Bool). b && not (has_number past.numbers n)) (le-leb past.floor n le) in
        has (has_number past.numbers n) (sym rest ∙ dead)
      where
        has : (b : Bool) → not b ≡ false → b ≡ true
        has true e = refl
        has false e = sym e

repeated_before : (h : List Item) (i n : ℕ) → is_live (past_of (take i h)) n ≡ false → is_below (past_of (take i h)).floor n ≡ false → IsRepeated h i n
repeated_before h i n dead high = elim (met beginning h i n (repeats (past_of (take i h)) n dead high)) [
  | inl none ↦ absurd (false≢true none)
  | inr one ↦ one
]

agrees_fresh : (p : Plain) → Agrees beginning (fresh p)
agrees_fresh p = record { floor = refl; kept = λ n some le. refl }

pub counts_once : (p : Plain) (h : List Item) → CountsOnce p h (fold (fresh p) h)
counts_once p h = counts_from beginning (fresh p) h (agrees_fresh p)

pub answers_once : (p : Plain) (h : List Item) → AnswersOnce p h (answers (fresh p) h)
answers_once p h = record {
  live = λ i item at live. live_from beginning (fresh p) h i item (agrees_fresh p) at live;
  below = λ i item at low. below_from beginning (fresh p) h i item (agrees_fresh p) at low;
  again = λ i j item first at_i at_j le some same high.
      again_from beginning (fresh p) h i j item first (agrees_fresh p) at_i at_j le some same (below_not (past_of (take i h)).floor item.number some high);
  other = λ i item at dead high. repeated_before h i item.number dead high;
}

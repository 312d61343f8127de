-- What one item does, by what the history before it says.
use Rattle.std.proofs.Common.{◌≡◌, ◌≢◌, ◌≤◌, ◌<◌, ℕ, max, Bool, true, false, not, cond, eqb, ltb, ◌&&◌, List, ◌∷◌, Option, Some, None, is_some, refl, sym, ap, ◌∙◌, arith}
use Rattle.std.proofs.lemmas.Bool.{ne_eqb, eq-eqb, eqb-true, eqb-false, ltb-true, ltb-false, le-leb, lt-leb, le-ltb}
use Rattle.ml_plain.specs.declared.Item.{Item}
use Rattle.ml_plain.specs.declared.Act.{Act}
use Rattle.ml_plain.specs.declared.Act.TheVariants.{Deliver, Timed, Add, Remove, Sent, Rekey, Floor}
use Rattle.ml_plain.specs.declared.Reply.{Reply}
use Rattle.ml_plain.specs.Answers.{stale, floored, badfloor}
use Rattle.ml_plain.specs.Plain.{Plain}
use Rattle.ml_plain.specs.Steps.{step0, act_step}
use Rattle.ml_plain.specs.Histories.{State, Kept, step, step_by, with_reply, effect, effect_by, with_floor, may_rise, floor_asked, kept_for, keep, is_below}
use Rattle.ml_plain.specs.Once.{Past, has_number, is_live, floor_by, floor_after, past_with, reply_by, own_reply}

-- a step by the floor, and then by the reply that is kept
pub step_stale : (q : State) (x : Item) → is_below q.floor x.number ≡ true → step q x ≡ (q, stale)
unfolding step
step_stale q x e = ap (λ (b : Bool). cond b (q, stale) (step_by q x (kept_for q x.number))) e

pub step_kept : (q : State) (x : Item) (r : Reply) → is_below q.floor x.number ≡ false → kept_for q x.number ≡ Some r → step q x ≡ (q, r)
unfolding step
step_kept q x r e k = ap (λ (b : Bool). cond b (q, stale) (step_by q x (kept_for q x.number))) e ∙ ap (step_by q x) k

pub step_new : (q : State) (x : Item) → is_below q.floor x.number ≡ false → kept_for q x.number ≡ None → step q x ≡ with_reply x.number (effect q x)
unfolding step
step_new q x e k = ap (λ (b : Bool). cond b (q, stale) (step_by q x (kept_for q x.number))) e ∙ ap (step_by q x) k

-- a number below a floor, and one that isn't
pub below_is : (floor n : ℕ) → is_below floor n ≡ true → (n ≢ 0) × (n < floor)
below_is floor n e = go (eqb n 0) refl
  where
    go : (b : Bool) → eqb n 0 ≡ b → (n ≢ 0) × (n < floor)
    go true z = absurd (let no : is_below floor n ≡ false = ap (λ (b : Bool). not b && ltb n floor) z in cc (e, no))
    go false z = (eqb-false n 0 z, ltb-true n floor (sym (ap (λ (b : Bool). not b && ltb n floor) z) ∙ e))

pub below_not : (floor n : ℕ) → n ≢ 0 → is_below floor n ≡ false → floor ≤ n
below_not floor n some e = ltb-false n floor (sym (ap (λ (b : Bool). not b && ltb n floor) (ne_eqb n 0 some)) ∙ e)

pub below_no : (floor n : ℕ) → floor ≤ n → is_below floor n ≡ false
below_no floor n le = go (eqb n 0)
  where
    go : (b : Bool) → (not b && ltb n floor) ≡ false
    go true = refl
    go false = le-ltb n floor le

-- a state agrees with what a history says
pub record Agrees (past : Past) (q : State) : Type 0 where
  pub floor : q.floor ≡ past.floor
  pub kept : (n : ℕ) → n ≢ 0 → past.floor ≤ n → is_some (q.kept n) ≡ has_number past.numbers n

-- an item counts if no reply is kept for it
pub live_new : (past : Past) (q : State) (n : ℕ) → Agrees past q → is_below q.floor n ≡ false → is_live past n ≡ not (is_some (kept_for q n))
live_new past q n a e = go (eqb n 0) refl
  where
    go : (b : Bool) → eqb n 0 ≡ b → is_live past n ≡ not (is_some (kept_for q n))
    go true z = rw z refl
    go false z =
        let some : n ≢ 0 = eqb-false n 0 z in
        let le : past.floor ≤ n = let l = below_not q.floor n some e in omega (arith, l, a.floor) in
        rw (z, le-leb past.floor n le) (ap not (sym (a.kept n some le)))

pub live_stale : (past : Past) (q : State) (n : ℕ) → Agrees past q → is_below q.floor n ≡ true → is_live past n ≡ false
live_stale past q n a e =
    let b = below_is q.floor n e in
    rw (ne_eqb n 0 b.0, lt-leb past.floor n (let l = b.1 in omega (arith, l, a.floor))) refl

-- what asking for a floor does, by whether it may rise
abbrev pub raised_by : Bool → State → ℕ → State × Reply
raised_by b q at = cond b (with_floor q at, floored (max q.floor at)) (q, badfloor)

-- a Floor leaves the list as it is
floor_leaves : (p : Plain) (now : ℕ) (at : ℕ) (act : Act) → floor_asked act ≡ Some at → (act_step p now act).0 ≡ p
floor_leaves p now at (Deliver sender recipient message) e = absurd (cc (e))
floor_leaves p now at Timed e = absurd (cc (e))
floor_leaves p now at (Add set who) e = absurd (cc (e))
floor_leaves p now at (Remove set who) e = absurd (cc (e))
floor_leaves p now at (Sent id) e = absurd (cc (e))
floor_leaves p now at (Rekey key) e = absurd (cc (e))
floor_leaves p now at (Floor n) e = refl

-- an item that counts is a step of the list
pub effect_plain : (q : State) (x : Item) → (effect q x).0.plain ≡ (step0 q.plain x).0
unfolding step0
effect_plain q x = go (floor_asked x.act) refl
  where
    go : (o : Option ℕ) → floor_asked x.act ≡ o → (effect_by q x o).0.plain ≡ (act_step q.plain x.moment x.act).0
    go None e = refl
    go (Some at) e = risen (may_rise q.floor x.number at) ∙ sym (floor_leaves q.plain x.moment at x.act e)
      where
        risen : (b : Bool) → (raised_by b q at).0.plain ≡ q.plain
        risen true = refl
        risen false = refl

-- and is answered with its own reply
pub effect_reply : (q : State) (x : Item) → (effect q x).1 ≡ own_reply q.plain q.floor x
effect_reply q x = go (floor_asked x.act)
  where
    risen : (at : ℕ) (b : Bool) → (raised_by b q at).1 ≡ cond b (floored (max q.floor at)) badfloor
    risen at true = refl
    risen at false = refl

    go : (o : Option ℕ) → (effect_by q x o).1 ≡ reply_by q.plain q.floor x o
    go None = refl
    go (Some at) = risen at (may_rise q.floor x.number at)

-- it moves the floor, and leaves the replies from there on
pub record Moved (q : State) (x : Item) (r : State) : Type 0 where
  pub floor : r.floor ≡ floor_by q.floor x.number (floor_asked x.act)
  pub up : q.floor ≤ r.floor
  pub kept : (n : ℕ) → r.floor ≤ n → r.kept n ≡ q.kept n

pub effect_moved : (q : State) (x : Item) → Moved q x (effect q x).0
effect_moved q x = record { floor = floor (floor_asked x.act); up = up (floor_asked x.act); kept = kept (floor_asked x.act) }
  where
    floor_risen : (at : ℕ) (b : Bool) → (raised_by b q at).0.floor ≡ cond b (max q.floor at) q.floor
    floor_risen at true = refl
    floor_risen at false = refl

    floor : (o : Option ℕ) → (effect_by q x o).0.floor ≡ floor_by q.floor x.number o
    floor None = refl
    floor (Some at) = floor_risen at (may_rise q.floor x.number at)

    up_risen : (at : ℕ) (b : Bool) → q.floor ≤ (raised_by b q at).0.floor
    up_risen at true = omega arith
    up_risen at false = omega arith

    up : (o : Option ℕ) → q.floor ≤ (effect_by q x o).0.floor
    up None = omega arith
    up (Some at) = up_risen at (may_rise q.floor x.number at)

    kept_risen : (at : ℕ) (b : Bool) (n : ℕ) → (raised_by b q at).0.floor ≤ n → (raised_by b q at).0.kept n ≡ q.kept n
    kept_risen at true n le = ap (λ (b : Bool). cond b None (q.kept n)) (le-ltb n (max q.floor at) le)
    kept_risen at false n le = refl

    kept : (o : Option ℕ) (n : ℕ) → (effect_by q x o).0.floor ≤ n → (effect_by q x o).0.kept n ≡ q.kept n
    kept None n le = refl
    kept (Some at) n le = kept_risen at (may_rise q.floor x.number at) n le

-- what is kept for a number once a reply is added
pub keep_same : (k : ℕ) (r : Reply) (kept : Kept) → k ≢ 0 → keep k r kept k ≡ Some r
keep_same k r kept some = rw (ne_eqb k 0 some, eq-eqb k k refl) refl

pub keep_other : (k : ℕ) (r : Reply) (kept : Kept) (n : ℕ) → k ≢ n → keep k r kept n ≡ kept n
keep_other k r kept n other = go (eqb k 0)
  where
    go : (b : Bool) → cond (not b && eqb n k) (Some r) (kept n) ≡ kept n
    go true = refl
    go false = rw (ne_eqb n k (λ e. other (sym e))) refl

-- the numbers of a history with one more
pub number_more : (numbers : List ℕ) (k n : ℕ) → k ≢ n → has_number (k ∷ numbers) n ≡ has_number numbers n
number_more numbers k n other = rw (ne_eqb k n other) refl

number_here : (numbers : List ℕ) (k n : ℕ) → k ≡ n → has_number (k ∷ numbers) n ≡ true
number_here numbers k n same = rw (eq-eqb k n same) refl

-- which of three ways an item goes
pub data Way (past : Past) (q : State) (x : Item) : Type 0 where
  refused : is_below q.floor x.number ≡ true → is_live past x.number ≡ false → step q x ≡ (q, stale) → Way past q x
  repeated : (r : Reply) → x.number ≢ 0 → q.floor ≤ x.number → q.kept x.number ≡ Some r → is_live past x.number ≡ false → step q x ≡ (q, r) → Way past q x
  counted : is_below q.floor x.number ≡ false → is_live past x.number ≡ true → step q x ≡ with_reply x.number (effect q x) → Way past q x

pub way_of : (past : Past) (q : State) (x : Item) → Agrees past q → Way past q x
way_of past q x a = go (is_below q.floor x.number) refl (kept_for q x.number) refl
  where
    kept_is : (r : Reply) → kept_for q x.number ≡ Some r → (x.number ≢ 0) × (q.kept x.number ≡ Some r)
    kept_is r k = some (eqb x.number 0) refl
      where
        some : (b : Bool) → eqb x.number 0 ≡ b → (x.number ≢ 0) × (q.kept x.number ≡ Some r)
        some true z = absurd (let none : kept_for q x.number ≡ None = ap (λ (b : Bool). cond b None (q.kept x.number)) z in cc (k, none))
        some false z = (eqb-false x.number 0 z, sym (ap (λ (b : Bool). cond b None (q.kept x.number)) z) ∙ k)

    go : (b : Bool) → is_below q.floor x.number ≡ b → (o : Option Reply) → kept_for q x.number ≡ o → Way past q x
    go true e o k = refused e (live_stale past q x.number a e) (step_stale q x e)
    go false e None k = counted e (live_new past q x.number a e ∙ ap (λ (o : Option Reply). not (is_some o)) k) (step_new q x e k)
    go false e (Some r) k =
        let kept = kept_is r k in
        repeated r kept.0 (below_not q.floor x.number kept.0 e) kept.1 (live_new past q x.number a e ∙ ap (λ (o : Option Reply). not (is_some o)) k) (step_kept q x r e k)

-- the state after an item agrees with the history that has this item too
pub agrees_more : (past : Past) (q : State) (x : Item) → Agrees past q → Agrees (past_with past x) (step q x).0
agrees_more past q x a = go (way_of past q x a)
  where
    same_floor : is_live past x.number ≡ false → floor_after past x ≡ past.floor
    same_floor dead = ap (λ (b : Bool). cond b (floor_by past.floor x.number (floor_asked x.act)) past.floor) dead

    go : Way past q x → Agrees (past_with past x) (step q x).0
    go (refused e dead is) =
        let low = below_is q.floor x.number e in record {
          floor = ap (λ (s : State × Reply). s.0.floor) is ∙ a.floor ∙ sym (same_floor dead);
          kept = λ n some le.
              let le_old : past.floor ≤ n = omega (arith, le, same_floor dead) in
              let other : x.number ≢ n = λ same. (omega (arith, same, le_old, low.1, a.floor)) in
              ap (λ (s : State × Reply). is_some (s.0.kept n)) is ∙ a.kept n some le_old ∙ sym (number_more past.numbers x.number n other);
        }
    go (repeated r some_x le_x kept_x dead is) = record {
      floor = ap (λ (s : State × Reply). s.0.floor) is ∙ a.floor ∙ sym (same_floor dead);
      kept = λ n some le. ap (λ (s : State × Reply). is_some (s.0.kept n)) is ∙ each n some (omega (arith, le, same_floor dead)) (eqb x.number n) refl;
    }
      where
        each : (n : ℕ) → n ≢ 0 → past.floor ≤ n → (b : Bool) → eqb x.number n ≡ b → is_some (q.kept n) ≡ has_number (x.number ∷ past.numbers) n
        each n some le true z =
            let same = eqb-true x.number n z in
            ap (λ m. is_some (q.kept m)) (sym same) ∙ ap is_some kept_x ∙ sym (number_here past.numbers x.number n same)
        each n some le false z = a.kept n some le ∙ sym (number_more past.numbers x.number n (eqb-false x.number n z))
    go (counted e live is) =
        let moved = effect_moved q x in
        let floor_now : (effect q x).0.floor ≡ floor_after past x =
        moved.floor ∙ ap (λ f. floor_by f x.number (floor_asked x.act)) a.floor ∙ sym (ap (λ (b : Bool). cond b (floor_by past.floor x.number (floor_asked x.act)) past.floor) live) in record {
          floor = ap (λ (s : State × Reply). s.0.floor) is ∙ floor_now;
          kept = λ n some le.
              let le_new : (effect q x).0.floor ≤ n = omega (arith, le, floor_now) in
              let le_old : past.floor ≤ n = omega (arith, le_new, moved.up, a.floor) in
              ap (λ (s : State × Reply). is_some (s.0.kept n)) is ∙ each n some le_old (moved.kept n le_new) (eqb x.number n) refl;
        }
      where
        each : (n : ℕ) → n ≢ 0 → past.floor ≤ n → (effect q x).0.kept n ≡ q.kept n → (b : Bool) → eqb x.number n ≡ b
            → is_some (keep x.number (effect q x).1 (effect q x).0.kept n) ≡ has_number (x.number ∷ past.numbers) n
        each n some le same true z =
            let is = eqb-true x.number n z in
            ap (λ m. is_some (keep x.number (effect q x).1 (effect q x).0.kept m)) (sym is)
            ∙ ap is_some (keep_same x.number (effect q x).1 (effect q x).0.kept (λ zero_x. some (sym is ∙ zero_x)))
            ∙ sym (number_here past.numbers x.number n is)
        each n some le same false z =
            let other = eqb-false x.number n z in
            ap is_some (keep_other x.number (effect q x).1 (effect q x).0.kept n other ∙ same) ∙ a.kept n some le ∙ sym (number_more past.numbers x.number n other)

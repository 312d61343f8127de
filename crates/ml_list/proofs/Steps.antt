-- An item's step, from its parts.
use Rattle.std.proofs.Common.{◌≡◌, ◌⊎◌, inl, inr, ◌≢◌, ◌<◌, ◌≤◌, ℕ, ◌+◌, ◌*◌, ◌/◌, max, Bool, true, false, cond, eqb, leb, not, ◌&&◌, ◌||◌, List, [], ◌∷◌, ◌++◌, Option, Some, None, refl, sym, ap, ap₂, ◌∙◌, arith, subst}
use Rattle.std.proofs.lemmas.Bool.{eqb-true, ne_eqb, and_parts, or_cases, lt-ltb, le-ltb, leb-true, and_from}
use Rattle.ml_base.specs.Bytes.{Text}
use Rattle.ml_base.specs.Dir.{Dir, same_name, with_put, with_puts, touches_only}
use Rattle.ml_base.specs.declared.names.Name.{Name}
use Rattle.ml_base.specs.declared.puts.Put.{Put}
use Rattle.ml_base.proofs.Laid.{laid_joined, left_alone}
use Rattle.ml_plain.specs.declared.Item.{Item}
use Rattle.ml_plain.specs.declared.Reply.{Reply}
use Rattle.ml_plain.specs.Answers.{floored, badfloor, stale}
use Rattle.ml_plain.specs.Managing.{deliver}
use Rattle.ml_plain.specs.Plain.{Plain}
use Rattle.ml_plain.specs.Steps.{step0, act_step}
use Rattle.ml_plain.specs.Histories.{State, Kept, step, with_reply, keep, effect, effect_by, floor_asked, raise, with_floor, from_floor, may_rise, is_below, kept_for}
use Rattle.ml_plain.specs.Directory.{IsState, is_of_list}
use Rattle.ml_plain.specs.KeptFiles.{AreReplies, IsRepliesFile, IsFloorFile, IsRisen, floor_name, replies_name, is_of_replies}
use Rattle.ml_plain.proofs.Turns.{raised_by, step_stale, step_kept, step_new, below_not}
use Rattle.ml_plain.proofs.StateFiles.{own_list, own_replies, floor_one}
use Rattle.ml_plain.proofs.Changes.{floor_kept, floor_risen}
use Rattle.ml_acts.specs.Doing.{DoesList}
use Rattle.ml_list.specs.Applying.{Does, Repeats}
use Rattle.ml_list.specs.Rising.{rise_puts}
use Rattle.ml_list.proofs.Risen.{risen, cut_is, rise_own}
use Rattle.ml_acts.proofs.Queued.{touches_both, touches_weaker}

-- no file of the replies is one of the list's
apart : (name : Name) → is_of_replies name ≡ true → is_of_list name ≡ false
apart name e = go (or_cases (eqb name.kind 19) (eqb name.kind 21) e)
  where
    go : ((eqb name.kind 19 ≡ true) ⊎ (eqb name.kind 21 ≡ true)) → is_of_list name ≡ false
    go (inl k) = ap (λ kind. (leb 1 kind && leb kind 18) || eqb kind 20) (eqb-true name.kind 19 k)
    go (inr k) = ap (λ kind. (leb 1 kind && leb kind 18) || eqb kind 20) (eqb-true name.kind 21 k)

apart_back : (name : Name) → is_of_list name ≡ true → is_of_replies name ≡ false
apart_back name e = go (is_of_replies name) refl
  where
    go : (b : Bool) → is_of_replies name ≡ b → is_of_replies name ≡ false
    go true r = absurd (let no = apart name r in true_false (sym e ∙ no))
      where
        true_false : true ≡ false → ⊥
        true_false h = cc
    go false r = r

-- a step that only changes the list is a step of the state
pub plain_does : (own : Name → Bool) → ((name : Name) → own name ≡ true → is_of_list name ≡ true) → (dir : Dir) (q : State) (item : Item) (done : List Put × Reply) → IsState dir q → floor_asked item.act ≡ None → touches_only own done.0 ≡ true
    → DoesList dir done (act_step q.plain item.moment item.act) → Does dir done (effect q item)
unfolding step0
plain_does own listed dir q item done is none only does = record {
  reply = does.reply ∙ sym (ap (λ (o : Option ℕ). (effect_by q item o).1) none);
  state = subst (λ (s : State). IsState (with_puts dir done.0) s) (sym (ap (λ (o : Option ℕ). (effect_by q item o).0) none)) (record {
    list = does.list;
    replies = own_replies dir (with_puts dir done.0) q.floor q.kept (λ name of. left_alone is_of_list dir done.0 name (touches_weaker own is_of_list done.0 listed only) (apart name of)) is.replies;
  });
}

-- a delivery of the same texts
pub delivered_so : (dir : Dir) (done : List Put × Reply) (now : ℕ) (sender recipient m from to text : Text) (p : Plain) → from ≡ sender → to ≡ recipient → text ≡ m → DoesList dir done (deliver now from to text p) → DoesList dir done (deliver now sender recipient m p)
delivered_so dir done now sender recipient m from to text p a b c does =
    subst (λ (s : Text). DoesList dir done (deliver now s recipient m p)) a (subst (λ (s : Text). DoesList dir done (deliver now from s m p)) b (subst (λ (s : Text). DoesList dir done (deliver now from to s p)) c does))

module _ (dir : Dir) (q : State) (number at floor : ℕ) (is : IsState dir q) (file : IsFloorFile (dir floor_name) floor) where
  same_floor : q.floor ≡ floor
  same_floor = floor_one (dir floor_name) q.floor floor (is.replies).from file

  raised : (b : Bool) → may_rise floor number at ≡ b → raise q number at ≡ cond b (with_floor q at, floored (max q.floor at)) (q, badfloor)
  raised b e = ap (λ (t : Bool). cond t (with_floor q at, floored (max q.floor at)) (q, badfloor)) (ap (λ f. may_rise f number at) same_floor ∙ e)

  does_raise : (done : List Put × Reply) (s : State) (r : Reply) → raise q number at ≡ (s, r) → done.1 ≡ r → IsState (with_puts dir done.0) s → Does dir done (raise q number at)
  does_raise done s r is_step e now = record {
    reply = e ∙ sym (ap (λ (t : State × Reply). t.1) is_step);
    state = subst (λ (t : State). IsState (with_puts dir done.0) t) (sym (ap (λ (t : State × Reply). t.0) is_step)) now;
  }

  pub raise_refused : (done : List Put × Reply) → may_rise floor number at ≡ false → done.0 ≡ [] → done.1 ≡ badfloor → Does dir done (raise q number at)
  raise_refused done not_so e f = does_raise done q badfloor (raised false not_so) f (subst (λ (t : List Put). IsState (with_puts dir t) q) (sym e) is)

  pub raise_stays : (done : List Put × Reply) → may_rise floor number at ≡ true → at ≤ floor → done.0 ≡ [] → done.1 ≡ floored floor → Does dir done (raise q number at)
  raise_stays done yes_may low e f =
      let same = same_floor in
      let top : floor ≡ max q.floor at = omega (arith, same, low) in
      does_raise done (with_floor q at) (floored (max q.floor at)) (raised true yes_may) (f ∙ ap floored top)
      (subst (λ (t : List Put). IsState (with_puts dir t) (with_floor q at)) (sym e)
      (record { list = is.list; replies = floor_kept dir q.floor at q.kept is.replies (omega (arith, same, low)) }))

  pub raise_rises : (done : List Put × Reply) (cut : Option Text) → may_rise floor number at ≡ true → floor < at → at ≤ 999_999_999_999 → at / 512 < 1_953_125_000 → done.0 ≡ rise_puts floor at cut → done.1 ≡ floored at
      → ((kept : Kept) → IsRepliesFile (512 * (at / 512)) (dir (replies_name (at / 512))) kept → IsRepliesFile (512 * (at / 512)) cut (from_floor at kept)) → Does dir done (raise q number at)
  raise_rises done cut yes_may up most block e f left =
      let same = same_floor in
      let top : at ≡ max q.floor at = omega (arith, same, up) in
      let now = with_puts dir (rise_puts floor at cut) in
      let file_now : IsRepliesFile (512 * (at / 512)) (now (replies_name (at / 512))) (from_floor at q.kept) =
      subst (λ (t : Option Text). IsRepliesFile (512 * (at / 512)) t (from_floor at q.kept)) (sym (cut_is dir floor at cut up)) (left q.kept ((is.replies).files (at / 512) block)) in
      let is_risen = subst (λ f. IsRisen dir now f at) (sym same) (risen dir floor at cut up) in
      does_raise done (with_floor q at) (floored (max q.floor at)) (raised true yes_may) (f ∙ ap floored top)
      (subst (λ (t : List Put). IsState (with_puts dir t) (with_floor q at)) (sym e)
      (record {
        list = own_list dir now q.plain (λ name own. left_alone is_of_replies dir (rise_puts floor at cut) name (rise_own floor at cut) (apart_back name own)) is.list;
        replies = floor_risen dir now q.floor at q.kept is.replies (omega (arith, same, up)) most is_risen file_now;
      }))

-- the reply to an item that doesn't count, and to one that does
pub repeat_is : (q : State) (item : Item) (reply : Reply) → Repeats q item.number (Some reply) → step q item ≡ (q, reply)
repeat_is q item reply (inl low) = step_stale q item low.0 ∙ ap (λ (r : Reply). (q, r)) (sym low.1)
repeat_is q item reply (inr kept) = step_kept q item reply kept.0 kept.1

pub counts_is : (q : State) (item : Item) → Repeats q item.number None → step q item ≡ with_reply item.number (effect q item)
counts_is q item new = step_new q item new.0 new.1

pub below_floor : (dir : Dir) (q : State) (number floor : ℕ) (reply : Reply) → IsState dir q → IsFloorFile (dir floor_name) floor → number ≢ 0 → number < floor → reply ≡ stale → Repeats q number (Some reply)
below_floor dir q number floor reply is file some low e =
    let same = floor_one (dir floor_name) q.floor floor (is.replies).from file in
    inl (ap₂ (λ (a b : Bool). not a && b) (ne_eqb number 0 some) (lt-ltb number q.floor (omega (arith, same, low))), e)

pub above_floor : (dir : Dir) (q : State) (number floor : ℕ) (found : Option Reply) → IsState dir q → IsFloorFile (dir floor_name) floor → number ≢ 0 → floor ≤ number → found ≡ q.kept number → Repeats q number found
above_floor dir q number floor found is file some high e =
    let same = floor_one (dir floor_name) q.floor floor (is.replies).from file in
    let above : is_below q.floor number ≡ false = ap₂ (λ (a b : Bool). not a && b) (ne_eqb number 0 some) (le-ltb number q.floor (omega (arith, same, high))) in
    let kept : kept_for q number ≡ q.kept number = ap (λ (b : Bool). cond b None (q.kept number)) (ne_eqb number 0 some) in
    go found above (kept ∙ sym e)
  where
    go : (o : Option Reply) → is_below q.floor number ≡ false → kept_for q number ≡ o → Repeats q number o
    go None above k = (above, k)
    go (Some r) above k = inr (above, k)

-- a reply kept after an item's puts
pub with_reply_does : (dir : Dir) (txn : List Put) (put : Put) (number : ℕ) (reply : Reply) (q : State) (done : List Put × Reply) → IsState (with_puts dir txn) q → done.0 ≡ txn ++ put ∷ [] → done.1 ≡ reply
    → put.name ≡ replies_name (number / 512) → AreReplies (with_put (with_puts dir txn) put) q.floor (keep number reply q.kept) → Does dir done (with_reply number (q, reply))
with_reply_does dir txn put number reply q done is e f name kept = record {
  reply = f;
  state = subst (λ (t : List Put). IsState (with_puts dir t) (record q { kept = keep number reply q.kept })) (sym e)
      (subst (λ (d : Dir). IsState d (record q { kept = keep number reply q.kept })) (sym (laid_joined dir txn (put ∷ []))) (record {
        list = own_list (with_puts dir txn) (with_put (with_puts dir txn) put) q.plain (λ other own. elsewhere other own) is.list;
        replies = kept;
      }));
}
  where
    elsewhere : (other : Name) → is_of_list other ≡ true → with_put (with_puts dir txn) put other ≡ with_puts dir txn other
    elsewhere other own = ap (λ (n : Name). cond (same_name other n) put.bytes (with_puts dir txn other)) name ∙ go (eqb other.kind 19) refl
      where
        go : (b : Bool) → eqb other.kind 19 ≡ b → cond (eqb other.kind 19 && eqb other.at (number / 512)) put.bytes (with_puts dir txn other) ≡ with_puts dir txn other
        go true k = absurd (let low = apart_back other own in let kind = eqb-true other.kind 19 k in true_false (sym (ap (λ (b : Bool). b || eqb other.kind 21) k) ∙ low))
          where
            true_false : true ≡ false → ⊥
            true_false h = cc
        go false k = ap (λ (b : Bool). cond (b && eqb other.at (number / 512)) put.bytes (with_puts dir txn other)) k

-- for an item without a number no reply is kept
pub unkept_does : (dir : Dir) (txn : List Put) (number : ℕ) (reply : Reply) (q : State) → number ≡ 0 → IsState (with_puts dir txn) q → Does dir (txn, reply) (with_reply number (q, reply))
unkept_does dir txn number reply q z is = record {
  reply = refl;
  state = subst (λ n. IsState (with_puts dir txn) (record q { kept = keep n reply q.kept })) (sym z) is;
}

-- the floor after an item that counts is no higher than its number
pub effect_floor : (q : State) (item : Item) → item.number ≢ 0 → q.floor ≤ item.number → (effect q item).0.floor ≤ item.number
effect_floor q item some le = go (floor_asked item.act)
  where
    within : (at : ℕ) → may_rise q.floor item.number at ≡ true → at ≤ item.number
    within at e = leb-true at item.number (second (or_cases (eqb item.number 0) (leb at item.number) (and_parts (leb at (q.floor + 512_000)) (eqb item.number 0 || leb at item.number) e).1))
      where
        second : ((eqb item.number 0 ≡ true) ⊎ (leb at item.number ≡ true)) → leb at item.number ≡ true
        second (inl z) = absurd (some (eqb-true item.number 0 z))
        second (inr l) = l

    risen : (at : ℕ) (b : Bool) → may_rise q.floor item.number at ≡ b → (raised_by b q at).0.floor ≤ item.number
    risen at true e = let low = within at e in omega (arith, le, low)
    risen at false e = le

    go : (o : Option ℕ) → (effect_by q item o).0.floor ≤ item.number
    go None = le
    go (Some at) = risen at (may_rise q.floor item.number at) refl

pub answered_does : (dir : Dir) (q : State) (item : Item) (reply : Reply) (puts : List Put) → puts ≡ [] → IsState dir q → Repeats q item.number (Some reply) → Does dir (puts, reply) (step q item)
answered_does dir q item reply puts none is again =
    let is_step = repeat_is q item reply again in record {
      reply = sym (ap (λ (t : State × Reply). t.1) is_step);
      state = subst (λ (s : State). IsState (with_puts dir puts) s) (sym (ap (λ (t : State × Reply). t.0) is_step)) (subst (λ (p : List Put). IsState (with_puts dir p) q) (sym none) is);
    }

pub new_does : (dir : Dir) (q : State) (item : Item) (done : List Put × Reply) → Repeats q item.number None → Does dir done (with_reply item.number (effect q item)) → Does dir done (step q item)
new_does dir q item done new does = subst (λ (s : State × Reply). Does dir done s) (sym (counts_is q item new)) does

pub files_more : (f : Name → Bool) (txn more : List Put) (put : Put) → more ≡ txn ++ put ∷ [] → touches_only f txn ≡ true → f put.name ≡ true → touches_only f more ≡ true
files_more f txn more put e all one = ap (touches_only f) e ∙ touches_both f txn (put ∷ []) all (and_from (f put.name) true one refl)

-- the floor after an item that counts
pub counted_floor : (q : State) (item : Item) → Repeats q item.number None → item.number ≢ 0 → (effect q item).0.floor ≤ item.number
counted_floor q item new some = effect_floor q item some (below_not q.floor item.number some new.0)

pub counted_by : (dir : Dir) (q : State) (item : Item) (txn : List Put) (reply : Reply) (done : List Put × Reply) → Does dir (txn, reply) (effect q item)
    → (IsState (with_puts dir txn) (effect q item).0 → Does dir done (with_reply item.number ((effect q item).0, reply))) → Does dir done (with_reply item.number (effect q item))
counted_by dir q item txn reply done does more =
    subst (λ (r : Reply). Does dir done (with_reply item.number ((effect q item).0, r))) does.reply (more does.state)

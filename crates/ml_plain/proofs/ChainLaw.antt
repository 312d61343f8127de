-- A probe drops an address only at the end of its course.
use Rattle.std.proofs.Common.{◌≡◌, ℕ, ◌-◌, ◌<◌, ◌≤◌, inl, inr, Bool, true, false, not, ◌==◌, ◌||◌, List, [], ◌∷◌, ◌++◌, Option, Some, None, refl, sym, ap, subst, ◌∙◌, codes, arith, take, length, unwrap_or, nat_le, length-append, if◌then◌else◌}
use Rattle.std.proofs.lemmas.Bool.{and_parts, not-true, true≢false, eq-eqb}
use Rattle.std.proofs.lemmas.Bool.Decides.{nat_tests}
use Rattle.std.proofs.lemmas.List.{append-nil, append_assoc, take-append-le, take_at, take_all}
use Rattle.std.specs.List.{list_any}
use Rattle.ml_base.specs.Bytes.{Text, is_empty}
use Rattle.ml_base.specs.declared.names.Set.{Set}
use Rattle.ml_base.specs.declared.names.Set.TheVariants as sets
use Rattle.ml_bounce.specs.Ledger.{find_entry, entry_under, no_entry}
use Rattle.ml_bounce.specs.declared.entries.Stage.{Stage}
use Rattle.ml_bounce.specs.declared.entries.Stage.TheVariants.{Unwarned, Warned, WarnFailed, Probed}
use Rattle.ml_bounce.specs.declared.entries.LedgerEntry.{LedgerEntry}
use Rattle.ml_bounce.specs.Changes.{is_due_at, is_old, after_at, noted}
use Rattle.ml_base.specs.Drawn.{Drawn}
use Rattle.ml_config.specs.declared.configuration.Config.{Config}
use Rattle.ml_queue.specs.declared.entries.Out.{Out}
use Rattle.ml_reply.specs.declared.mails.Mail.{Mail}
use Rattle.ml_subs.specs.Members.{has_key}
use Rattle.ml_plain.specs.declared.Item.{Item}
use Rattle.ml_plain.specs.declared.Act.{Act}
use Rattle.ml_plain.specs.declared.Act.TheVariants.{Deliver, Timed, Add, Remove, Sent, Rekey, Floor}
use Rattle.ml_plain.specs.Laws.{after, made, bounce_entry, warning_to, probe_to, LawChain, IsBounce, IsWarningBounce, IsTimedMail, IsWarning, IsProbe, IsDrop, Happened, Course, IsDroppedByCourse}
use Rattle.ml_plain.specs.Plain.{Plain, new_list, ledger_of}
use Rattle.ml_plain.specs.Steps as steps
use Rattle.ml_plain.proofs.LeavingLaw.{law_leaving}
use Rattle.ml_plain.proofs.Ledgers.{elem_kept, elem_at, IsLedgerSorted}
use Rattle.ml_plain.proofs.Origins.{Queued, Mails, Origin, Same, Noted, Failed, Due, Traced, calm_same}
use Rattle.ml_plain.proofs.Places.{fold_snoc, grown, happened, before}
use Rattle.ml_plain.proofs.TimedTrace.{timed_traced}
use Rattle.ml_plain.proofs.Tracing.{deliver_traced, add_traced, remove_traced, sent_traced, rekey_traced}

-- every step, by its act
act_traced : (p : Plain) (item : Item) (a : Act) → item.act ≡ a → Traced p (steps.act_step p item.moment a).0 item
act_traced p item (Deliver sender recipient m) e = deliver_traced p item sender recipient m e
act_traced p item Timed e = timed_traced p item e
act_traced p item (Add set who) e = add_traced p item set who
act_traced p item (Remove set who) e = remove_traced p item set who
act_traced p item (Sent id) e = sent_traced p item id
act_traced p item (Rekey k) e = rekey_traced p item k
act_traced p item (Floor at) e = calm_same p p item refl refl refl

step_traced : (p : Plain) (item : Item) → Traced p (steps.step0 p item).0 item
unfolding steps.step0
step_traced p item = act_traced p item item.act refl

-- a timed run queued a warning or a probe
mail_told : (p : Plain) (x : Item) (kind : Text) (mail : Text → Mail) (set : Set) (k : Text) → x.act ≡ Timed
    → Queued p (steps.step0 p x).0 kind mail set k x.moment → IsTimedMail p x kind mail set k
mail_told p x kind mail set k timed q =
    let entry : Drawn Out = record { number = q.number; thing = bounce_entry p kind set k q.who x.moment (mail q.who) } in
    let q_made = elem_at entry (made p (steps.step0 p x).0)
    (elem_kept (λ e. nat_le p.queue.next e.number) entry (steps.step0 p x).0.queue.all q.there (grind (arith, nat_tests, q.since))) in
    record { act = timed; who = q.who; is = q.is; spelled = q.spelled; place = q_made.0; id = q.number; queued = q_made.1 }

module _ (c : Config) (ck : Text) (set : Set) (k : Text) where
  -- a member from this place of a history on
  abbrev Since : List Item → ℕ → Type 0
  Since h first = (i : ℕ) → first ≤ i → i ≤ length h → has_key k ((after c ck (take i h)).sets set) ≡ true

  -- a member after a history
  abbrev Member : List Item → Type 0
  Member h = has_key k ((after c ck h).sets set) ≡ true

  since_end : (h : List Item) (first : ℕ) → first ≤ length h → Since h first → Member h
  since_end h first up since = subst Member (take_all (length h) h (omega arith)) (since (length h) up (omega arith))

  since_grows : (h : List Item) (x : Item) (first : ℕ) → Since h first → Member (h ++ x ∷ []) → Since (h ++ x ∷ []) first
  since_grows h x first since member i from to = go (nat_le i (length h)) refl
    where
      go : (t : Bool) → nat_le i (length h) ≡ t → Member (take i (h ++ x ∷ []))
      go true t =
          let up : i ≤ length h = grind (arith, nat_tests, t) in
          subst Member (sym (take-append-le i h (x ∷ []) up)) (since i from up)
      go false t = subst Member (sym (take_all i (h ++ x ∷ []) (grind (arith, nat_tests, t, length-append h (x ∷ []))))) member

  since_now : (h : List Item) (x : Item) → Member h → Member (h ++ x ∷ []) → Since (h ++ x ∷ []) (length h)
  since_now h x before beyond i from to = go (nat_le i (length h)) refl
    where
      go : (t : Bool) → nat_le i (length h) ≡ t → Member (take i (h ++ x ∷ []))
      go true t =
          let is : length h ≡ i = grind (arith, nat_tests, t, from) in
          subst Member (sym (take_at h (x ∷ []) i is)) before
      go false t = subst Member (sym (take_all i (h ++ x ∷ []) (grind (arith, nat_tests, t, length-append h (x ∷ []))))) beyond

  -- its mail bounced at this moment, and it was a member ever since
  record Bounced (h : List Item) (moment number : ℕ) : Type 0 where
    first : ℕ
    at : Happened c ck h first moment (λ p item. IsBounce p item set k number)
    since : Since h first

  -- it was warned at this moment, long after that
  record WarnedAt (h : List Item) (moment : ℕ) : Type 0 where
    bounced : ℕ
    number : ℕ
    bounce : Bounced h bounced number
    second : ℕ
    later : bounce.first < second
    at : Happened c ck h second moment (IsWarning set k number)
    long : 1_000_000 ≤ moment - bounced

  -- that warning bounced at this moment
  record FailedAt (h : List Item) (moment : ℕ) : Type 0 where
    warned : ℕ
    warning : WarnedAt h warned
    third : ℕ
    later : warning.second < third
    at : Happened c ck h third moment (λ p item. IsWarningBounce p item set k warned)

  -- it was probed at this moment, long after that
  record ProbedAt (h : List Item) (moment : ℕ) : Type 0 where
    failed : ℕ
    failure : FailedAt h failed
    fourth : ℕ
    later : failure.third < fourth
    at : Happened c ck h fourth moment (IsProbe set k)
    long : 1_000_000 ≤ moment - failed

  -- what a stage says about a history
  StageOf : List Item → Stage → Type 0
  StageOf h Unwarned = Unit {0}
  StageOf h (Warned t) = WarnedAt h t
  StageOf h (WarnFailed t) = FailedAt h t
  StageOf h (Probed t) = ProbedAt h t

  abbrev bounced_grows : (h : List Item) (x : Item) (m n : ℕ) → Member (h ++ x ∷ []) → Bounced h m n → Bounced (h ++ x ∷ []) m n
  bounced_grows h x m n member b = record { first = b.first; at = grown c ck h x b.first m _ b.at; since = since_grows h x b.first b.since member }

  abbrev warned_grows : (h : List Item) (x : Item) (m : ℕ) → Member (h ++ x ∷ []) → WarnedAt h m → WarnedAt (h ++ x ∷ []) m
  warned_grows h x m member w = record { bounced = w.bounced; number = w.number; bounce = bounced_grows h x w.bounced w.number member w.bounce; second = w.second; later = w.later; at = grown c ck h x w.second m _ w.at; long = w.long }

  abbrev failed_grows : (h : List Item) (x : Item) (m : ℕ) → Member (h ++ x ∷ []) → FailedAt h m → FailedAt (h ++ x ∷ []) m
  failed_grows h x m member f = record { warned = f.warned; warning = warned_grows h x f.warned member f.warning; third = f.third; later = f.later; at = grown c ck h x f.third m _ f.at }

  abbrev probed_grows : (h : List Item) (x : Item) (m : ℕ) → Member (h ++ x ∷ []) → ProbedAt h m → ProbedAt (h ++ x ∷ []) m
  probed_grows h x m member p = record { failed = p.failed; failure = failed_grows h x p.failed member p.failure; fourth = p.fourth; later = p.later; at = grown c ck h x p.fourth m _ p.at; long = p.long }

  stage_grows : (h : List Item) (x : Item) (s : Stage) → Member (h ++ x ∷ []) → StageOf h s → StageOf (h ++ x ∷ []) s
  unfolding StageOf
  stage_grows h x Unwarned member i = tt
  stage_grows h x (Warned t) member i = warned_grows h x t member i
  stage_grows h x (WarnFailed t) member i = failed_grows h x t member i
  stage_grows h x (Probed t) member i = probed_grows h x t member i

  -- the first of the missed numbers bounced at the entry's first moment
  abbrev Missed : List Item → LedgerEntry → Type 0
  Missed h e = (n : ℕ) (more : List ℕ) → e.missed ≡ n ∷ more → Bounced h e.first n

  -- what an entry says about a history
  record Told (h : List Item) (e : LedgerEntry) : Type 0 where
    missed : Missed h e
    stage : StageOf h e.stage

  told_grows : (h : List Item) (x : Item) (e : LedgerEntry) → Member (h ++ x ∷ []) → Told h e → Told (h ++ x ∷ []) e
  told_grows h x e member i = record { missed = λ n more is. bounced_grows h x e.first n member (i.missed n more is); stage = stage_grows h x e.stage member i.stage }

  nothing_told : (h : List Item) → Told h (no_entry k)
  unfolding StageOf
  nothing_told h = record { missed = λ n more is. absurd (let bad : [] ≡ n ∷ more = is in cc); stage = tt }

  -- the entry of the key says what happened, and the key is a member's
  abbrev Entry : List Item → Type 0
  Entry h = (e : LedgerEntry) → find_entry k (ledger_of (after c ck h) set) ≡ Some e → Member h × Told h e

  under_told : (h : List Item) → Entry h → Told h (entry_under k (ledger_of (after c ck h) set))
  under_told h i = go (find_entry k (ledger_of (after c ck h) set)) refl
    where
      go : (o : Option LedgerEntry) → find_entry k (ledger_of (after c ck h) set) ≡ o → Told h (unwrap_or o (no_entry k))
      go None e = nothing_told h
      go (Some f) e = (i f e).1

  -- another number was noted
  noted_told : (h : List Item) (x : Item) (number : ℕ) (old : LedgerEntry) → Member h → Member (h ++ x ∷ []) → IsBounce (after c ck h) x set k number → Told h old
      → Told (h ++ x ∷ []) (noted number x.moment old)
  noted_told h x number old now member bounce i = record {
    missed = λ n more is. go old.missed refl n more is;
    stage = stage_grows h x old.stage member i.stage;
  }
    where
      go : (ms : List ℕ) → old.missed ≡ ms → (n : ℕ) (more : List ℕ) → ms ++ number ∷ [] ≡ n ∷ more → Bounced (h ++ x ∷ []) (if is_empty ms then x.moment else old.first) n
      go [] e n more is =
          let same : number ≡ n = cc in
          subst (Bounced (h ++ x ∷ []) x.moment) same
          (record { first = length h; at = happened c ck h x (λ p item. IsBounce p item set k number) bounce; since = since_now h x now member })
      go (m ∷ ms) e n more is =
          let same : m ≡ n = cc in
          subst (Bounced (h ++ x ∷ []) old.first) same (bounced_grows h x old.first m member (i.missed m ms e))

  -- the warning bounced
  failed_told : (h : List Item) (x : Item) (t : ℕ) (old : LedgerEntry) → Member (h ++ x ∷ []) → IsWarningBounce (after c ck h) x set k t → old.stage ≡ Warned t → Told h old
      → Told (h ++ x ∷ []) (record old { stage = WarnFailed x.moment })
  unfolding StageOf
  failed_told h x t old member bounce is i =
      let w : WarnedAt h t = subst (StageOf h) is i.stage in
      record {
        missed = λ n more is. bounced_grows h x old.first n member (i.missed n more is);
        stage = record {
          warned = t;
          warning = warned_grows h x t member w;
          third = length h;
          later = before c ck h w.second t _ w.at;
          at = happened c ck h x (λ p item. IsWarningBounce p item set k t) bounce;
        };
      }

  -- the missed numbers are those that the ledger has under the key
  ledger_missed : (h : List Item) (old : LedgerEntry) (n : ℕ) (more : List ℕ) → find_entry k (ledger_of (after c ck h) set) ≡ Some old → old.missed ≡ n ∷ more
      → list_any (λ m. m == n) (entry_under k (ledger_of (after c ck h) set)).missed ≡ true
  ledger_missed h old n more found is =
      ap (λ o. list_any (λ m. m == n) (unwrap_or o (no_entry k)).missed) found ∙ ap (list_any (λ m. m == n)) is ∙ ap (λ b. b || list_any (λ m. m == n) more) (eq-eqb n n refl)

  -- it was due, and is warned
  warned_now : (h : List Item) (x : Item) (old : LedgerEntry) → Member (h ++ x ∷ []) → find_entry k (ledger_of (after c ck h) set) ≡ Some old → x.act ≡ Timed
      → is_old x.moment old.first ≡ true → Mails (after c ck h) (steps.step0 (after c ck h) x).0 set k x.moment Unwarned → Missed h old
      → (ms : List ℕ) → old.missed ≡ ms → is_empty ms ≡ false → WarnedAt (h ++ x ∷ []) x.moment
  warned_now h x old member found timed is_long mail missed [] is some = absurd (true≢false some)
  warned_now h x old member found timed is_long mail missed (n ∷ more) is some =
      let b = missed n more is in
      record {
        bounced = old.first;
        number = n;
        bounce = bounced_grows h x old.first n member b;
        second = length h;
        later = before c ck h b.first old.first _ b.at;
        at = happened c ck h x (IsWarning set k n) (record {
          mail = mail_told (after c ck h) x (codes "warn") (warning_to (after c ck h) set k) set k timed mail;
          named = ledger_missed h old n more found is;
        });
        long = grind (arith, nat_tests, is_long);
      }

  missed_grows : (h : List Item) (x : Item) (old : LedgerEntry) → Member (h ++ x ∷ []) → Missed h old → Missed (h ++ x ∷ []) old
  missed_grows h x old member missed n more is = bounced_grows h x old.first n member (missed n more is)

  -- it was due
  due_told : (h : List Item) (x : Item) (s : Stage) (old : LedgerEntry) → Member (h ++ x ∷ []) → find_entry k (ledger_of (after c ck h) set) ≡ Some old → x.act ≡ Timed
      → is_due_at x.moment s old ≡ true → Mails (after c ck h) (steps.step0 (after c ck h) x).0 set k x.moment s → Missed h old → StageOf h s
      → Told (h ++ x ∷ []) (after_at x.moment s old)
  unfolding StageOf
  due_told h x Unwarned old member found timed due mail missed stage =
      let parts = and_parts (not (is_empty old.missed)) (is_old x.moment old.first) due in
      record {
        missed = λ n more is. absurd (let bad : [] ≡ n ∷ more = is in cc);
        stage = warned_now h x old member found timed parts.1 mail missed old.missed refl (not-true (is_empty old.missed) parts.0);
      }
  due_told h x (Warned t) old member found timed due mail missed stage = record { missed = missed_grows h x old member missed; stage = tt }
  due_told h x (WarnFailed t) old member found timed due mail missed stage = record {
    missed = missed_grows h x old member missed;
    stage = record {
      failed = t;
      failure = failed_grows h x t member stage;
      fourth = length h;
      later = before c ck h stage.third t _ stage.at;
      at = happened c ck h x (IsProbe set k) (mail_told (after c ck h) x (codes "probe") (probe_to set) set k timed mail);
      long = grind (arith, nat_tests, due);
    };
  }
  due_told h x (Probed t) old member found timed due mail missed stage = record { missed = missed_grows h x old member missed; stage = tt }

  -- after one more item
  entry_told : (h : List Item) (x : Item) (e : LedgerEntry) → Entry h → (Member h → Member (h ++ x ∷ []))
      → Origin (after c ck h) (steps.step0 (after c ck h) x).0 x set k e → Member (h ++ x ∷ []) × Told (h ++ x ∷ []) e
  unfolding StageOf
  entry_told h x e i stays (Same found) = let old = i e found in (stays old.0, told_grows h x e (stays old.0) old.1)
  entry_told h x e i stays (Noted number bounced is member) =
      (stays member, subst (Told (h ++ x ∷ [])) (sym is) (noted_told h x number (entry_under k (ledger_of (after c ck h) set)) member (stays member) bounced (under_told h i)))
  entry_told h x e i stays (Failed t bounced warned is) =
      let old = entry_under k (ledger_of (after c ck h) set) in
      let told = under_told h i in
      let w : WarnedAt h t = subst (StageOf h) warned told.stage in
      let first_before = before c ck h w.bounce.first w.bounced _ w.bounce.at in
      let member = stays (since_end h w.bounce.first (omega (arith, first_before)) w.bounce.since) in
      (member, subst (Told (h ++ x ∷ [])) (sym is) (failed_told h x t old member bounced warned told))
  entry_told h x e i stays (Due timed old found due is mails) =
      let told = i old found in
      (stays told.0, subst (Told (h ++ x ∷ [])) (sym is) (due_told h x old.stage old (stays told.0) found timed due mails told.1.missed told.1.stage))

  -- the course that a probe ends
  course_of : (h : List Item) (t : ℕ) → ProbedAt h t → Course c ck h set k t
  course_of h t p =
      let f = p.failure in
      let w = f.warning in
      let b = w.bounce in
      record {
        number = w.number;
        bounced = w.bounced;
        warned = f.warned;
        failed = p.failed;
        first = b.first;
        second = w.second;
        third = f.third;
        fourth = p.fourth;
        second_later = w.later;
        third_later = f.later;
        fourth_later = p.later;
        bounce_at = b.at;
        warning_at = w.at;
        bounced_long_ago = w.long;
        warning_bounce_at = f.at;
        probe_at = p.at;
        failed_long_ago = p.long;
        member = b.since;
      }

-- after a history every ledger is in order, and every entry says what happened
record Kept (c : Config) (ck : Text) (h : List Item) : Type 0 where
  sorted : (set : Set) → IsLedgerSorted (ledger_of (after c ck h) set)
  entries : (set : Set) (k : Text) → Entry c ck set k h

kept_step : (c : Config) (ck : Text) (h : List Item) (x : Item) → Kept c ck h → Kept c ck (h ++ x ∷ [])
kept_step c ck h x i =
    let p = after c ck h in
    let traced = step_traced p x in
    let is : after c ck (h ++ x ∷ []) ≡ (steps.step0 p x).0 = fold_snoc (new_list c ck) h x in
    record {
      sorted = λ set. subst (λ q. IsLedgerSorted (ledger_of q set)) (sym is) (traced.sorted i.sorted set);
      entries = λ set k e found.
          let there : find_entry k (ledger_of (steps.step0 p x).0 set) ≡ Some e = ap (λ q. find_entry k (ledger_of q set)) (sym is) ∙ found in
          entry_told c ck set k h x e (i.entries set k) (λ member. ap (λ q. has_key k (q.sets set)) is ∙ traced.stays set k e there member) (traced.origin i.sorted set k e there);
    }

sorted_new : (c : Config) (ck : Text) (set : Set) → IsLedgerSorted (ledger_of (new_list c ck) set)
sorted_new c ck sets.List = refl
sorted_new c ck sets.Digest = refl
sorted_new c ck sets.Allow = refl
sorted_new c ck sets.Deny = refl
sorted_new c ck sets.Moderators = refl

found_new : (c : Config) (ck : Text) (set : Set) (k : Text) (e : LedgerEntry) → find_entry k (ledger_of (new_list c ck) set) ≡ Some e → ⊥
found_new c ck sets.List k e is = let bad : None ≡ Some e = is in cc
found_new c ck sets.Digest k e is = let bad : None ≡ Some e = is in cc
found_new c ck sets.Allow k e is = let bad : None ≡ Some e = is in cc
found_new c ck sets.Deny k e is = let bad : None ≡ Some e = is in cc
found_new c ck sets.Moderators k e is = let bad : None ≡ Some e = is in cc

kept_new : (c : Config) (ck : Text) → Kept c ck []
kept_new c ck = record { sorted = sorted_new c ck; entries = λ set k e is. absurd (found_new c ck set k e is) }

-- from a history on
kept_from : (c : Config) (ck : Text) (more h : List Item) → Kept c ck h → Kept c ck (h ++ more)
kept_from c ck [] h i = subst (Kept c ck) (sym (append-nil h)) i
kept_from c ck (x ∷ more) h i = subst (Kept c ck) (append_assoc h (x ∷ []) more) (kept_from c ck more (h ++ x ∷ []) (kept_step c ck h x i))

kept : (c : Config) (ck : Text) (h : List Item) → Kept c ck h
kept c ck h = kept_from c ck h [] (kept_new c ck)

probed_at_end : (c : Config) (ck : Text) (h : List Item) (set : Set) (k : Text) (t : ℕ) → (entry_under k (ledger_of (after c ck h) set)).stage ≡ Probed t → ProbedAt c ck set k h t
unfolding StageOf
probed_at_end c ck h set k t is = subst (StageOf c ck set k h) is (under_told c ck set k h ((kept c ck h).entries set k)).stage

dropped_by : (c : Config) (ck : Text) (h : List Item) (item : Item) (set : Set) (k : Text) (t : ℕ) → IsDrop (after c ck h) item set k t → IsDroppedByCourse c ck h item set k
dropped_by c ck h item set k t drop = record {
  probed = t;
  drop = drop;
  course = course_of c ck set k h t (probed_at_end c ck h set k t drop.stage);
}

pub law_chain : LawChain
law_chain c ck h item set k leaves = elim (law_leaving (after c ck h) item set k leaves) [
  | inl removal ↦ inl removal
  | inr other ↦ inr (
    other.0,
    elim other.1 [
      | inl own ↦ inl own
      | inr more ↦ inr (elim more [
        | inl confirmed ↦ inl confirmed
        | inr drop ↦ inr (dropped_by c ck h item set k drop.0 drop.1)
      ])
    ],
  )
]

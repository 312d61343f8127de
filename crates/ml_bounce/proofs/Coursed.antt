-- What must have happened to an address before a bounced probe takes its entry out.
use Rattle.std.proofs.Common.{◌≡◌, ◌≢◌, ℕ, Bool, true, false, cond, not, List, [], ◌∷◌, ◌++◌, Option, Some, None, refl, sym, ap, ◌∙◌, subst, append_assoc, append-nil, inl, inr}
use Rattle.std.specs.Prelude.{unwrap_or}
use Rattle.std.specs.List.{AllByRecursion}
use Rattle.std.specs.Str.{bytes_eq}
use Rattle.std.proofs.lemmas.Bool.{eqb-true, and_parts, false≢true, true≢false}
use Rattle.std.proofs.lemmas.Slice.Eq.{bytes_eq-Decides}
use Rattle.ml_base.specs.Bytes.{Text, is_empty}
use Rattle.ml_base.specs.Sorted.{byte_cmp}
use Rattle.ml_base.proofs.SortedLaws.{same_bytes, bytes_total, found_with, found_without, found_is}
use Rattle.ml_base.proofs.BelowLemmas.{same_key}
use Rattle.ml_rows.proofs.RowLaws.{none_some}
use Rattle.ml_bounce.specs.Changes.{can_note, noted, is_warned, probe_failed, is_probed, is_old, is_due, is_due_at, after_at, act}
use Rattle.ml_bounce.specs.Course.{Change, Bounced, WarningBounced, ProbeBounced, Served, Forgotten, after, after_all, StandInOrder, IsCourse}
use Rattle.ml_bounce.specs.Ledger.{Ledger, LedgerEntry, Stage, Unwarned, Warned, WarnFailed, Probed, find_entry, entry_under, no_entry, with_ledger, forget, settle, is_blank_at}

-- the entry under a key, after an entry was put or removed
under_with : (q : Text) (e : LedgerEntry) (ledger : Ledger) → entry_under q (with_ledger e ledger) ≡ cond (bytes_eq q e.key) e (entry_under q ledger)
under_with q e ledger =
    ap (λ (o : Option LedgerEntry). unwrap_or o (no_entry q)) (found_with byte_cmp (λ (e : LedgerEntry). e.key) same_bytes bytes_total q e ledger ∙ ap (λ b. cond b (Some e) (find_entry q ledger)) (same_key q e.key))
    ∙ go (bytes_eq q e.key)
  where
    go : (t : Bool) → unwrap_or (cond t (Some e) (find_entry q ledger)) (no_entry q) ≡ cond t e (entry_under q ledger)
    go true = refl
    go false = refl

under_without : (q k : Text) (ledger : Ledger) → entry_under q (forget k ledger) ≡ cond (bytes_eq q k) (no_entry q) (entry_under q ledger)
under_without q k ledger =
    ap (λ (o : Option LedgerEntry). unwrap_or o (no_entry q)) (found_without byte_cmp (λ (e : LedgerEntry). e.key) same_bytes bytes_total q k ledger ∙ ap (λ b. cond b None (find_entry q ledger)) (same_key q k))
    ∙ go (bytes_eq q k)
  where
    go : (t : Bool) → unwrap_or (cond t None (find_entry q ledger)) (no_entry q) ≡ cond t (no_entry q) (entry_under q ledger)
    go true = refl
    go false = refl

all_unit : (es : Ledger) → AllByRecursion (λ (e : LedgerEntry). Unit {0}) es
all_unit [] = tt
all_unit (e ∷ es) = (tt, all_unit es)

under_key : (k : Text) (ledger : Ledger) → (entry_under k ledger).key ≡ k
under_key k ledger = go (find_entry k ledger) refl
  where
    go : (o : Option LedgerEntry) → find_entry k ledger ≡ o → (unwrap_or o (no_entry k)).key ≡ k
    go None found = refl
    go (Some e) found = sym (same_bytes k e.key (found_is byte_cmp (λ (e : LedgerEntry). e.key) (λ e. Unit {0}) k e ledger (all_unit ledger) found).1)

-- an entry that was put is the one under its key
under_own : (k : Text) (e : LedgerEntry) (ledger : Ledger) → e.key ≡ k → entry_under k (with_ledger e ledger) ≡ e
under_own k e ledger same = under_with k e ledger ∙ ap (λ b. cond b e (entry_under k ledger)) ((bytes_eq-Decides k e.key).1 (sym same))

under_gone : (k : Text) (ledger : Ledger) → entry_under k (forget k ledger) ≡ no_entry k
under_gone k ledger = under_without k k ledger ∙ ap (λ b. cond b (no_entry k) (entry_under k ledger)) ((bytes_eq-Decides k k).1 refl)

apart_test : (k a : Text) → k ≢ a → bytes_eq k a ≡ false
apart_test k a apart = go (bytes_eq k a) refl
  where
    go : (t : Bool) → bytes_eq k a ≡ t → t ≡ false
    go true e = absurd (apart ((bytes_eq-Decides k a).0 e))
    go false e = refl

under_other : (k : Text) (e : LedgerEntry) (ledger : Ledger) → k ≢ e.key → entry_under k (with_ledger e ledger) ≡ entry_under k ledger
under_other k e ledger apart = under_with k e ledger ∙ ap (λ b. cond b e (entry_under k ledger)) (apart_test k e.key apart)

under_left : (k a : Text) (ledger : Ledger) → k ≢ a → entry_under k (forget a ledger) ≡ entry_under k ledger
under_left k a ledger apart = under_without k a ledger ∙ ap (λ b. cond b (no_entry k) (entry_under k ledger)) (apart_test k a apart)

-- rows of changes, with one more at the end
in_order_on : (ws cs : List Change) (c : Change) → StandInOrder ws cs → StandInOrder ws (cs ++ c ∷ [])
in_order_on [] cs c is = tt
in_order_on (w ∷ ws) [] c is = absurd is
in_order_on (w ∷ ws) (d ∷ ds) c (inl is) = inl (is.0, in_order_on ws ds c is.1)
in_order_on (w ∷ ws) (d ∷ ds) c (inr is) = inr (in_order_on (w ∷ ws) ds c is)

in_order_next : (ws cs : List Change) (c : Change) → StandInOrder ws cs → StandInOrder (ws ++ c ∷ []) (cs ++ c ∷ [])
in_order_next [] [] c is = inl (refl, tt)
in_order_next [] (d ∷ ds) c is = inr (in_order_next [] ds c tt)
in_order_next (w ∷ ws) [] c is = absurd is
in_order_next (w ∷ ws) (d ∷ ds) c (inl is) = inl (is.0, in_order_next ws ds c is.1)
in_order_next (w ∷ ws) (d ∷ ds) c (inr is) = inr (in_order_next (w ∷ ws) ds c is)

all_on : (P : Change → Type 0) (cs : List Change) (c : Change) → AllByRecursion P cs → P c → AllByRecursion P (cs ++ c ∷ [])
all_on P [] c all is = (is, tt)
all_on P (d ∷ ds) c all is = (all.0, all_on P ds c all.1 is)

module _ (k : Text) where
  abbrev Keeps : Change → Type 0
  Keeps c = c ≢ Forgotten k

  -- mail to the key bounced at `first`; since then these changes came in order, and the key wasn't forgotten
  pub record Told (changes : List Change) (first : ℕ) (wanted : List Change) : Type 0 where
    pub before : List Change
    pub number : ℕ
    pub since : List Change
    pub whole : changes ≡ before ++ Bounced k number first ∷ since
    pub order : StandInOrder wanted since
    pub kept : AllByRecursion Keeps since

  grown : (h : List Change) (c d : Change) (before since : List Change) → h ≡ before ++ d ∷ since → h ++ c ∷ [] ≡ before ++ d ∷ (since ++ c ∷ [])
  grown h c d before since e = ap (λ t. t ++ c ∷ []) e ∙ append_assoc before (d ∷ since) (c ∷ [])

  told_on : (h : List Change) (c : Change) (first : ℕ) (wanted : List Change) → Keeps c → Told h first wanted → Told (h ++ c ∷ []) first wanted
  told_on h c first wanted keeps is = record {
    before = is.before;
    number = is.number;
    since = is.since ++ c ∷ [];
    whole = grown h c (Bounced k is.number first) is.before is.since is.whole;
    order = in_order_on wanted is.since c is.order;
    kept = all_on Keeps is.since c is.kept keeps;
  }

  told_next : (h : List Change) (c : Change) (first : ℕ) (wanted : List Change) → Keeps c → Told h first wanted → Told (h ++ c ∷ []) first (wanted ++ c ∷ [])
  told_next h c first wanted keeps is = record {
    before = is.before;
    number = is.number;
    since = is.since ++ c ∷ [];
    whole = grown h c (Bounced k is.number first) is.before is.since is.whole;
    order = in_order_next wanted is.since c is.order;
    kept = all_on Keeps is.since c is.kept keeps;
  }

  -- what a stage says of the changes before it
  abbrev Stands : List Change → Stage → Type 0
  Stands h Unwarned = Unit {0}
  Stands h (Warned t) = (first : ℕ) × Told h first (Served k t ∷ []) × (is_old t first ≡ true)
  Stands h (WarnFailed f) = (first : ℕ) × (warned : ℕ) × Told h first (Served k warned ∷ WarningBounced k warned f ∷ []) × (is_old warned first ≡ true)
  Stands h (Probed t) = (first : ℕ) × (warned : ℕ) × (failed : ℕ) × Told h first (Served k warned ∷ WarningBounced k warned failed ∷ Served k t ∷ []) × (is_old warned first ≡ true) × (is_old t failed ≡ true)

  stands_on : (h : List Change) (c : Change) (s : Stage) → Keeps c → Stands h s → Stands (h ++ c ∷ []) s
  stands_on h c Unwarned keeps is = tt
  stands_on h c (Warned t) keeps is = (is.0, told_on h c is.0 (Served k t ∷ []) keeps is.1, is.2)
  stands_on h c (WarnFailed f) keeps is = (is.0, is.1, told_on h c is.0 (Served k is.1 ∷ WarningBounced k is.1 f ∷ []) keeps is.2, is.3)
  stands_on h c (Probed t) keeps is = (is.0, is.1, is.2, told_on h c is.0 (Served k is.1 ∷ WarningBounced k is.1 is.2 ∷ Served k t ∷ []) keeps is.3, is.4, is.5)

  -- what an entry says of the changes before it
  pub record Knows (h : List Change) (e : LedgerEntry) : Type 0 where
    pub missed : is_empty e.missed ≡ false → Told h e.first []
    pub stage : Stands h e.stage

  knows_on : (h : List Change) (c : Change) (e : LedgerEntry) → Keeps c → Knows h e → Knows (h ++ c ∷ []) e
  knows_on h c e keeps is = record { missed = λ some. told_on h c e.first [] keeps (is.missed some); stage = stands_on h c e.stage keeps is.stage }

  knows_none : (h : List Change) → Knows h (no_entry k)
  knows_none h = record { missed = λ some. absurd (true≢false some); stage = tt }

  abbrev Next : List Change → Change → Ledger → Type 0
  Next h c ledger = Knows (h ++ c ∷ []) (entry_under k (after c ledger))

  -- a change that leaves the key's entry as it is
  stays : (h : List Change) (c : Change) (ledger other : Ledger) → Keeps c → Knows h (entry_under k ledger) → after c ledger ≡ other → entry_under k other ≡ entry_under k ledger → Next h c ledger
  stays h c ledger other keeps is e same = subst (λ x. Knows (h ++ c ∷ []) x) (sym (ap (entry_under k) e ∙ same)) (knows_on h c (entry_under k ledger) keeps is)

  -- a change that replaces the key's entry
  becomes : (h : List Change) (c : Change) (ledger other : Ledger) (new : LedgerEntry) → Knows (h ++ c ∷ []) new → after c ledger ≡ other → entry_under k other ≡ new → Next h c ledger
  becomes h c ledger other new is e same = subst (λ x. Knows (h ++ c ∷ []) x) (sym (ap (entry_under k) e ∙ same)) is

  is_forgetting : Change → Bool
  is_forgetting (Bounced a n m) = false
  is_forgetting (WarningBounced a n m) = false
  is_forgetting (ProbeBounced a n) = false
  is_forgetting (Served a n) = false
  is_forgetting (Forgotten a) = true

  whose : Change → Text
  whose (Bounced a n m) = a
  whose (WarningBounced a n m) = a
  whose (ProbeBounced a n) = a
  whose (Served a n) = a
  whose (Forgotten a) = a

  keeps_on : (c : Change) → is_forgetting c ≡ false → Keeps c
  unfolding is_forgetting
  keeps_on c no_forgetting e = true≢false (sym (ap is_forgetting e) ∙ no_forgetting)

  keeps_other : (a : Text) → k ≢ a → Keeps (Forgotten a)
  unfolding whose
  keeps_other a apart e = apart (sym (ap whose e))

  -- mail to the key bounces
  bounced : (h : List Change) (number now : ℕ) (ledger : Ledger) → Knows h (entry_under k ledger) → Next h (Bounced k number now) ledger
  unfolding is_forgetting
  bounced h number now ledger is = go (can_note number (entry_under k ledger)) refl
    where
      first : (t : Bool) → is_empty (entry_under k ledger).missed ≡ t → Told (h ++ Bounced k number now ∷ []) (cond t now (entry_under k ledger).first) []
      first true none = record { before = h; number = number; since = []; whole = refl; order = tt; kept = tt }
      first false some = told_on h (Bounced k number now) (entry_under k ledger).first [] (keeps_on (Bounced k number now) refl) (is.missed some)

      go : (t : Bool) → can_note number (entry_under k ledger) ≡ t → Next h (Bounced k number now) ledger
      go false no_note = stays h (Bounced k number now) ledger ledger (keeps_on (Bounced k number now) refl) is (ap (λ t. unwrap_or (cond t (Some (with_ledger (noted number now (entry_under k ledger)) ledger)) None) ledger) no_note) refl
      go true notes =
          becomes h (Bounced k number now) ledger (with_ledger (noted number now (entry_under k ledger)) ledger) (noted number now (entry_under k ledger))
          (record {
            missed = λ some. first (is_empty (entry_under k ledger).missed) refl;
            stage = stands_on h (Bounced k number now) (entry_under k ledger).stage (keeps_on (Bounced k number now) refl) is.stage;
          })
          (ap (λ t. unwrap_or (cond t (Some (with_ledger (noted number now (entry_under k ledger)) ledger)) None) ledger) notes)
          (under_own k (noted number now (entry_under k ledger)) ledger (under_key k ledger))

  -- the key's warning bounces
  warned_on : (h : List Change) (t now : ℕ) (s : Stage) → Stands h s → is_warned t s ≡ true → Stands (h ++ WarningBounced k t now ∷ []) (WarnFailed now)
  unfolding is_forgetting
  warned_on h t now Unwarned is e = absurd (false≢true e)
  warned_on h t now (WarnFailed f) is e = absurd (false≢true e)
  warned_on h t now (Probed f) is e = absurd (false≢true e)
  warned_on h t now (Warned at) is e =
      let same : at ≡ t = eqb-true at t e in
      let told : Told h is.0 (Served k t ∷ []) = subst (λ (x : ℕ). Told h is.0 (Served k x ∷ [])) same is.1 in
      (is.0, t, told_next h (WarningBounced k t now) is.0 (Served k t ∷ []) (keeps_on (WarningBounced k t now) refl) told, subst (λ (x : ℕ). is_old x is.0 ≡ true) same is.2)

  warning_bounced : (h : List Change) (t now : ℕ) (ledger : Ledger) → Knows h (entry_under k ledger) → Next h (WarningBounced k t now) ledger
  unfolding is_forgetting
  warning_bounced h t now ledger is = go (is_warned t (entry_under k ledger).stage) refl
    where
      go : (b : Bool) → is_warned t (entry_under k ledger).stage ≡ b → Next h (WarningBounced k t now) ledger
      go false e =
          stays h (WarningBounced k t now) ledger ledger (keeps_on (WarningBounced k t now) refl) is
          (ap (λ b. unwrap_or (cond b (Some (with_ledger (record (entry_under k ledger) { stage = WarnFailed now }) ledger)) None) ledger) e) refl
      go true e =
          becomes h (WarningBounced k t now) ledger (with_ledger (record (entry_under k ledger) { stage = WarnFailed now }) ledger) (record (entry_under k ledger) { stage = WarnFailed now })
          (record {
            missed = λ some. told_on h (WarningBounced k t now) (entry_under k ledger).first [] (keeps_on (WarningBounced k t now) refl) (is.missed some);
            stage = warned_on h t now (entry_under k ledger).stage is.stage e;
          })
          (ap (λ b. unwrap_or (cond b (Some (with_ledger (record (entry_under k ledger) { stage = WarnFailed now }) ledger)) None) ledger) e)
          (under_own k (record (entry_under k ledger) { stage = WarnFailed now }) ledger (under_key k ledger))

  -- the key's probe bounces
  probe_bounced : (h : List Change) (t : ℕ) (ledger : Ledger) → Knows h (entry_under k ledger) → Next h (ProbeBounced k t) ledger
  unfolding is_forgetting
  probe_bounced h t ledger is = go (is_probed t (entry_under k ledger).stage) refl
    where
      go : (b : Bool) → is_probed t (entry_under k ledger).stage ≡ b → Next h (ProbeBounced k t) ledger
      go false e = stays h (ProbeBounced k t) ledger ledger (keeps_on (ProbeBounced k t) refl) is (ap (λ b. unwrap_or (cond b (Some (forget k ledger)) None) ledger) e) refl
      go true e = becomes h (ProbeBounced k t) ledger (forget k ledger) (no_entry k) (knows_none (h ++ ProbeBounced k t ∷ [])) (ap (λ b. unwrap_or (cond b (Some (forget k ledger)) None) ledger) e) (under_gone k ledger)

  -- what is due for the key is done
  served_entry : (h : List Change) (now : ℕ) (s : Stage) (e : LedgerEntry) → Stands h s → (is_empty e.missed ≡ false → Told h e.first []) → is_due_at now s e ≡ true → Knows (h ++ Served k now ∷ []) (after_at now s e)
  unfolding is_forgetting
  served_entry h now Unwarned e is missed due =
      let parts = and_parts (not (is_empty e.missed)) (is_old now e.first) due in
      record {
        missed = λ some. absurd (true≢false some);
        stage = (e.first, told_next h (Served k now) e.first [] (keeps_on (Served k now) refl) (missed (not_true (is_empty e.missed) parts.0)), parts.1);
      }
    where
      not_true : (b : Bool) → not b ≡ true → b ≡ false
      not_true true e = absurd (false≢true e)
      not_true false e = refl
  served_entry h now (Warned t) e is missed due = record { missed = λ some. told_on h (Served k now) e.first [] (keeps_on (Served k now) refl) (missed some); stage = tt }
  served_entry h now (WarnFailed f) e is missed due = record {
    missed = λ some. told_on h (Served k now) e.first [] (keeps_on (Served k now) refl) (missed some);
    stage = (is.0, is.1, f, told_next h (Served k now) is.0 (Served k is.1 ∷ WarningBounced k is.1 f ∷ []) (keeps_on (Served k now) refl) is.2, is.3, due);
  }
  served_entry h now (Probed t) e is missed due = record { missed = λ some. told_on h (Served k now) e.first [] (keeps_on (Served k now) refl) (missed some); stage = tt }

  same_owner : (now : ℕ) (s : Stage) (e : LedgerEntry) → (after_at now s e).key ≡ e.key
  same_owner now Unwarned e = refl
  same_owner now (Warned t) e = refl
  same_owner now (WarnFailed t) e = refl
  same_owner now (Probed t) e = refl

  settled : (h : List Change) (e : LedgerEntry) (ledger : Ledger) → e.key ≡ k → Knows h e → Knows h (entry_under k (settle e ledger))
  settled h e ledger own is = go (is_blank_at e.stage e.missed) refl
    where
      go : (b : Bool) → is_blank_at e.stage e.missed ≡ b → Knows h (entry_under k (cond (is_blank_at e.stage e.missed) (forget e.key ledger) (with_ledger e ledger)))
      go true blank = subst (λ x. Knows h x) (sym (ap (λ b. entry_under k (cond b (forget e.key ledger) (with_ledger e ledger))) blank ∙ ap (λ a. entry_under k (forget a ledger)) own ∙ under_gone k ledger)) (knows_none h)
      go false kept = subst (λ x. Knows h x) (sym (ap (λ b. entry_under k (cond b (forget e.key ledger) (with_ledger e ledger))) kept ∙ under_own k e ledger own)) is

  served : (h : List Change) (now : ℕ) (ledger : Ledger) → Knows h (entry_under k ledger) → Next h (Served k now) ledger
  unfolding is_forgetting
  served h now ledger is = go (is_due now (entry_under k ledger)) refl
    where
      go : (b : Bool) → is_due now (entry_under k ledger) ≡ b → Next h (Served k now) ledger
      go false e = stays h (Served k now) ledger ledger (keeps_on (Served k now) refl) is (ap (λ b. cond b (act now (entry_under k ledger) ledger) ledger) e) refl
      go true e =
          let done = served_entry h now (entry_under k ledger).stage (entry_under k ledger) is.stage is.missed e in
          let own = same_owner now (entry_under k ledger).stage (entry_under k ledger) ∙ under_key k ledger in
          subst (λ l. Knows (h ++ Served k now ∷ []) (entry_under k l)) (sym (ap (λ b. cond b (act now (entry_under k ledger) ledger) ledger) e))
          (settled (h ++ Served k now ∷ []) (after_at now (entry_under k ledger).stage (entry_under k ledger)) ledger own done)

  forgotten : (h : List Change) (ledger : Ledger) → Next h (Forgotten k) ledger
  forgotten h ledger = becomes h (Forgotten k) ledger (forget k ledger) (no_entry k) (knows_none (h ++ Forgotten k ∷ [])) refl (under_gone k ledger)

  -- changes under other keys
  other_key : (c : Change) (a : Text) (ledger : Ledger) → k ≢ a → whose c ≡ a → entry_under k (after c ledger) ≡ entry_under k ledger
  unfolding whose
  other_key (Bounced a n m) b ledger apart e = go (can_note n (entry_under a ledger))
    where
      away : k ≢ (entry_under a ledger).key
      away same = apart (same ∙ under_key a ledger ∙ e)

      go : (t : Bool) → entry_under k (unwrap_or (cond t (Some (with_ledger (noted n m (entry_under a ledger)) ledger)) None) ledger) ≡ entry_under k ledger
      go true = under_other k (noted n m (entry_under a ledger)) ledger away
      go false = refl
  other_key (WarningBounced a n m) b ledger apart e = go (is_warned n (entry_under a ledger).stage)
    where
      away : k ≢ (entry_under a ledger).key
      away same = apart (same ∙ under_key a ledger ∙ e)

      go : (t : Bool) → entry_under k (unwrap_or (cond t (Some (with_ledger (record (entry_under a ledger) { stage = WarnFailed m }) ledger)) None) ledger) ≡ entry_under k ledger
      go true = under_other k (record (entry_under a ledger) { stage = WarnFailed m }) ledger away
      go false = refl
  other_key (ProbeBounced a n) b ledger apart e = go (is_probed n (entry_under a ledger).stage)
    where
      go : (t : Bool) → entry_under k (unwrap_or (cond t (Some (forget a ledger)) None) ledger) ≡ entry_under k ledger
      go true = under_left k a ledger (λ same. apart (same ∙ e))
      go false = refl
  other_key (Served a n) b ledger apart e = go (is_due n (entry_under a ledger))
    where
      own : (after_at n (entry_under a ledger).stage (entry_under a ledger)).key ≡ a
      own = same_owner n (entry_under a ledger).stage (entry_under a ledger) ∙ under_key a ledger

      kept : (t : Bool) → entry_under k (cond t (forget (after_at n (entry_under a ledger).stage (entry_under a ledger)).key ledger) (with_ledger (after_at n (entry_under a ledger).stage (entry_under a ledger)) ledger)) ≡ entry_under k ledger
      kept true = under_left k (after_at n (entry_under a ledger).stage (entry_under a ledger)).key ledger (λ same. apart (same ∙ own ∙ e))
      kept false = under_other k (after_at n (entry_under a ledger).stage (entry_under a ledger)) ledger (λ same. apart (same ∙ own ∙ e))

      go : (t : Bool) → entry_under k (cond t (act n (entry_under a ledger) ledger) ledger) ≡ entry_under k ledger
      go true = kept (is_blank_at (after_at n (entry_under a ledger).stage (entry_under a ledger)).stage (after_at n (entry_under a ledger).stage (entry_under a ledger)).missed)
      go false = refl
  other_key (Forgotten a) b ledger apart e = under_left k a ledger (λ same. apart (same ∙ e))

  keeps_apart : (c : Change) → k ≢ whose c → Keeps c
  unfolding whose is_forgetting
  keeps_apart (Bounced a n m) apart = keeps_on (Bounced a n m) refl
  keeps_apart (WarningBounced a n m) apart = keeps_on (WarningBounced a n m) refl
  keeps_apart (ProbeBounced a n) apart = keeps_on (ProbeBounced a n) refl
  keeps_apart (Served a n) apart = keeps_on (Served a n) refl
  keeps_apart (Forgotten a) apart = keeps_other a apart

  own_key : (c : Change) (h : List Change) (ledger : Ledger) → k ≡ whose c → Knows h (entry_under k ledger) → Next h c ledger
  unfolding whose
  own_key (Bounced a n m) h ledger e is = subst (λ x. Next h (Bounced x n m) ledger) e (bounced h n m ledger is)
  own_key (WarningBounced a n m) h ledger e is = subst (λ x. Next h (WarningBounced x n m) ledger) e (warning_bounced h n m ledger is)
  own_key (ProbeBounced a n) h ledger e is = subst (λ x. Next h (ProbeBounced x n) ledger) e (probe_bounced h n ledger is)
  own_key (Served a n) h ledger e is = subst (λ x. Next h (Served x n) ledger) e (served h n ledger is)
  own_key (Forgotten a) h ledger e is = subst (λ x. Next h (Forgotten x) ledger) e (forgotten h ledger)

  step : (h : List Change) (c : Change) (ledger : Ledger) → Knows h (entry_under k ledger) → Next h c ledger
  step h c ledger is = go (bytes_eq k (whose c)) refl
    where
      go : (t : Bool) → bytes_eq k (whose c) ≡ t → Next h c ledger
      go true e = own_key c h ledger ((bytes_eq-Decides k (whose c)).0 e) is
      go false e =
          let apart : k ≢ whose c = λ same. true≢false (sym ((bytes_eq-Decides k (whose c)).1 same) ∙ e) in
          stays h c ledger (after c ledger) (keeps_apart c apart) is refl (other_key c (whose c) ledger apart refl)

  all_steps : (h cs : List Change) (ledger : Ledger) → Knows h (entry_under k ledger) → Knows (h ++ cs) (entry_under k (after_all cs ledger))
  all_steps h [] ledger is = subst (λ t. Knows t (entry_under k ledger)) (sym (append-nil h)) is
  all_steps h (c ∷ cs) ledger is = subst (λ t. Knows t (entry_under k (after_all cs (after c ledger)))) (append_assoc h (c ∷ []) cs) (all_steps (h ++ c ∷ []) cs (after c ledger) (step h c ledger is))

  probed_course : (h : List Change) (t : ℕ) (s : Stage) → Stands h s → is_probed t s ≡ true → IsCourse k t h
  probed_course h t Unwarned is e = absurd (false≢true e)
  probed_course h t (Warned x) is e = absurd (false≢true e)
  probed_course h t (WarnFailed x) is e = absurd (false≢true e)
  probed_course h t (Probed x) is e = subst (λ y. IsCourse k y h) (eqb-true x t e) (record {
    before = (is.3).before;
    number = (is.3).number;
    first = is.0;
    since = (is.3).since;
    warned = is.1;
    failed = is.2;
    whole = (is.3).whole;
    order = (is.3).order;
    warned_late = is.4;
    probed_late = is.5;
    kept = (is.3).kept;
  })

pub coursed : (k : Text) (probed : ℕ) (changes : List Change) (ledger left : Ledger) → find_entry k ledger ≡ None → probe_failed k probed (after_all changes ledger) ≡ Some left → IsCourse k probed changes
coursed k probed changes ledger left none fails = go (is_probed probed (entry_under k (after_all changes ledger)).stage) refl
  where
    knows : Knows k changes (entry_under k (after_all changes ledger))
    knows = all_steps k [] changes ledger (subst (λ (o : Option LedgerEntry). Knows k [] (unwrap_or o (no_entry k))) (sym none) (knows_none k []))

    go : (t : Bool) → is_probed probed (entry_under k (after_all changes ledger)).stage ≡ t → IsCourse k probed changes
    go true e = probed_course k changes probed (entry_under k (after_all changes ledger)).stage (all_steps k [] changes ledger (subst (λ (o : Option LedgerEntry). Knows k [] (unwrap_or o (no_entry k))) (sym none) (knows_none k []))).stage e
    go false e = absurd (none_some left (sym (ap (λ t. cond t (Some (forget k (after_all changes ledger))) None) e) ∙ fails))

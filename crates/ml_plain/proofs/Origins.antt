-- Where the entries of ledgers come from.
use Rattle.std.proofs.Common.{◌≡◌, ℕ, ◌≤◌, ◌⊎◌, inl, inr, Bool, true, false, cond, ◌==◌, [], ◌∷◌, Option, Some, None, refl, sym, ap, subst, ◌∙◌, codes, unwrap_or, option_map}
use Rattle.std.proofs.lemmas.Bool.{true≢false}
use Rattle.std.specs.Ordering.{eq_by_cmp}
use Rattle.ml_base.specs.Bytes.{Text}
use Rattle.ml_base.specs.Sorted.{byte_cmp}
use Rattle.ml_base.specs.Address.{key}
use Rattle.ml_base.specs.Name.{set_number}
use Rattle.ml_base.specs.declared.names.Set.{Set}
use Rattle.ml_base.specs.declared.names.Set.TheVariants as sets
use Rattle.ml_bounce.specs.Ledger.{Ledger, find_entry, entry_under, no_entry, with_ledger, forget}
use Rattle.ml_bounce.specs.declared.entries.Stage.{Stage}
use Rattle.ml_bounce.specs.declared.entries.Stage.TheVariants.{Unwarned, Warned, WarnFailed, Probed}
use Rattle.ml_bounce.specs.declared.entries.LedgerEntry.{LedgerEntry}
use Rattle.ml_bounce.specs.Changes.{noted, is_due, after_at}
use Rattle.ml_reply.specs.declared.mails.Mail.{Mail}
use Rattle.ml_subs.specs.Members.{has_key, member_of, without_member}
use Rattle.ml_plain.specs.declared.Item.{Item}
use Rattle.ml_plain.specs.declared.Act.TheVariants.{Timed}
use Rattle.ml_plain.specs.Laws.{bounce_entry, warning_to, probe_to, IsBounce, IsWarningBounce}
use Rattle.ml_plain.specs.Plain.{Plain, ledger_of, with_ledger_of, with_members, removed}
use Rattle.ml_plain.proofs.Leaving.{leaves_removed, ledger_sets, tied_text}
use Rattle.ml_plain.proofs.Ledgers.{Elem, elem_left, IsLedgerSorted, found_forget, found_changed, sorted_forget, sorted_changed}
use Rattle.ml_plain.proofs.Mailed.{Mailed}

-- between two lists, a warning or a probe to the member of a key was put into the queue
pub record Queued (p q : Plain) (kind : Text) (mail : Text → Mail) (set : Set) (k : Text) (now : ℕ) : Type 0 where
  pub number : ℕ
  pub who : Text
  pub is : key who ≡ k
  pub spelled : option_map (λ m. m.who) (member_of k (p.sets set)) ≡ Some who
  pub there : Elem (record { number = number; thing = bounce_entry p kind set k who now (mail who) }) q.queue.all
  pub since : p.queue.next ≤ number

-- what a due entry of this stage makes
abbrev pub Mails : Plain → Plain → Set → Text → ℕ → Stage → Type 0
Mails p q set k now Unwarned = Queued p q (codes "warn") (warning_to p set k) set k now
Mails p q set k now (WarnFailed t) = Queued p q (codes "probe") (probe_to set) set k now
Mails p q set k now (Warned t) = Unit {0}
Mails p q set k now (Probed t) = Unit {0}

-- where an entry that a ledger has after a step comes from: it was there before; a number was noted, of a member; the warning bounced;
-- or it was due, and its stage changed
pub data Origin (p q : Plain) (item : Item) (set : Set) (k : Text) (e : LedgerEntry) : Type 0 where
  Same : (found : find_entry k (ledger_of p set) ≡ Some e) → Origin p q item set k e
  Noted : (number : ℕ) (bounced : IsBounce p item set k number) (is : e ≡ noted number item.moment (entry_under k (ledger_of p set))) (member : has_key k (p.sets set) ≡ true) → Origin p q item set k e
  Failed : (t : ℕ) (bounced : IsWarningBounce p item set k t) (warned : (entry_under k (ledger_of p set)).stage ≡ Warned t)
      (is : e ≡ record (entry_under k (ledger_of p set)) { stage = WarnFailed item.moment }) → Origin p q item set k e
  Due : (timed : item.act ≡ Timed) (old : LedgerEntry) (found : find_entry k (ledger_of p set) ≡ Some old) (due : is_due item.moment old ≡ true)
      (is : e ≡ after_at item.moment old.stage old) (mails : Mails p q set k item.moment old.stage) → Origin p q item set k e

-- what a step does to the ledgers
pub record Traced (p q : Plain) (item : Item) : Type 0 where
  pub sorted : ((set : Set) → IsLedgerSorted (ledger_of p set)) → (set : Set) → IsLedgerSorted (ledger_of q set)
  pub origin : ((set : Set) → IsLedgerSorted (ledger_of p set)) → (set : Set) (k : Text) (e : LedgerEntry) → find_entry k (ledger_of q set) ≡ Some e → Origin p q item set k e
  pub stays : (set : Set) (k : Text) (e : LedgerEntry) → find_entry k (ledger_of q set) ≡ Some e → has_key k (p.sets set) ≡ true → has_key k (q.sets set) ≡ true

-- one that leaves ledgers and sets as they are
pub calm : (p q : Plain) (item : Item) → ((set : Set) → ledger_of q set ≡ ledger_of p set)
    → ((set : Set) (k : Text) → has_key k (p.sets set) ≡ true → has_key k (q.sets set) ≡ true) → Traced p q item
calm p q item ledgers members = record {
  sorted = λ h set. subst IsLedgerSorted (sym (ledgers set)) (h set);
  origin = λ h set k e found. Same (ap (find_entry k) (sym (ledgers set)) ∙ found);
  stays = λ set k e found there. members set k there;
}

-- ledgers by their sets
pub ledgers_of : (p q : Plain) → q.list_ledger ≡ p.list_ledger → q.digest_ledger ≡ p.digest_ledger → (set : Set) → ledger_of q set ≡ ledger_of p set
ledgers_of p q l d sets.List = l
ledgers_of p q l d sets.Digest = d
ledgers_of p q l d sets.Allow = refl
ledgers_of p q l d sets.Deny = refl
ledgers_of p q l d sets.Moderators = refl

pub calm_same : (p q : Plain) (item : Item) → q.list_ledger ≡ p.list_ledger → q.digest_ledger ≡ p.digest_ledger → q.sets ≡ p.sets → Traced p q item
calm_same p q item l d s = calm p q item (ledgers_of p q l d) (λ set k there. ap (λ all. has_key k (all set)) s ∙ there)

pub calm_grown : (p q : Plain) (item : Item) → q.list_ledger ≡ p.list_ledger → q.digest_ledger ≡ p.digest_ledger
    → ((set : Set) (k : Text) → has_key k (p.sets set) ≡ true → has_key k (q.sets set) ≡ true) → Traced p q item
calm_grown p q item l d members = calm p q item (ledgers_of p q l d) members

-- an entry that is found after one ledger was replaced: in the new one, or in that of another set
pub found_in : (p : Plain) (own set : Set) (ledger : Ledger) (k : Text) (e : LedgerEntry) → find_entry k (ledger_of (with_ledger_of own ledger p) set) ≡ Some e
    → ((set ≡ own) × (find_entry k ledger ≡ Some e)) ⊎ (((set_number set == set_number own) ≡ false) × (find_entry k (ledger_of p set) ≡ Some e))
found_in p sets.List sets.List ledger k e h = inl (refl, h)
found_in p sets.List sets.Digest ledger k e h = inr (refl, h)
found_in p sets.Digest sets.Digest ledger k e h = inl (refl, h)
found_in p sets.Digest sets.List ledger k e h = inr (refl, h)
found_in p sets.Allow sets.List ledger k e h = inr (refl, h)
found_in p sets.Allow sets.Digest ledger k e h = inr (refl, h)
found_in p sets.Deny sets.List ledger k e h = inr (refl, h)
found_in p sets.Deny sets.Digest ledger k e h = inr (refl, h)
found_in p sets.Moderators sets.List ledger k e h = inr (refl, h)
found_in p sets.Moderators sets.Digest ledger k e h = inr (refl, h)
found_in p own sets.Allow ledger k e h = absurd (let bad : None ≡ Some e = h in cc)
found_in p own sets.Deny ledger k e h = absurd (let bad : None ≡ Some e = h in cc)
found_in p own sets.Moderators ledger k e h = absurd (let bad : None ≡ Some e = h in cc)

pub sorted_in : (p : Plain) (own set : Set) (ledger : Ledger) → IsLedgerSorted ledger → IsLedgerSorted (ledger_of p set) → IsLedgerSorted (ledger_of (with_ledger_of own ledger p) set)
sorted_in p sets.List sets.List ledger h k = h
sorted_in p sets.List sets.Digest ledger h k = k
sorted_in p sets.Digest sets.Digest ledger h k = h
sorted_in p sets.Digest sets.List ledger h k = k
sorted_in p sets.Allow sets.List ledger h k = k
sorted_in p sets.Allow sets.Digest ledger h k = k
sorted_in p sets.Deny sets.List ledger h k = k
sorted_in p sets.Deny sets.Digest ledger h k = k
sorted_in p sets.Moderators sets.List ledger h k = k
sorted_in p sets.Moderators sets.Digest ledger h k = k
sorted_in p own sets.Allow ledger h k = refl
sorted_in p own sets.Deny ledger h k = refl
sorted_in p own sets.Moderators ledger h k = refl

own_number : (s : Set) → (set_number s == set_number s) ≡ true
own_number sets.List = refl
own_number sets.Digest = refl
own_number sets.Allow = refl
own_number sets.Deny = refl
own_number sets.Moderators = refl

-- a key other than the one that leaves stays, and so does any key in another set
pub key_stays : (p : Plain) (own : Set) (x : Text) (set : Set) (k : Text) → ((set ≡ own) × (k ≡ key x) → ⊥) → has_key k (p.sets set) ≡ true → has_key k ((removed own x p).sets set) ≡ true
key_stays p own x set k other there = go (has_key k ((removed own x p).sets set)) refl
  where
    go : (t : Bool) → has_key k ((removed own x p).sets set) ≡ t → has_key k ((removed own x p).sets set) ≡ true
    go true t = t
    go false t = absurd (other (leaves_removed p own x set k there t))

-- the list with only the set changed
abbrev less : Set → Text → Plain → Plain
less own x p = record p { sets = with_members own (without_member (key x) (p.sets own)) p.sets }

-- an address leaves a set
pub traced_removed : (p : Plain) (own : Set) (x : Text) (item : Item) → Traced p (removed own x p) item
traced_removed p own x item =
    let same : (set : Set) → ledger_of (less own x p) set ≡ ledger_of p set = ledgers_of p (less own x p) refl refl in
    let ledger = forget (key x) (ledger_of p own) in
    record {
      sorted = λ h set. sorted_in (less own x p) own set ledger (sorted_forget (key x) (ledger_of p own) (h own)) (subst IsLedgerSorted (sym (same set)) (h set));
      origin = λ h set k e found. elim (found_in (less own x p) own set ledger k e found) [
        | inl here ↦ Same (subst (λ s. find_entry k (ledger_of p s) ≡ Some e) (sym here.0) (found_forget k (key x) (ledger_of p own) e here.1).0)
        | inr other ↦ Same (ap (find_entry k) (sym (same set)) ∙ other.1)
      ];
      stays = λ set k e found there. elim (found_in (less own x p) own set ledger k e found) [
        | inl here ↦ key_stays p own x set k (λ both. (found_forget k (key x) (ledger_of p own) e here.1).1 both.1) there
        | inr other ↦ key_stays p own x set k (λ both. true≢false (sym (own_number own) ∙ ap (λ s. set_number s == set_number own) (sym both.0) ∙ other.0)) there
      ];
    }

-- an entry of a set takes the place of the one of its key
pub traced_changed : (p : Plain) (own : Set) (new : LedgerEntry) (item : Item)
    → Origin p (with_ledger_of own (with_ledger new (ledger_of p own)) p) item own new.key new
    → Traced p (with_ledger_of own (with_ledger new (ledger_of p own)) p) item
traced_changed p own new item from =
    let ledger = with_ledger new (ledger_of p own) in
    let q = with_ledger_of own ledger p in
    record {
      sorted = λ h set. sorted_in p own set ledger (sorted_changed new (ledger_of p own) (h own)) (h set);
      origin = λ h set k e found. elim (found_in p own set ledger k e found) [
        | inl here ↦ elim (found_changed k new (ledger_of p own) e here.1) [
          | inl one ↦ subst (λ s. Origin p q item s k e) (sym here.0) (subst (λ t. Origin p q item own t e) (sym one.0) (subst (λ f. Origin p q item own new.key f) (sym one.1) from))
          | inr old ↦ Same (subst (λ s. find_entry k (ledger_of p s) ≡ Some e) (sym here.0) old)
        ]
        | inr other ↦ Same other.1
      ];
      stays = λ set k e found there. ap (λ all. has_key k (all set)) (ledger_sets p own ledger) ∙ there;
    }

pub queued_grows : (p q r : Plain) (kind : Text) (mail : Text → Mail) (set : Set) (k : Text) (now : ℕ) → Mailed q r
    → Queued p q kind mail set k now → Queued p r kind mail set k now
queued_grows p q r kind mail set k now m h = record {
  number = h.number;
  who = h.who;
  is = h.is;
  spelled = h.spelled;
  there = subst (Elem (record { number = h.number; thing = bounce_entry p kind set k h.who now (mail h.who) })) (sym m.all)
      (elem_left (record { number = h.number; thing = bounce_entry p kind set k h.who now (mail h.who) }) q.queue.all _ h.there);
  since = h.since;
}

pub mails_grow : (p q r : Plain) (set : Set) (k : Text) (now : ℕ) (stage : Stage) → Mailed q r → Mails p q set k now stage → Mails p r set k now stage
mails_grow p q r set k now Unwarned m h = queued_grows p q r (codes "warn") (warning_to p set k) set k now m h
mails_grow p q r set k now (WarnFailed t) m h = queued_grows p q r (codes "probe") (probe_to set) set k now m h
mails_grow p q r set k now (Warned t) m h = tt
mails_grow p q r set k now (Probed t) m h = tt

pub origin_grows : (p q r : Plain) (item : Item) (set : Set) (k : Text) (e : LedgerEntry) → Mailed q r → Origin p q item set k e → Origin p r item set k e
origin_grows p q r item set k e m (Same found) = Same found
origin_grows p q r item set k e m (Noted number bounced is member) = Noted number bounced is member
origin_grows p q r item set k e m (Failed t bounced warned is) = Failed t bounced warned is
origin_grows p q r item set k e m (Due timed old found due is mails) = Due timed old found due is (mails_grow p q r set k item.moment old.stage m mails)

-- a step, and mail after it
pub traced_more : (p q r : Plain) (item : Item) → Traced p q item → Mailed q r → r.list_ledger ≡ q.list_ledger → r.digest_ledger ≡ q.digest_ledger → r.sets ≡ q.sets → Traced p r item
traced_more p q r item t m l d s =
    let same = ledgers_of q r l d in
    record {
      sorted = λ h set. subst IsLedgerSorted (sym (same set)) (t.sorted h set);
      origin = λ h set k e found. origin_grows p q r item set k e m (t.origin h set k e (ap (find_entry k) (sym (same set)) ∙ found));
      stays = λ set k e found there. ap (λ all. has_key k (all set)) s ∙ t.stays set k e (ap (find_entry k) (sym (same set)) ∙ found) there;
    }

-- the entry of a key has this key
pub under_key : (k : Text) (ledger : Ledger) → (entry_under k ledger).key ≡ k
under_key k ledger = go (find_entry k ledger) refl
  where
    keyed : (es : Ledger) (e : LedgerEntry) → find_entry k es ≡ Some e → e.key ≡ k
    keyed [] e is = absurd (let bad : None ≡ Some e = is in cc)
    keyed (f ∷ fs) e is = at (eq_by_cmp byte_cmp k f.key) refl (keyed fs e)
      where
        at : (t : Bool) → eq_by_cmp byte_cmp k f.key ≡ t → (find_entry k fs ≡ Some e → e.key ≡ k) → e.key ≡ k
        at true t more =
            let one : Some f ≡ Some e = sym (ap (λ t. cond t (Some f) (find_entry k fs)) t) ∙ is in
            let same : f ≡ e = cc in
            sym (ap (λ g. g.key) same) ∙ sym (tied_text k f.key t)
        at false t more = more (sym (ap (λ t. cond t (Some f) (find_entry k fs)) t) ∙ is)

    go : (o : Option LedgerEntry) → find_entry k ledger ≡ o → (unwrap_or o (no_entry k)).key ≡ k
    go None e = refl
    go (Some f) e = keyed ledger f e

-- What the puts that remove an address make of a list.
use Rattle.std.proofs.Common.{◌≡◌, ◌⊎◌, inl, inr, ℕ, ◌≤◌, Bool, true, false, eqb, leb, not, ◌&&◌, ◌||◌, List, ◌++◌, refl, sym, ap, ap₂, ◌∙◌, arith, subst}
use Rattle.std.proofs.lemmas.Bool.{and_parts, and_from, or_cases, or_left, or_right, eq-eqb, ne_eqb, eqb-true, le-leb}
use Rattle.ml_base.specs.Bytes.{Text}
use Rattle.ml_base.specs.Address.{key}
use Rattle.ml_base.specs.Name.{set_kind, set_number}
use Rattle.ml_base.specs.Dir.{Dir, same_name, with_puts, touches_only}
use Rattle.ml_base.specs.declared.names.Name.{Name}
use Rattle.ml_base.specs.declared.names.Set.{Set}
use Rattle.ml_base.specs.declared.names.Set.TheVariants as sets
use Rattle.ml_base.specs.declared.puts.Put.{Put}
use Rattle.ml_base.proofs.Laid.{laid_joined, left_alone}
use Rattle.ml_bounce.specs.Answers.{has_ledger, key_file, ledger_kind}
use Rattle.ml_bounce.specs.Files.{IsLedger, bucket_of}
use Rattle.ml_bounce.specs.Ledger.{Ledger, forget}
use Rattle.ml_subs.specs.Members.{without_member}
use Rattle.ml_subs.specs.Subscribers.{AreSubscribers, is_touched, bucket_name, count_name}
use Rattle.ml_subs.proofs.Represented.{few_sets}
use Rattle.ml_plain.specs.Directory.{IsList, list_ledger_kinds, digest_ledger_kinds}
use Rattle.ml_plain.specs.Plain.{Plain, with_members, removed}
use Rattle.ml_plain.proofs.Changes.{members_changed}
use Rattle.ml_plain.proofs.PartChanges.{list_ledger_changed, digest_ledger_changed}
use Rattle.ml_acts.specs.Doing.{is_beside_mark, is_beside_queue, is_changed_for, is_entry_of, is_left_by, is_of_queue, without_entry}
use Rattle.ml_acts.proofs.Queued.{beside_mail, queue_beside, touches_both, touches_weaker}

-- a kind below the queue's that isn't the mark's
beside_kind : (k : ℕ) → 3 ≤ k → k ≤ 16 → (k ≡ 12 → ⊥) → ((((leb 3 k && leb k 18) || eqb k 20) && not (eqb k 12)) && not (eqb k 17 || eqb k 18)) ≡ true
beside_kind k least most apart =
    and_from _ _
    (and_from _ _ (ap (λ (b : Bool). b || eqb k 20) (and_from (leb 3 k) (leb k 18) (le-leb 3 k least) (le-leb k 18 (omega (arith, most))))) (ap not (ne_eqb k 12 apart)))
    (ap₂ (λ (a b : Bool). not (a || b)) (ne_eqb k 17 (λ e. omega (arith, e, most))) (ne_eqb k 18 (λ e. omega (arith, e, most))))

-- the files of a set that are touched
touched_kind : (set : Set) (k : Text) (name : Name) → is_touched set k name ≡ true → (3 ≤ name.kind) × (name.kind ≤ 8)
touched_kind set k name e = go (or_cases (same_name name (bucket_name set (bucket_of k))) (same_name name (count_name set)) e)
  where
    go : ((same_name name (bucket_name set (bucket_of k)) ≡ true) ⊎ (same_name name (count_name set) ≡ true)) → (3 ≤ name.kind) × (name.kind ≤ 8)
    go (inl b) =
        let kind = eqb-true name.kind (set_kind set) (and_parts (eqb name.kind (set_kind set)) (eqb name.at (bucket_of k)) b).0 in
        let few = few_sets set in (omega (arith, kind, few), omega (arith, kind, few))
    go (inr c) = let kind = eqb-true name.kind 8 (and_parts (eqb name.kind 8) (eqb name.at (set_number set)) c).0 in (omega (arith, kind), omega (arith, kind))

pub touched_beside : (set : Set) (k : Text) (name : Name) → is_touched set k name ≡ true → is_beside_queue name ≡ true
touched_beside set k name e = let kind = touched_kind set k name e in let low = kind.0 in let high = kind.1 in beside_kind name.kind low (omega (arith, high)) (λ same. omega (arith, same, high))

pub touched_own : (set : Set) (k : Text) (puts : List Put) → touches_only (is_touched set k) puts ≡ true → touches_only is_beside_queue puts ≡ true
touched_own set k puts only = touches_weaker (is_touched set k) is_beside_queue puts (touched_beside set k) only

-- so are those that change when an address leaves
pub touched_left : (set : Set) (who : Text) (puts : List Put) → touches_only (is_touched set (key who)) puts ≡ true → touches_only (is_left_by set who) puts ≡ true
touched_left set who puts only = touches_weaker (is_touched set (key who)) (is_left_by set who) puts (λ name e. or_left (is_touched set (key who) name) (is_entry_of set who name) e) only

-- the list without an address, and then without the entry in the ledger
abbrev left_by : Set → Text → Plain → Plain
left_by set who p = record p { sets = with_members set (without_member (key who) (p.sets set)) p.sets }

removed_is : (set : Set) (who : Text) (p : Plain) → without_entry set who (left_by set who p) ≡ removed set who p
removed_is sets.List who p = refl
removed_is sets.Digest who p = refl
removed_is sets.Allow who p = refl
removed_is sets.Deny who p = refl
removed_is sets.Moderators who p = refl

-- the puts that leave the set without an address, and those after them
pub removed_list : (dir : Dir) (p : Plain) (set : Set) (who : Text) (txn done : List Put) → IsList dir p → AreSubscribers (with_puts dir txn) set (without_member (key who) (p.sets set))
    → touches_only (is_touched set (key who)) txn ≡ true → ((r : Plain) → IsList (with_puts dir txn) r → IsList (with_puts dir done) (without_entry set who r)) → IsList (with_puts dir done) (removed set who p)
removed_list dir p set who txn done is now only after =
    subst (λ (q : Plain). IsList (with_puts dir done) q) (removed_is set who p) (after (left_by set who p) (members_changed dir p set (key who) txn (without_member (key who) (p.sets set)) is only now))

-- the files of a set's ledger that are touched are the list's
pub entry_kind : (set : Set) (k : Text) (name : Name) → same_name name (key_file set k) ≡ true → name.kind ≡ ledger_kind set
entry_kind set k name e = eqb-true name.kind (ledger_kind set) (and_parts (eqb name.kind (ledger_kind set)) (eqb name.at (bucket_of k)) e).0

ledger_kinds : (set : Set) → has_ledger set ≡ true → (15 ≤ ledger_kind set) × (ledger_kind set ≤ 16)
ledger_kinds sets.List has = (omega arith, omega arith)
ledger_kinds sets.Digest has = (omega arith, omega arith)
ledger_kinds sets.Allow has = absurd (let bad : false ≡ true = has in cc)
ledger_kinds sets.Deny has = absurd (let bad : false ≡ true = has in cc)
ledger_kinds sets.Moderators has = absurd (let bad : false ≡ true = has in cc)

pub entry_own : (set : Set) (k : Text) → has_ledger set ≡ true → (name : Name) → same_name name (key_file set k) ≡ true → is_beside_queue name ≡ true
entry_own set k has name e =
    let kind = entry_kind set k name e in
    let kinds = ledger_kinds set has in
    let low = kinds.0 in
    let high = kinds.1 in beside_kind name.kind (omega (arith, kind, low)) (omega (arith, kind, high)) (λ same. omega (arith, same, kind, low))

-- all that changes when an address leaves
pub left_beside : (set : Set) (who : Text) (name : Name) → is_left_by set who name ≡ true → is_beside_queue name ≡ true
left_beside set who name e = go (or_cases (is_touched set (key who) name) (is_entry_of set who name) e)
  where
    go : ((is_touched set (key who) name ≡ true) ⊎ (is_entry_of set who name ≡ true)) → is_beside_queue name ≡ true
    go (inl t) = touched_beside set (key who) name t
    go (inr l) = let parts = and_parts (has_ledger set) (same_name name (key_file set (key who))) l in entry_own set (key who) parts.0 name parts.1

-- and what may change for an address in a set
pub changed_beside : (set : Set) (who : Text) (name : Name) → is_changed_for set who name ≡ true → is_beside_mark name ≡ true
changed_beside set who name e = go (or_cases (is_left_by set who name) (is_of_queue name) e)
  where
    go : ((is_left_by set who name ≡ true) ⊎ (is_of_queue name ≡ true)) → is_beside_mark name ≡ true
    go (inl l) = beside_mail name (left_beside set who name l)
    go (inr q) = queue_beside name q

pub queue_changed_for : (set : Set) (who : Text) (name : Name) → is_of_queue name ≡ true → is_changed_for set who name ≡ true
queue_changed_for set who name e = or_right (is_left_by set who name) (is_of_queue name) e

pub left_changed_for : (set : Set) (who : Text) (puts : List Put) → touches_only (is_left_by set who) puts ≡ true → touches_only (is_changed_for set who) puts ≡ true
left_changed_for set who puts only = touches_weaker (is_left_by set who) (is_changed_for set who) puts (λ name e. or_left (is_left_by set who name) (is_of_queue name) e) only

-- a set without a ledger
pub nothing_forgotten : (dir : Dir) (set : Set) (who : Text) (p : Plain) → has_ledger set ≡ false → IsList dir p → IsList dir (without_entry set who p)
nothing_forgotten dir sets.List who p none is = absurd (let bad : true ≡ false = none in cc)
nothing_forgotten dir sets.Digest who p none is = absurd (let bad : true ≡ false = none in cc)
nothing_forgotten dir sets.Allow who p none is = is
nothing_forgotten dir sets.Deny who p none is = is
nothing_forgotten dir sets.Moderators who p none is = is

-- what the puts by which a ledger forgets a key make of it, in every directory that has its file as it was
abbrev Forgets : Dir → Set → Text → List Put → Type 0
Forgets dir set k more = (now : Dir) (ledger : Ledger) → now (key_file set k) ≡ dir (key_file set k) → IsLedger now (ledger_kind set) ledger → IsLedger (with_puts now more) (ledger_kind set) (forget k ledger)

module _ (dir : Dir) (who : Text) (p : Plain) (txn more done : List Put) where
  joined : done ≡ txn ++ more → (q : Plain) → IsList (with_puts (with_puts dir txn) more) q → IsList (with_puts dir done) q
  joined e q is = subst (λ (d : Dir). IsList d q) (sym (ap (λ (t : List Put). with_puts dir t) e ∙ laid_joined dir txn more)) is

  -- a set with one
  pub entry_forgotten : (set : Set) → has_ledger set ≡ true → IsList (with_puts dir txn) p → touches_only (is_touched set (key who)) txn ≡ true → Forgets dir set (key who) more
      → touches_only (λ name. same_name name (key_file set (key who))) more ≡ true → done ≡ txn ++ more → IsList (with_puts dir done) (without_entry set who p)
  entry_forgotten sets.List has is only forgets others e =
      joined e _ (list_ledger_changed (with_puts dir txn) p more (forget (key who) p.list_ledger) is
      (touches_weaker (λ name. same_name name (key_file sets.List (key who))) (λ name. list_ledger_kinds name.kind) more (λ name same. eq-eqb name.kind 15 (entry_kind sets.List (key who) name same)) others)
      (forgets (with_puts dir txn) p.list_ledger (left_alone (is_touched sets.List (key who)) dir txn (key_file sets.List (key who)) only refl) is.list_ledger))
  entry_forgotten sets.Digest has is only forgets others e =
      joined e _ (digest_ledger_changed (with_puts dir txn) p more (forget (key who) p.digest_ledger) is
      (touches_weaker (λ name. same_name name (key_file sets.Digest (key who))) (λ name. digest_ledger_kinds name.kind) more (λ name same. eq-eqb name.kind 16 (entry_kind sets.Digest (key who) name same)) others)
      (forgets (with_puts dir txn) p.digest_ledger (left_alone (is_touched sets.Digest (key who)) dir txn (key_file sets.Digest (key who)) only refl) is.digest_ledger))
  entry_forgotten sets.Allow has is only forgets others e = absurd (let bad : false ≡ true = has in cc)
  entry_forgotten sets.Deny has is only forgets others e = absurd (let bad : false ≡ true = has in cc)
  entry_forgotten sets.Moderators has is only forgets others e = absurd (let bad : false ≡ true = has in cc)

-- all these puts
pub both_own : (who : Text) (txn more done : List Put) (set : Set) → has_ledger set ≡ true → touches_only (is_touched set (key who)) txn ≡ true
    → touches_only (λ name. same_name name (key_file set (key who))) more ≡ true → done ≡ txn ++ more → touches_only is_beside_queue done ≡ true
both_own who txn more done set has only others e =
    ap (touches_only is_beside_queue) e
    ∙ touches_both is_beside_queue txn more (touched_own set (key who) txn only) (touches_weaker (λ name. same_name name (key_file set (key who))) is_beside_queue more (entry_own set (key who) has) others)

pub both_left : (who : Text) (txn more done : List Put) (set : Set) → has_ledger set ≡ true → touches_only (is_touched set (key who)) txn ≡ true
    → touches_only (λ name. same_name name (key_file set (key who))) more ≡ true → done ≡ txn ++ more → touches_only (is_left_by set who) done ≡ true
both_left who txn more done set has only others e =
    ap (touches_only (is_left_by set who)) e
    ∙ touches_both (is_left_by set who) txn more (touched_left set who txn only)
    (touches_weaker (λ name. same_name name (key_file set (key who))) (is_left_by set who) more
    (λ name same. or_right (is_touched set (key who) name) (is_entry_of set who name) (and_from (has_ledger set) (same_name name (key_file set (key who))) has same)) others)

-- the configuration of a list that an address leaves
pub removed_config : (set : Set) (who : Text) (p : Plain) → (removed set who p).config ≡ p.config
removed_config sets.List who p = refl
removed_config sets.Digest who p = refl
removed_config sets.Allow who p = refl
removed_config sets.Deny who p = refl
removed_config sets.Moderators who p = refl

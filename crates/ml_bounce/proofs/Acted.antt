-- How doing what is due for an entry changes its ledger.
use Rattle.std.proofs.Common.{◌≡◌, ◌<◌, ℕ, Bool, true, false, cond, ◌&&◌, List, Option, Some, None, refl, sym, ap, ◌∙◌, subst, arith}
use Rattle.std.specs.Prelude.{unwrap_or}
use Rattle.ml_base.specs.Address.{IsAddress}
use Rattle.ml_base.specs.Bytes.{Text, lower}
use Rattle.ml_base.specs.Dir.{Dir, touches_only, with_puts}
use Rattle.ml_base.specs.declared.names.Name.{Name}
use Rattle.ml_base.specs.declared.names.Set.{Set}
use Rattle.ml_base.specs.declared.puts.Put.{Put}
use Rattle.ml_bounce.specs.Answers.{ledger_kind, key_file, IsBucketOf, writes, acts, acts_for}
use Rattle.ml_bounce.specs.Changes.{act, after_at}
use Rattle.ml_bounce.specs.Files.{IsLedger, bucket_of}
use Rattle.ml_bounce.specs.Ledger.{Ledger, LedgerEntry, Stage, Unwarned, Warned, WarnFailed, Probed, find_entry, no_entry, with_ledger, forget, settle, is_blank_at}
use Rattle.ml_bounce.proofs.Changed.{found_there, forgotten_there}
use Rattle.ml_bounce.proofs.Leading.{IsKnown, known, put_known, under_key, moment, IsPut}

-- the entry that is found for a key has this key
pub found_key : (k : Text) (es : Ledger) (e : LedgerEntry) → find_entry k es ≡ Some e → e.key ≡ k
found_key k es e found = sym (ap (λ (o : Option LedgerEntry). (unwrap_or o (no_entry k)).key) found) ∙ under_key k es

pub after_key : (now : ℕ) (s : Stage) (e : LedgerEntry) → (after_at now s e).key ≡ e.key
after_key now Unwarned e = refl
after_key now (Warned t) e = refl
after_key now (WarnFailed t) e = refl
after_key now (Probed t) e = refl

after_known : (k : Text) (now : ℕ) (s : Stage) (e : LedgerEntry) → now < 253_402_300_800 → IsKnown k e → IsKnown k (after_at now s e)
after_known k now Unwarned e less is = record { key = is.key; address = is.address; lowered = is.lowered; first = refl; stage = moment now less; few = omega arith; missed = tt; distinct = refl; no_first = λ none. refl }
after_known k now (Warned t) e less is = record { key = is.key; address = is.address; lowered = is.lowered; first = is.first; stage = refl; few = is.few; missed = is.missed; distinct = is.distinct; no_first = is.no_first }
after_known k now (WarnFailed t) e less is = record { key = is.key; address = is.address; lowered = is.lowered; first = is.first; stage = moment now less; few = is.few; missed = is.missed; distinct = is.distinct; no_first = is.no_first }
after_known k now (Probed t) e less is = record { key = is.key; address = is.address; lowered = is.lowered; first = is.first; stage = refl; few = is.few; missed = is.missed; distinct = is.distinct; no_first = is.no_first }

settled_leads : (dir : Dir) (set : Set) (k : Text) (bucket ledger : Ledger) (e : LedgerEntry) → IsKnown k e → IsBucketOf dir set k bucket → IsLedger dir (ledger_kind set) ledger → IsPut dir set k (settle e bucket) (settle e ledger)
settled_leads dir set k bucket ledger e is file stands = go (is_blank_at e.stage e.missed) refl
  where
    go : (t : Bool) → is_blank_at e.stage e.missed ≡ t → IsPut dir set k (settle e bucket) (settle e ledger)
    go true blank =
        subst (λ t. IsPut dir set k (cond t (forget e.key bucket) (with_ledger e bucket)) (cond t (forget e.key ledger) (with_ledger e ledger))) (sym blank)
        (subst (λ (a : Text). IsPut dir set k (forget a bucket) (forget a ledger)) (sym is.key) (forgotten_there dir (ledger_kind set) ledger bucket k stands file))
    go false some =
        subst (λ t. IsPut dir set k (cond t (forget e.key bucket) (with_ledger e bucket)) (cond t (forget e.key ledger) (with_ledger e ledger))) (sym some)
        (put_known dir set k bucket ledger e is some file stands)

-- an act that is computed from the key's file does the same to the whole ledger
pub acted_leads : (dir : Dir) (set : Set) (k : Text) (now : ℕ) (bucket ledger : Ledger) (e : LedgerEntry) (txn : List Put) → IsAddress k → lower k ≡ k → now < 253_402_300_800 → IsBucketOf dir set k bucket → IsLedger dir (ledger_kind set) ledger
    → find_entry k ledger ≡ Some e → txn ≡ acts set k now bucket → IsLedger (with_puts dir txn) (ledger_kind set) (act now e ledger)
acted_leads dir set k now bucket ledger e txn address low less file stands found is =
    let here : find_entry k bucket ≡ Some e = sym (found_there dir (ledger_kind set) ledger bucket k stands file) ∙ found in
    let own = known k (bucket_of k) (dir (key_file set k)) bucket address low file in
    let entry : IsKnown k e = subst (λ (o : Option LedgerEntry). IsKnown k (unwrap_or o (no_entry k))) here own in
    subst (λ (t : List Put). IsLedger (with_puts dir t) (ledger_kind set) (act now e ledger)) (sym (is ∙ ap (acts_for set k now bucket) here))
    (settled_leads dir set k bucket ledger (after_at now e.stage e) (after_known k now e.stage e less entry) file stands)

-- what was done to one entry is what the call answers
pub acted_made : (set : Set) (k : Text) (es : Ledger) (now : ℕ) (e new : LedgerEntry) (txn : List Put) → Some e ≡ find_entry k es → new ≡ after_at now e.stage e → txn ≡ writes set new.key (settle new es) → txn ≡ acts set k now es
acted_made set k es now e new txn found made put =
    let named : new.key ≡ k = ap (λ (f : LedgerEntry). f.key) made ∙ after_key now e.stage e ∙ found_key k es e (sym found) in
    put ∙ ap (λ (a : Text). writes set a (settle new es)) named ∙ ap (λ (f : LedgerEntry). writes set k (settle f es)) made ∙ ap (acts_for set k now es) found

-- an act touches the key's file alone
pub acts_only : (test : Name → Bool) (set : Set) (k : Text) (now : ℕ) (bucket : Ledger) (txn : List Put) → test (key_file set k) ≡ true → txn ≡ acts set k now bucket → touches_only test txn ≡ true
acts_only test set k now bucket txn passes is = ap (touches_only test) is ∙ go (find_entry k bucket)
  where
    go : (o : Option LedgerEntry) → touches_only test (acts_for set k now bucket o) ≡ true
    go None = refl
    go (Some e) = ap (λ t. t && true) passes

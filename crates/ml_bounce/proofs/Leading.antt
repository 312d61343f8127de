-- A change that is computed from one file of a ledger does the same to the whole ledger.
use Rattle.std.proofs.Common.{◌≡◌, ◌<◌, ◌≤◌, ℕ, Bool, true, false, cond, not, ◌==◌, ◌&&◌, List, [], ◌∷◌, ◌++◌, length, Option, Some, None, is_some, refl, sym, ap, ◌∙◌, subst, arith, length-append}
use Rattle.std.specs.Prelude.{IsTrue, unwrap_or}
use Rattle.std.specs.Option.{option_map}
use Rattle.std.specs.Ordering.{eq_by_cmp}
use Rattle.std.specs.List.{AllByRecursion, list_any}
use Rattle.std.proofs.lemmas.Bool.{false≢true, eqb-false, ne_eqb, lt-ltb, ltb-true, and_parts, and_from, or_parts, or_from}
use Rattle.std.proofs.lemmas.Slice.Eq.{bytes_eq-Decides}
use Rattle.ml_base.specs.Address.{IsAddress, key}
use Rattle.ml_base.specs.Bytes.{Text, lower, is_empty}
use Rattle.ml_base.specs.Dir.{Dir, touches_only, with_puts}
use Rattle.ml_base.specs.Ranges.{is_moment}
use Rattle.ml_base.specs.Sorted.{byte_cmp}
use Rattle.ml_base.specs.declared.names.Name.{Name}
use Rattle.ml_base.specs.declared.names.Set.{Set}
use Rattle.ml_base.specs.declared.puts.Put.{Put}
use Rattle.ml_base.proofs.SortedLaws.{found_is}
use Rattle.ml_base.proofs.BelowLemmas.{same_key}
use Rattle.ml_bounce.specs.Answers.{ledger_kind, key_file, IsBucketOf, IsInRange, LeadsTo, bounced, puts_of, writes}
use Rattle.ml_bounce.specs.declared.bounces.Bounce.{Bounce}
use Rattle.ml_bounce.specs.declared.bounces.Bounce.TheVariants as bounces
use Rattle.ml_bounce.specs.Changes.{can_note, noted, is_warned, is_probed, probe_failed}
use Rattle.ml_bounce.specs.Files.{IsLedger, IsLedgerFile, IsEntry, is_stage, are_distinct, bucket_of}
use Rattle.ml_bounce.specs.Ledger.{Ledger, LedgerEntry, Stage, Unwarned, Warned, WarnFailed, Probed, find_entry, entry_under, no_entry, with_ledger, forget, is_blank_at}
use Rattle.ml_bounce.proofs.Changed.{found_there, forgotten_there, put_there}
use Rattle.ml_bounce.proofs.Folded.{none_capital}
use Rattle.ml_keyed.proofs.Keys.{own_key}
use Rattle.ml_bounce.proofs.Exact.{not_false}

pub lowered_key : (who : Text) → lower (key who) ≡ key who
lowered_key who = own_key (lower who) (none_capital who)

-- the entry under a key has that key
pub under_key : (k : Text) (es : Ledger) → (entry_under k es).key ≡ k
under_key k [] = refl
under_key k (e ∷ es) = go (eq_by_cmp byte_cmp k e.key) refl (under_key k es)
  where
    go : (t : Bool) → eq_by_cmp byte_cmp k e.key ≡ t → (entry_under k es).key ≡ k → (unwrap_or (cond t (Some e) (find_entry k es)) (no_entry k)).key ≡ k
    go true is more = sym ((bytes_eq-Decides k e.key).0 (sym (same_key k e.key) ∙ is))
    go false is more = more

-- an entry of a key that a file can spell, if it has something to remember
pub record IsKnown (k : Text) (e : LedgerEntry) : Type 0 where
  pub key : e.key ≡ k
  pub address : IsAddress k
  pub lowered : lower k ≡ k
  pub first : IsTrue (is_moment e.first)
  pub stage : IsTrue (is_stage e.stage)
  pub few : length e.missed ≤ 100
  pub missed : AllByRecursion (λ m. m ≤ 99_999_999) e.missed
  pub distinct : are_distinct e.missed ≡ true
  pub no_first : is_empty e.missed ≡ true → e.first ≡ 0

-- the entry that a file has under a key is such an entry
pub known : (k : Text) (n : ℕ) (file : Option Text) (es : Ledger) → IsAddress k → lower k ≡ k → IsLedgerFile n file es → IsKnown k (entry_under k es)
known k n file es address low is = go (find_entry k es) refl
  where
    go : (o : Option LedgerEntry) → find_entry k es ≡ o → IsKnown k (entry_under k es)
    go None found = subst (λ (o : Option LedgerEntry). IsKnown k (unwrap_or o (no_entry k))) (sym found)
        record { key = refl; address = address; lowered = low; first = refl; stage = refl; few = omega arith; missed = tt; distinct = refl; no_first = λ none. refl }
    go (Some e) found =
        let own = found_is byte_cmp (λ (f : LedgerEntry). f.key) (IsEntry n) k e es is.each found in
        let entry : IsEntry n e = own.0 in
        let named = sym (ap (λ (o : Option LedgerEntry). (unwrap_or o (no_entry k)).key) found) ∙ under_key k es in
        subst (λ (o : Option LedgerEntry). IsKnown k (unwrap_or o (no_entry k))) (sym found)
        record { key = named; address = address; lowered = low; first = entry.first; stage = entry.stage; few = entry.few; missed = entry.missed; distinct = entry.distinct; no_first = entry.no_first }

abbrev pub IsPut : Dir → Set → Text → Ledger → Ledger → Type 0
IsPut dir set k bucket ledger = IsLedger (with_puts dir (writes set k bucket)) (ledger_kind set) ledger

-- an entry with something to remember is put into a ledger by way of its key's file
pub put_known : (dir : Dir) (set : Set) (k : Text) (bucket ledger : Ledger) (e : LedgerEntry) → IsKnown k e → is_blank_at e.stage e.missed ≡ false → IsBucketOf dir set k bucket → IsLedger dir (ledger_kind set) ledger
    → IsLedger (with_puts dir (writes set k (with_ledger e bucket))) (ledger_kind set) (with_ledger e ledger)
put_known dir set k bucket ledger e is some file stands =
    let low : lower e.key ≡ e.key = ap lower is.key ∙ is.lowered ∙ sym is.key in
    let entry : IsEntry (bucket_of e.key) e = record {
      address = subst (λ (a : Text). IsAddress a) (sym is.key) is.address;
      lowered = low;
      hashed = refl;
      first = is.first;
      stage = is.stage;
      few = is.few;
      missed = is.missed;
      distinct = is.distinct;
      no_first = is.no_first;
      remembers = some;
    } in
    let there = subst (λ (a : Text). IsBucketOf dir set a bucket) (sym is.key) file in
    subst (λ (a : Text). IsPut dir set a (with_ledger e bucket) (with_ledger e ledger)) is.key (put_there dir (ledger_kind set) ledger bucket e stands entry there)

any_push : (p : ℕ → Bool) (xs : List ℕ) (x : ℕ) → list_any p xs ≡ false → p x ≡ false → list_any p (xs ++ x ∷ []) ≡ false
any_push p [] x none is = or_from _ _ is refl
any_push p (y ∷ ys) x none is = let parts = or_parts (p y) (list_any p ys) none in or_from _ _ parts.0 (any_push p ys x parts.1 is)

-- a number is added that isn't there yet
distinct_push : (ms : List ℕ) (n : ℕ) → are_distinct ms ≡ true → list_any (λ m. m == n) ms ≡ false → are_distinct (ms ++ n ∷ []) ≡ true
distinct_push [] n all none = refl
distinct_push (m ∷ ms) n all none =
    let parts = and_parts (not (list_any (λ x. x == m) ms)) (are_distinct ms) all in
    let others = or_parts (m == n) (list_any (λ x. x == n) ms) none in
    and_from _ _ (ap not (any_push (λ x. x == m) ms n (not_false _ parts.0) (ne_eqb n m (λ same. eqb-false m n others.0 (sym same))))) (distinct_push ms n parts.1 others.1)

each_push : (P : ℕ → Type 0) (xs : List ℕ) (x : ℕ) → AllByRecursion P xs → P x → AllByRecursion P (xs ++ x ∷ [])
each_push P [] x all is = (is, tt)
each_push P (y ∷ ys) x all is = (all.0, each_push P ys x all.1 is)

push_some : (xs : List ℕ) (x : ℕ) → is_empty (xs ++ x ∷ []) ≡ false
push_some [] x = refl
push_some (y ∷ ys) x = refl

blank_none : (s : Stage) (xs : List ℕ) → is_empty xs ≡ false → is_blank_at s xs ≡ false
blank_none Unwarned xs e = e
blank_none (Warned t) xs e = refl
blank_none (WarnFailed t) xs e = refl
blank_none (Probed t) xs e = refl

pub moment : (t : ℕ) → t < 253_402_300_800 → IsTrue (is_moment t)
moment t less = lt-ltb t 253_402_300_800 less

first_of : (b : Bool) (now first : ℕ) → IsTrue (is_moment now) → IsTrue (is_moment first) → IsTrue (is_moment (cond b now first))
first_of true now first p q = p
first_of false now first p q = q

-- an entry with one more missed number
noted_known : (k : Text) (number now : ℕ) (e : LedgerEntry) → IsKnown k e → can_note number e ≡ true → number ≤ 99_999_999 → now < 253_402_300_800 → IsKnown k (noted number now e)
noted_known k number now e is can small less =
    let parts = and_parts (not (list_any (λ n. n == number) e.missed)) _ can in
    let room : length e.missed < 100 = ltb-true (length e.missed) 100 parts.1 in
    let size = length-append e.missed (number ∷ []) in
    record {
      key = is.key;
      address = is.address;
      lowered = is.lowered;
      first = first_of (is_empty e.missed) now e.first (moment now less) is.first;
      stage = is.stage;
      few = omega (arith, room, size);
      missed = each_push (λ m. m ≤ 99_999_999) e.missed number is.missed small;
      distinct = distinct_push e.missed number is.distinct (not_false _ parts.0);
      no_first = λ none. absurd (false≢true (sym (push_some e.missed number) ∙ none));
    }

-- an entry whose warning bounced
abbrev warn_failed_at : ℕ → LedgerEntry → LedgerEntry
warn_failed_at now e = record e { stage = WarnFailed now }

warned_known : (k : Text) (now : ℕ) (e : LedgerEntry) → IsKnown k e → now < 253_402_300_800 → IsKnown k (warn_failed_at now e)
warned_known k now e is less =
    record { key = is.key; address = is.address; lowered = is.lowered; first = is.first; stage = moment now less; few = is.few; missed = is.missed; distinct = is.distinct; no_first = is.no_first }

-- a ledger whose entry of a key is changed, if it passes a test
abbrev if_entry : (LedgerEntry → Bool) → (LedgerEntry → LedgerEntry) → Text → Ledger → Option Ledger
if_entry test make k es = cond (test (entry_under k es)) (Some (with_ledger (make (entry_under k es)) es)) None

-- if the test holds, the answer leads to the new ledger, and otherwise there is none
lead_if : (dir : Dir) (set : Set) (k : Text) (b : Bool) (bucket ledger : Ledger) → (b ≡ true → IsPut dir set k bucket ledger) → LeadsTo dir set (option_map (writes set k) (cond b (Some bucket) None)) (cond b (Some ledger) None)
lead_if dir set k true bucket ledger h = h refl
lead_if dir set k false bucket ledger h = tt

module _ (dir : Dir) (set : Set) (k : Text) (bucket ledger : Ledger) (file : IsBucketOf dir set k bucket) (stands : IsLedger dir (ledger_kind set) ledger) where
  pub same_under : entry_under k bucket ≡ entry_under k ledger
  same_under = ap (λ (o : Option LedgerEntry). unwrap_or o (no_entry k)) (sym (found_there dir (ledger_kind set) ledger bucket k stands file))

  -- a change of the key's entry that keeps it one that a file can spell, and leaves something to remember
  entry_leads : (test : LedgerEntry → Bool) (make : LedgerEntry → LedgerEntry) (answer : Option (List Put)) → IsAddress k → lower k ≡ k
      → ((e : LedgerEntry) → IsKnown k e → test e ≡ true → IsKnown k (make e) × (is_blank_at (make e).stage (make e).missed ≡ false))
      → answer ≡ option_map (writes set k) (if_entry test make k bucket) → LeadsTo dir set answer (if_entry test make k ledger)
  entry_leads test make answer address low keeps is =
      let e = entry_under k bucket in
      let here = known k (bucket_of k) (dir (key_file set k)) bucket address low file in
      subst (λ (a : Option (List Put)). LeadsTo dir set a (if_entry test make k ledger)) (sym is)
      (subst (λ (f : LedgerEntry). LeadsTo dir set (option_map (writes set k) (if_entry test make k bucket)) (cond (test f) (Some (with_ledger (make f) ledger)) None)) same_under
      (lead_if dir set k (test e) (with_ledger (make e) bucket) (with_ledger (make e) ledger) (λ passed. let new = keeps e here passed in put_known dir set k bucket ledger (make e) new.0 new.1 file stands)))

  probed_leads : (t : ℕ) (answer : Option (List Put)) → answer ≡ option_map (writes set k) (probe_failed k t bucket) → LeadsTo dir set answer (probe_failed k t ledger)
  probed_leads t answer is =
      let e = entry_under k bucket in
      subst (λ (a : Option (List Put)). LeadsTo dir set a (probe_failed k t ledger)) (sym is)
      (subst (λ (f : LedgerEntry). LeadsTo dir set (option_map (writes set k) (probe_failed k t bucket)) (cond (is_probed t f.stage) (Some (forget k ledger)) None)) same_under
      (lead_if dir set k (is_probed t e.stage) (forget k bucket) (forget k ledger) (λ _. forgotten_there dir (ledger_kind set) ledger bucket k stands file)))

  pub bounced_leads : (bounce : Bounce) (answer : Option (List Put)) → IsAddress k → lower k ≡ k → IsInRange bounce → answer ≡ option_map (writes set k) (bounced bounce k bucket) → LeadsTo dir set answer (bounced bounce k ledger)
  bounced_leads (bounces.Mail number now) answer address low range is =
      entry_leads (can_note number) (noted number now) answer address low
      (λ e here can. (noted_known k number now e here can range.0 range.1, blank_none e.stage (e.missed ++ number ∷ []) (push_some e.missed number))) is
  bounced_leads (bounces.Warning t now) answer address low range is =
      entry_leads (λ (e : LedgerEntry). is_warned t e.stage) (warn_failed_at now) answer address low (λ e here warned. (warned_known k now e here range, refl)) is
  bounced_leads (bounces.Probe t) answer address low range is = probed_leads t answer is

  -- whether a probe's bounce takes the key's entry out is seen in the key's file
  pub probed_there : (t : ℕ) → is_some (probe_failed k t bucket) ≡ is_some (probe_failed k t ledger)
  probed_there t = ap (λ (e : LedgerEntry). is_some (cond (is_probed t e.stage) (Some (forget k bucket)) None)) same_under ∙ some_either (is_probed t (entry_under k ledger).stage)
    where
      some_either : (b : Bool) → is_some (cond b (Some (forget k bucket)) None) ≡ is_some (cond b (Some (forget k ledger)) None)
      some_either true = refl
      some_either false = refl

pub probed_some : (k : Text) (t : ℕ) (es : Ledger) (b : Bool) → b ≡ is_probed t (entry_under k es).stage → b ≡ is_some (probe_failed k t es)
probed_some k t es b is = go b ∙ ap (λ c. is_some (cond c (Some (forget k es)) None)) is
  where
    go : (c : Bool) → c ≡ is_some (cond c (Some (forget k es)) None)
    go true = refl
    go false = refl

-- an answer touches the key's file alone
pub answer_only : (test : Name → Bool) (set : Set) (k : Text) (o : Option Ledger) (answer : Option (List Put)) → test (key_file set k) ≡ true → answer ≡ option_map (writes set k) o → touches_only test (puts_of answer) ≡ true
answer_only test set k o answer passes is = ap (λ (a : Option (List Put)). touches_only test (puts_of a)) is ∙ go o
  where
    go : (o : Option Ledger) → touches_only test (puts_of (option_map (writes set k) o)) ≡ true
    go None = refl
    go (Some es) = ap (λ t. t && true) passes

-- what was done to one entry is what the call answers
pub entry_made : (test : LedgerEntry → Bool) (make : LedgerEntry → LedgerEntry) → ((e : LedgerEntry) → (make e).key ≡ e.key) → (set : Set) (k : Text) (es : Ledger) (passed : Bool) (e new : LedgerEntry) (txn : List Put)
    → e ≡ entry_under k es → passed ≡ test e → passed ≡ true → new ≡ make e → txn ≡ writes set new.key (with_ledger new es) → Some txn ≡ option_map (writes set k) (if_entry test make k es)
entry_made test make keeps set k es passed e new txn own tested right made put =
    let under : new ≡ make (entry_under k es) = made ∙ ap make own in
    let named : new.key ≡ k = ap (λ (f : LedgerEntry). f.key) under ∙ keeps (entry_under k es) ∙ under_key k es in
    ap Some (put ∙ ap (λ (a : Text). writes set a (with_ledger new es)) named ∙ ap (λ (f : LedgerEntry). writes set k (with_ledger f es)) under)
    ∙ sym (ap (λ b. option_map (writes set k) (cond b (Some (with_ledger (make (entry_under k es)) es)) None)) (ap test (sym own) ∙ sym tested ∙ right))

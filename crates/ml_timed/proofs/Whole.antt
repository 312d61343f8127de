-- What is due in both ledgers is followed up.
use Rattle.std.proofs.Common.{◌≡◌, ◌≤◌, ◌-◌, ℕ, List, [], ◌∷◌, ◌++◌, map, take, fold, length, zero, suc, refl, sym, ap, ap₂, ◌∙◌, subst, arith}
use Rattle.std.proofs.lemmas.List.Sums.{fold-append}
use Rattle.ml_base.specs.Dir.{Dir}
use Rattle.ml_base.specs.declared.names.Set.TheVariants as sets
use Rattle.ml_bounce.specs.Answers.{first_due}
use Rattle.ml_bounce.specs.Changes.{action_of, due_entries}
use Rattle.ml_bounce.specs.Ledger.{Ledger}
use Rattle.ml_bounce.specs.declared.actions.Action.{Action}
use Rattle.ml_bounce.specs.declared.entries.LedgerEntry.{LedgerEntry}
use Rattle.ml_config.specs.declared.configuration.Config.{Config}
use Rattle.ml_config.specs.declared.key_file.Keys.{Keys}
use Rattle.ml_plain.specs.Directory.{IsList}
use Rattle.ml_plain.specs.Plain.{Plain}
use Rattle.ml_plain.specs.Timing.{due_of, follow_up}
use Rattle.ml_acts.specs.Doing.{HasIdsUpTo}
use Rattle.ml_timed.specs.Ahead.{AreIn, HasIdsFor, IsAhead, of_set}
use Rattle.ml_timed.proofs.Ahead.{due_in, map_length, map_take, take_both}
use Rattle.ml_timed.proofs.Amid.{followed_beside}

take_short : {E : Type 0} (n : ℕ) (xs : List E) → length (take n xs) ≤ n
take_short zero xs = omega arith
take_short (suc n) [] = omega arith
take_short (suc n) (x ∷ xs) = omega (arith, take_short n xs)

-- at most so many are due
pub few_due : (now max : ℕ) (ledger : Ledger) (actions : List Action) → actions ≡ first_due now max ledger → length actions ≤ max
few_due now max ledger actions is = omega (arith, ap length is, map_length action_of (take max (due_entries now ledger)), take_short max (due_entries now ledger))

-- ids for all that are due
pub ids_due : (dir : Dir) (n : ℕ) → HasIdsUpTo dir 999_999_999_998_001 → n ≤ 1000 → HasIdsFor dir n
ids_due dir n up few = record { most = 999_999_999_998_001; up_to = up; fits = omega (arith, few) }

none_of : {A B : Type 0} (f : A → B) (es : List A) (none : map f es ≡ []) → es ≡ []
none_of f [] none = refl
none_of f (e ∷ es) none = absurd (cc)

module _ (now max left : ℕ) (p : Plain) (list digest : List Action) (list_is : list ≡ first_due now max p.list_ledger) (left_is : left ≡ max - length list)
    (digest_is : digest ≡ first_due now left p.digest_ledger) where
  abbrev pub list_due : Ledger
  list_due = take max (due_entries now p.list_ledger)

  abbrev pub digest_due : Ledger
  digest_due = take left (due_entries now p.digest_ledger)

  -- the list once those of the set list are followed up
  abbrev pub halfway : Plain
  halfway = fold (follow_up now) p (of_set sets.List list_due)

  all_due : take max (due_of now sets.List p ++ due_of now sets.Digest p) ≡ of_set sets.List list_due ++ of_set sets.Digest digest_due
  all_due =
      let first : of_set sets.List list_due ≡ take max (due_of now sets.List p) = map_take (λ e. (sets.List, e)) max (due_entries now p.list_ledger) in
      let count : length (take max (due_of now sets.List p)) ≡ length list =
      sym (ap length first) ∙ map_length (λ (e : LedgerEntry). (sets.List, e)) list_due ∙ sym (map_length action_of list_due) ∙ sym (ap length list_is) in
      take_both max (due_of now sets.List p) (due_of now sets.Digest p)
      ∙ ap₂ (λ a b. a ++ b) (sym first)
      (ap (λ n. take n (due_of now sets.Digest p)) (ap (λ n. max - n) count ∙ sym left_is) ∙ sym (map_take (λ e. (sets.Digest, e)) left (due_entries now p.digest_ledger)))

  pub in_two : fold (follow_up now) p (take max (due_of now sets.List p ++ due_of now sets.Digest p)) ≡ fold (follow_up now) halfway (of_set sets.Digest digest_due)
  in_two = ap (fold (follow_up now) p) all_due ∙ fold-append (follow_up now) p (of_set sets.List list_due) (of_set sets.Digest digest_due)

  -- if nothing is due
  pub in_none : list ≡ [] → digest ≡ [] → fold (follow_up now) p (take max (due_of now sets.List p ++ due_of now sets.Digest p)) ≡ p
  in_none no_list no_digest =
      ap (fold (follow_up now) p) all_due
      ∙ ap₂ (λ (a b : Ledger). fold (follow_up now) p (of_set sets.List a ++ of_set sets.Digest b)) (none_of action_of list_due (sym list_is ∙ no_list)) (none_of action_of digest_due (sym digest_is ∙ no_digest))

  pub ahead_list : (dir : Dir) (c : Config) (keys : Keys) → IsList dir p → p.config ≡ c → p.keys ≡ keys → IsAhead dir c keys sets.List list p list_due
  ahead_list dir c keys is config keys_are = record { list = is; config = config; keys_are = keys_are; entries = due_in now max p.list_ledger (is.list_ledger).sorted; actions_are = list_is }

  pub ahead_digest : (dir new : Dir) (c : Config) (keys : Keys) → IsList dir p → IsList new halfway → p.config ≡ c → p.keys ≡ keys → IsAhead new c keys sets.Digest digest halfway digest_due
  ahead_digest dir new c keys is then config keys_are =
      let beside = followed_beside now sets.List list_due p in
      record {
        list = then;
        config = beside.config ∙ config;
        keys_are = beside.keys ∙ keys_are;
        entries = subst (λ (ledger : Ledger). AreIn ledger digest_due) (sym (beside.digest refl)) (due_in now left p.digest_ledger (is.digest_ledger).sorted);
        actions_are = digest_is;
      }

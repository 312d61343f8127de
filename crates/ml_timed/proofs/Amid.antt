-- What holds while entries are followed up, after some and before others.
use Rattle.std.proofs.Common.{◌≡◌, ◌≤◌, ◌+◌, ℕ, true, List, [], ◌∷◌, Option, Some, None, map, fold, length, refl, sym, ◌∙◌, subst, arith}
use Rattle.ml_base.specs.Dir.{Dir, with_puts}
use Rattle.ml_base.specs.declared.names.Set.{Set}
use Rattle.ml_base.specs.declared.names.Set.TheVariants as sets
use Rattle.ml_base.specs.declared.puts.Put.{Put}
use Rattle.ml_bounce.specs.Answers.{has_ledger}
use Rattle.ml_bounce.specs.Changes.{action_of}
use Rattle.ml_bounce.specs.Ledger.{Ledger, find_entry}
use Rattle.ml_bounce.specs.declared.entries.LedgerEntry.{LedgerEntry}
use Rattle.ml_bounce.specs.declared.entries.Stage.{Stage}
use Rattle.ml_bounce.specs.declared.entries.Stage.TheVariants.{Unwarned, Warned, WarnFailed, Probed}
use Rattle.ml_bounce.specs.declared.actions.Action.{Action}
use Rattle.ml_config.specs.declared.configuration.Config.{Config}
use Rattle.ml_config.specs.declared.key_file.Keys.{Keys}
use Rattle.ml_subs.specs.Members.{member_of}
use Rattle.ml_subs.specs.declared.member_list.Member.{Member}
use Rattle.ml_plain.specs.Directory.{IsList}
use Rattle.ml_plain.specs.Plain.{Plain, ledger_of, with_ledger_of}
use Rattle.ml_plain.specs.Timing.{follow_at, follow_up, warn_member, probe_member}
use Rattle.ml_acts.specs.Doing.{DrawsId, HasIds, HasIdsUpTo}
use Rattle.ml_timed.specs.Ahead.{AreIn, HasIdsFor, IsAhead, of_set}
use Rattle.ml_timed.proofs.Entries.{after_in}

-- what following up an entry leaves of a list
pub record Beside (set : Set) (p q : Plain) : Type 0 where
  pub config : q.config ≡ p.config
  pub keys : q.keys ≡ p.keys
  pub digest : set ≡ sets.List → q.digest_ledger ≡ p.digest_ledger

beside_self : (set : Set) (p : Plain) → Beside set p p
beside_self set p = record { config = refl; keys = refl; digest = λ is. refl }

beside_then : (set : Set) (p q r : Plain) → Beside set p q → Beside set q r → Beside set p r
beside_then set p q r a b = record { config = b.config ∙ a.config; keys = b.keys ∙ a.keys; digest = λ is. b.digest is ∙ a.digest is }

-- mail changes only the queue, and a ledger belongs to its set
ledger_beside : (set : Set) (p q : Plain) (ledger : Ledger) → Beside set p q → Beside set p (with_ledger_of set ledger q)
ledger_beside sets.List p q ledger b = record { config = b.config; keys = b.keys; digest = b.digest }
ledger_beside sets.Digest p q ledger b = record { config = b.config; keys = b.keys; digest = λ is. absurd (cc) }
ledger_beside sets.Allow p q ledger b = b
ledger_beside sets.Deny p q ledger b = b
ledger_beside sets.Moderators p q ledger b = b

module _ (now : ℕ) (set : Set) (e : LedgerEntry) (p : Plain) where
  warned_beside : (m : Option Member) → Beside set p (warn_member now set e p m)
  warned_beside None = ledger_beside set p p _ (beside_self set p)
  warned_beside (Some m) = ledger_beside set p _ _ (record { config = refl; keys = refl; digest = λ is. refl })

  probed_beside : (m : Option Member) → Beside set p (probe_member now set e p m)
  probed_beside None = ledger_beside set p p _ (beside_self set p)
  probed_beside (Some m) = ledger_beside set p _ _ (record { config = refl; keys = refl; digest = λ is. refl })

  beside_at : (s : Stage) → Beside set p (follow_at now set e p s)
  beside_at Unwarned = warned_beside (member_of e.key (p.sets set))
  beside_at (Warned t) = ledger_beside set p p _ (beside_self set p)
  beside_at (WarnFailed t) = probed_beside (member_of e.key (p.sets set))
  beside_at (Probed t) = ledger_beside set p p _ (beside_self set p)

-- one, and then more
pub followed_beside : (now : ℕ) (set : Set) (es : Ledger) (p : Plain) → Beside set p (fold (follow_up now) p (of_set set es))
followed_beside now set [] p = beside_self set p
followed_beside now set (e ∷ es) p = beside_then set p (follow_up now p (set, e)) _ (beside_at now set e p e.stage) (followed_beside now set es (follow_up now p (set, e)))

-- in the middle of a row of entries: the list so far, and the entries that are still to come
pub record IsAmid (now : ℕ) (dir : Dir) (c : Config) (keys : Keys) (set : Set) (actions : List Action) (p : Plain) (es : Ledger) : Type 0 where
  pub reached : Plain
  pub left : Ledger
  pub ahead : IsAhead dir c keys set actions reached left
  pub same : fold (follow_up now) p (of_set set es) ≡ fold (follow_up now) reached (of_set set left)

module _ (now : ℕ) (c : Config) (keys : Keys) (set : Set) (p : Plain) (es : Ledger) where
  -- once all are followed up
  pub amid_last : (dir : Dir) (actions : List Action) → actions ≡ [] → IsAmid now dir c keys set actions p es → IsList dir (fold (follow_up now) p (of_set set es))
  amid_last dir actions none amid = subst (λ (q : Plain). IsList dir q) (sym (amid.same ∙ go amid.left (sym none ∙ (amid.ahead).actions_are))) (amid.ahead).list
    where
      go : (left : Ledger) → [] ≡ map action_of left → fold (follow_up now) amid.reached (of_set set left) ≡ amid.reached
      go [] is = refl
      go (e ∷ more) is = absurd (cc)

  -- one more
  pub amid_next : (dir new : Dir) (actions more : List Action) (a : Action) → has_ledger set ≡ true → actions ≡ a ∷ more
      → ((q : Plain) (e : LedgerEntry) → IsList dir q → q.config ≡ c → q.keys ≡ keys → find_entry e.key (ledger_of q set) ≡ Some e → action_of e ≡ a → IsList new (follow_up now q (set, e)))
      → IsAmid now dir c keys set actions p es → IsAmid now new c keys set more p es
  amid_next dir new actions more a has is step amid = go amid.left (sym is ∙ (amid.ahead).actions_are) (amid.ahead).entries amid.same
    where
      go : (left : Ledger) → a ∷ more ≡ map action_of left → AreIn (ledger_of amid.reached set) left → fold (follow_up now) p (of_set set es) ≡ fold (follow_up now) amid.reached (of_set set left)
          → IsAmid now new c keys set more p es
      go [] are there same = absurd (cc)
      go (e ∷ left) are there same =
          let q = amid.reached in
          let first : action_of e ≡ a = cc in
          let rest : more ≡ map action_of left = cc in
          let beside = beside_at now set e q e.stage in
          record {
            reached = follow_up now q (set, e);
            left = left;
            ahead = record {
              list = step q e (amid.ahead).list (amid.ahead).config (amid.ahead).keys_are there.found.0 first;
              config = beside.config ∙ (amid.ahead).config;
              keys_are = beside.keys ∙ (amid.ahead).keys_are;
              entries = after_in now set has q e left there;
              actions_are = rest;
            };
            same = same;
          }

-- ids that are left
pub ids_next : (old : Dir) (puts : List Put) (n : ℕ) → DrawsId old puts → HasIdsFor old (n + 1) → HasIdsFor (with_puts old puts) n
ids_next old puts n draws has = record { most = has.most + 1; up_to = draws.up old has.most (λ name e. refl) has.up_to; fits = omega (arith, has.fits) }

-- nothing is left of a row
pub none_left : {E : Type 0} (rest : List E) → length rest ≤ 0 → rest ≡ []
none_left [] none = refl
none_left (x ∷ xs) none = absurd (omega arith)

-- ids for a row with something in it, and for no more
pub ids_first : (dir : Dir) (n : ℕ) → 1 ≤ n → HasIdsFor dir (n + 0) → HasIds dir
ids_first dir n some has low next is = let up = has.up_to low next is in omega (arith, up, has.fits, some)

pub ids_more : (dir : Dir) (n : ℕ) → HasIdsFor dir n → HasIdsFor dir (n + 0)
ids_more dir n has = record { most = has.most; up_to = has.up_to; fits = omega (arith, has.fits) }

-- what is left once all were put
pub ids_left : (dir : Dir) → HasIdsFor dir 0 → HasIdsUpTo dir 1_000_000_000_000_001
ids_left dir has low next counted =
    let up = has.up_to low next counted in
    let fits = has.fits in
    omega (arith, up, fits)

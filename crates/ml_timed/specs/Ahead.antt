-- What is still to be done while entries are followed up, one after another.
use Rattle.std.specs.Prelude.{◌≡◌, ◌≤◌, ◌+◌, ℕ, true, List, map, Some}
use Rattle.std.specs.List.{AllByRecursion}
use Rattle.ml_base.specs.Dir.{Dir}
use Rattle.ml_base.specs.Sorted.{byte_cmp, is_sorted}
use Rattle.ml_base.specs.declared.names.Set.{Set}
use Rattle.ml_bounce.specs.Changes.{action_of}
use Rattle.ml_bounce.specs.Ledger.{Ledger, find_entry}
use Rattle.ml_bounce.specs.declared.actions.Action.{Action}
use Rattle.ml_bounce.specs.declared.entries.LedgerEntry.{LedgerEntry}
use Rattle.ml_config.specs.declared.configuration.Config.{Config}
use Rattle.ml_config.specs.declared.key_file.Keys.{Keys}
use Rattle.ml_plain.specs.Directory.{IsList}
use Rattle.ml_plain.specs.Plain.{Plain, ledger_of}
use Rattle.ml_acts.specs.Doing.{HasIdsUpTo}

-- so many entries can still be put into the queue
pub record HasIdsFor (dir : Dir) (count : ℕ) : Type 0 where
  pub most : ℕ
  pub up_to : HasIdsUpTo dir most
  pub fits : most + count ≤ 1_000_000_000_000_001

-- entries that a ledger has, in ascending order of key
pub record AreIn (ledger es : Ledger) : Type 0 where
  pub sorted : is_sorted byte_cmp (λ e. e.key) es ≡ true
  pub found : AllByRecursion (λ e. find_entry e.key ledger ≡ Some e) es

-- the files stand for a list, and these actions are those of entries of a set's ledger
pub record IsAhead (dir : Dir) (c : Config) (keys : Keys) (set : Set) (actions : List Action) (p : Plain) (es : Ledger) : Type 0 where
  pub list : IsList dir p
  pub config : p.config ≡ c
  pub keys_are : p.keys ≡ keys
  pub entries : AreIn (ledger_of p set) es
  pub actions_are : actions ≡ map action_of es

-- entries of a set
abbrev pub of_set : Set → Ledger → List (Set × LedgerEntry)
of_set set es = map (λ e. (set, e)) es

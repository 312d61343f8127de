-- The list on which an exercise is run, and its items.
use Rattle.std.proofs.Common.{◌≡◌, ℕ, zero, suc, ◌+◌, length, take, Option, ap, sym, refl, ◌∙◌, subst, arith}
use Rattle.std.proofs.lemmas.List.{take_all}
use Rattle.ml_base.specs.Bytes.{Text}
use Rattle.ml_base.specs.Dir.{Dir}
use Rattle.ml_config.specs.ConfigFile.{config_name, IsConfigFile}
use Rattle.ml_config.specs.declared.configuration.Config.{Config}
use Rattle.ml_generated.specs.Items.{generated, items_from}
use Rattle.ml_plain.specs.Histories.{State}
use Rattle.ml_journal.specs.Stores.{the_dir}
use Rattle.ml_run.specs.Leaving.{HasState}
use Rattle.ml_exercise.specs.Exercising.{items_of}
use Rattle.ml_exercise.specs.Finding.{HasConfig}
use Rattle.ml_exercise.specs.Running.{items_for}

-- the configuration that was found is that of the state
pub config_same : (dir : Option Dir) (config : Config) (q : State) → HasConfig dir config → HasState dir q → config ≡ q.plain.config
config_same dir config q found state =
    let same : state.files ≡ found.files = ap the_dir (sym state.is ∙ found.is) in
    found.config_is.only q.plain.config (subst (λ (d : Dir). IsConfigFile (d config_name) q.plain.config) same state.stands.list.config)

-- so its items are those of the list
pub items_same : (dir : Option Dir) (config : Config) (q : State) (count : ℕ) → HasConfig dir config → HasState dir q → items_for config count ≡ items_of q count
items_same dir config q count found state = ap (λ (c : Config). generated c.local c.host count) (config_same dir config q found state)

-- there are as many as their count says
as_many : (local host : Text) (first more : ℕ) → length (items_from local host first more) ≡ more
as_many local host first zero = refl
as_many local host first (suc more) = ap suc (as_many local host (first + 1) more)

pub count_is : (config : Config) (count : ℕ) → length (items_for config count) ≡ count
count_is config count = as_many config.local config.host 1 count

pub all_taken : (config : Config) (count : ℕ) → take count (items_for config count) ≡ items_for config count
all_taken config count = let long = count_is config count in take_all count (items_for config count) (omega (arith, long))

pub many : (q : State) (count : ℕ) → length (items_of q count) ≡ count
many q count = as_many q.plain.config.local q.plain.config.host 1 count

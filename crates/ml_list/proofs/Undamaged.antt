-- A configuration, a floor and a file of kept replies in their grammar are damaged in no directory.
use Rattle.std.proofs.Common.{◌≡◌, ◌*◌, ℕ, ap, arith, subst}
use Rattle.ml_base.specs.Dir.{Dir}
use Rattle.ml_base.specs.declared.names.Name.{Name}
use Rattle.ml_config.specs.ConfigFile.{IsConfigFile, config_name}
use Rattle.ml_config.specs.declared.configuration.Config.{Config}
use Rattle.ml_plain.specs.Histories.{Kept}
use Rattle.ml_plain.specs.KeptFiles.{IsFloorFile, IsRepliesFile, floor_name, replies_name}
use Rattle.ml_acts.proofs.Agreeing.{no_config, no_floor, no_replies}
use Rattle.ml_list.specs.Damage.{IsDamagedInList}
use Rattle.ml_list.specs.Damage as damage

-- names of different kinds are different
kinds : (name other : Name) → name ≡ other → name.kind ≡ other.kind
kinds name other e = ap (λ (n : Name). n.kind) e

pub config_agrees : (dir : Dir) (c : Config) → IsConfigFile (dir config_name) c → ¬ IsDamagedInList dir config_name
config_agrees dir c is (damage.config e none) = none.outside c is
config_agrees dir c is (damage.floor e none) = absurd (let bad : 1 ≡ 21 = kinds config_name floor_name e in omega (arith, bad))
config_agrees dir c is (damage.replies block low e none) = absurd (let bad : 1 ≡ 19 = kinds config_name (replies_name block) e in omega (arith, bad))
config_agrees dir c is (damage.part bad) = no_config dir bad

pub floor_agrees : (dir : Dir) (at : ℕ) → IsFloorFile (dir floor_name) at → ¬ IsDamagedInList dir floor_name
floor_agrees dir at is (damage.config e none) = absurd (let bad : 21 ≡ 1 = kinds floor_name config_name e in omega (arith, bad))
floor_agrees dir at is (damage.floor e none) = none at is
floor_agrees dir at is (damage.replies block low e none) = absurd (let bad : 21 ≡ 19 = kinds floor_name (replies_name block) e in omega (arith, bad))
floor_agrees dir at is (damage.part bad) = no_floor dir bad

pub replies_agree : (dir : Dir) (block : ℕ) (kept : Kept) → IsRepliesFile (512 * block) (dir (replies_name block)) kept → ¬ IsDamagedInList dir (replies_name block)
replies_agree dir block kept is (damage.config e none) = absurd (let bad : 19 ≡ 1 = kinds (replies_name block) config_name e in omega (arith, bad))
replies_agree dir block kept is (damage.floor e none) = absurd (let bad : 19 ≡ 21 = kinds (replies_name block) floor_name e in omega (arith, bad))
replies_agree dir block kept is (damage.replies other low e none) =
    let same : block ≡ other = ap (λ (n : Name). n.at) e in none kept (subst (λ g. IsRepliesFile (512 * g) (dir (replies_name g)) kept) same is)
replies_agree dir block kept is (damage.part bad) = no_replies dir block bad

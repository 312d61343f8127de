-- What is said under a configuration, of files that hold it.
use Rattle.std.proofs.Common.{IsTrue, IfErr, Result, subst}
use Rattle.ml_base.specs.Dir.{Dir}
use Rattle.ml_base.specs.PartErrors.{OnDamaged}
use Rattle.ml_base.specs.ReadFiles.{NamesDamaged}
use Rattle.ml_base.specs.declared.files.Files.{Ghosts}
use Rattle.ml_base.specs.declared.names.Name.{Name}
use Rattle.ml_base.specs.declared.part_error.PartError.{PartError}
use Rattle.ml_config.specs.ConfigFile.{IsConfigFile, config_name}
use Rattle.ml_config.specs.declared.configuration.Config.{Config}
use Rattle.ml_acts.specs.Configured.{with_config}
use Rattle.ml_acts.proofs.UnderConfig.{config_held}

module _ (c : Config) (dir : Dir) where
  -- and what is named
  pub named_held : {F T : Type 0} (ghosts : Ghosts F) (May : Name → Type 0) (Bad : Dir → Name → Type 0) (r : Result T PartError) → (IsTrue ghosts.tells → IsConfigFile (dir config_name) c)
      → NamesDamaged ghosts May (Bad (with_config c dir)) r → NamesDamaged ghosts May (Bad dir) r
  named_held ghosts May Bad r held is = record {
    named = is.named;
    damaged = λ t. subst (λ (d : Dir). IfErr r (λ e. OnDamaged e (Bad d))) (config_held c dir (held t)) (is.damaged t);
  }

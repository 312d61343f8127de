-- Files under a configuration.
use Rattle.std.proofs.Common.{◌≡◌, ◌∙◌, Bool, true, false, cond, Some, refl, sym, ap}
use Rattle.std.proofs.Math.Path.{fun_ext}
use Rattle.ml_base.specs.Dir.{Dir, same_name}
use Rattle.ml_base.specs.declared.names.Name.{Name}
use Rattle.ml_base.proofs.Bools.{one_name}
use Rattle.ml_config.specs.Configuration.{IsConfig}
use Rattle.ml_config.specs.ConfigFile.{IsConfigFile, config_name, config_text}
use Rattle.ml_config.specs.declared.configuration.Config.{Config}
use Rattle.ml_config.proofs.OneSpelling.{one_in_file}
use Rattle.ml_plain.specs.Directory.{IsList}
use Rattle.ml_plain.specs.Plain.{Plain}
use Rattle.ml_acts.specs.Configured.{with_config}
use Rattle.ml_acts.specs.Doing.{HasRoom}

module _ (c : Config) (dir : Dir) where
  -- the configuration is there
  pub config_there : IsConfig c → IsConfigFile (with_config c dir config_name) c
  config_there is = record { is = is; text = refl }

  pub config_of : (p : Plain) → IsConfig c → IsList (with_config c dir) p → p.config ≡ c
  config_of p is list = one_in_file (with_config c dir config_name) p.config c list.config (config_there is)

  -- files that hold it are as they are
  pub config_held : IsConfigFile (dir config_name) c → with_config c dir ≡ dir
  config_held held = fun_ext (λ (name : Name). go name (same_name name config_name) refl)
    where
      go : (name : Name) (t : Bool) → same_name name config_name ≡ t → cond t (Some (config_text c)) (dir name) ≡ dir name
      go name true e = sym held.text ∙ ap dir (sym (one_name name config_name e))
      go name false e = refl

  -- the counters are what they were
  pub room_under : HasRoom dir → HasRoom (with_config c dir)
  room_under room = record { ids = room.ids; tickets = room.tickets }

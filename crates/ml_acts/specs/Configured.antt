-- Files as they read under a configuration: with this configuration in place of the one that they have.
use Rattle.std.specs.Prelude.{Some}
use Rattle.ml_base.specs.Dir.{Dir, with_file}
use Rattle.ml_config.specs.ConfigFile.{config_name, config_text}
use Rattle.ml_config.specs.declared.configuration.Config.{Config}

-- a directory with this configuration in place of its own
abbrev pub with_config : Config → Dir → Dir
with_config c dir = with_file dir config_name (Some (config_text c))

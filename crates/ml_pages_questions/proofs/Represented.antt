-- A directory that stands for a state has its configuration and its archive.
use Rattle.std.proofs.Common.{◌≡◌, subst}
use Rattle.ml_filing.specs.Threads.{IsArchive}
use Rattle.ml_base.specs.Dir.{Dir}
use Rattle.ml_config.specs.ConfigFile.{IsConfigFile, config_name}
use Rattle.ml_config.specs.declared.configuration.Config.{Config}
use Rattle.ml_config.proofs.OneSpelling.{one_in_file}
use Rattle.ml_plain.specs.Directory.{IsState}
use Rattle.ml_plain.specs.Histories.{State}

module _ (dir : Dir) (c : Config) (file : IsConfigFile (dir config_name) c) (q : State) (state : IsState dir q) where
  pub same_config : q.plain.config ≡ c
  same_config = one_in_file (dir config_name) q.plain.config c state.list.config file

  pub archive : IsArchive dir c.prefix q.plain.posts
  archive = subst (λ (d : Config). IsArchive dir d.prefix q.plain.posts) same_config state.list.archive

-- A directory that stands for a state has its configuration and its posts.
use Rattle.std.proofs.Common.{◌≡◌}
use Rattle.ml_filing.specs.Archive.{ArePosts}
use Rattle.ml_base.specs.Dir.{Dir}
use Rattle.ml_config.specs.ConfigFile.{IsConfigFile, config_name}
use Rattle.ml_config.specs.declared.configuration.Config.{Config}
use Rattle.ml_config.proofs.OneSpelling.{one_in_file}
use Rattle.ml_plain.specs.Directory.{IsState}
use Rattle.ml_plain.specs.Histories.{State}

pub same_config : (dir : Dir) (c : Config) (q : State) → IsConfigFile (dir config_name) c → IsState dir q → q.plain.config ≡ c
same_config dir c q file state = one_in_file (dir config_name) q.plain.config c state.list.config file

pub posts_stand : (dir : Dir) (q : State) → IsState dir q → ArePosts dir q.plain.posts
posts_stand dir q state = ((state.list).archive).filed

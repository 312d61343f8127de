-- Which files an item may read and name as damaged, by what the files hold.
use Rattle.std.specs.Prelude.{◌≡◌, ◌⊎◌, true}
use Rattle.ml_base.specs.Dir.{Dir}
use Rattle.ml_base.specs.declared.names.Name.{Name}
use Rattle.ml_config.specs.ConfigFile.{IsConfigFile, config_name}
use Rattle.ml_config.specs.declared.configuration.Config.{Config}
use Rattle.ml_plain.specs.declared.Act.{Act}
use Rattle.ml_plain.specs.declared.Act.TheVariants.{Deliver, Timed}
use Rattle.ml_plain.specs.declared.Item.{Item}
use Rattle.ml_acts.specs.Asked.{IsDamagedOf, Undigested}
use Rattle.ml_timed.specs.Reads.{is_of_timed}
use Rattle.ml_list.specs.Delivering.{IsDelivered}
use Rattle.ml_list.specs.Damage.{IsDamagedInList, is_looked_up, is_read_by}

-- A damaged file that a timed run may read. By the configuration that the files hold, only a list with digests reads what making one needs.
-- A file of the archive is damaged for the posts that are in no digest yet.
pub record IsTimed (dir : Dir) (name : Name) : Type 0 where
  pub config : Config
  pub held : IsConfigFile (dir config_name) config
  pub read : is_of_timed config.flags.d name ≡ true
  pub bad : IsDamagedOf dir Undigested name

-- The files that an act may read. Those of a delivery and of a timed run depend on the configuration that the files hold, and those of a
-- delivery also on the numbers of its request. A file of the archive is damaged for what is asked of it.
abbrev pub IsReadByAct : Dir → Act → Name → Type 0
IsReadByAct dir (Deliver sender recipient message) name = IsDelivered dir sender recipient message name
IsReadByAct dir Timed name = IsTimed dir name
IsReadByAct dir act name = is_read_by act name ≡ true

-- the files that an item may read, before it counts and by its act; those of the archive are damaged for what it asks
abbrev pub IsReadBy : Dir → Item → Name → Type 0
IsReadBy dir item name = (is_looked_up item.number name ≡ true) ⊎ IsReadByAct dir item.act name

-- a damaged file that an act may read, and one that an item may
pub record IsDamagedForAct (dir : Dir) (act : Act) (name : Name) : Type 0 where
  pub damaged : IsDamagedInList dir name
  pub read : IsReadByAct dir act name

pub record IsDamagedFor (dir : Dir) (item : Item) (name : Name) : Type 0 where
  pub damaged : IsDamagedInList dir name
  pub read : IsReadBy dir item name

-- Finding a list's configuration, and why none is found.
use Rattle.std.specs.Prelude.{◌≡◌, ◌⊎◌, ◌≤◌, IsTrue, IsSome, [], ◌∷◌, Option, Some, None}
use Rattle.ml_base.specs.Bytes.{Text, nul}
use Rattle.ml_base.specs.Dir.{Dir}
use Rattle.ml_base.specs.Faults.{Rose}
use Rattle.ml_config.specs.ConfigFile.{config_name, IsConfigFile, IsDamagedConfig}
use Rattle.ml_config.specs.Configuration.{IsConfig}
use Rattle.ml_config.specs.declared.configuration.Config.{Config}
use Rattle.ml_site.specs.Disk.{IsAtRest, Now}
use Rattle.ml_site.specs.Instants.{BeforeFirstSync, FromFirstSync}
use Rattle.ml_site.specs.declared.site.Site.{Ghosts}
use Rattle.ml_journal.specs.Log.{directory}
use Rattle.ml_journal.specs.Instants.{IsOld}
use Rattle.ml_ending.specs.declared.lines.Why.{Why}
use Rattle.ml_ending.specs.declared.lines.Why.TheVariants as whys
use Rattle.ml_ending.specs.Lines.{HasPath}
use Rattle.ml_ending.specs.Stops.{log_name}

-- a file holds this configuration, and no other
pub record IsOnlyConfig (file : Option Text) (config : Config) : Type 0 where
  pub stands : IsConfigFile file config
  pub only : (other : Config) → IsConfigFile file other → config ≡ other

-- the directory is there, and its configuration is this one and no other
pub record HasConfig (dir : Option Dir) (config : Config) : Type 0 where
  pub files : Dir
  pub is : dir ≡ Some files
  pub config_is : IsOnlyConfig (files config_name) config

-- why no configuration is read: its file is absent or damaged, memory ran out, or the disk failed
abbrev pub IsUnread : Why → Option Text → Type 0
IsUnread whys.NoList file = file ≡ None
IsUnread (whys.At name) file = (name ≡ config_name) × IsDamagedConfig file
IsUnread whys.Memory file = Unit {0}
IsUnread whys.Disk file = Unit {0}
IsUnread _ file = ⊥

-- why no configuration is found: the log has no directory, or none is read
abbrev pub IsUnfound : Why → Option Dir → Type 0
IsUnfound whys.NoList dir = (files : Dir) × (dir ≡ Some files) × (files config_name ≡ None)
IsUnfound (whys.At name) dir = ((name ≡ log_name) × (dir ≡ None)) ⊎ ((files : Dir) × (dir ≡ Some files) × (name ≡ config_name) × IsDamagedConfig (files config_name))
IsUnfound whys.Memory dir = Unit {0}
IsUnfound whys.Disk dir = Unit {0}
IsUnfound _ dir = ⊥

-- the reasons that there are, whatever is told
abbrev pub IsMiss : Why → Type 0
IsMiss whys.NoList = Unit {0}
IsMiss (whys.At name) = Unit {0}
IsMiss whys.Memory = Unit {0}
IsMiss whys.Disk = Unit {0}
IsMiss _ = ⊥

-- A site was opened and its configuration read: nothing else was changed, and nothing is pending.
pub record Finds {S : Type 0} (ghosts : Ghosts S) (old new : S) (config : Config) : Type 0 where
  pub range : IsConfig config
  pub found : IsTrue ghosts.tells_reads → HasConfig (directory (ghosts.disk old).reads) config
  pub same : IsTrue ghosts.tells_reads → directory (ghosts.disk new).reads ≡ directory (ghosts.disk old).reads
  pub output : IsTrue ghosts.tells_all → ghosts.output new ≡ ghosts.output old
  pub instants : IsTrue ghosts.tells_all → FromFirstSync ghosts.instant ghosts.left_since ghosts.disk ghosts.output ghosts.syncs old new (Now (ghosts.disk old) (ghosts.output old)) (IsOld (directory (ghosts.disk old).reads) (ghosts.output old))
  pub rest : IsTrue ghosts.tells_all → IsAtRest (ghosts.disk new)
  pub disk_later : ghosts.disk_faults old ≤ ghosts.disk_faults new
  pub output_later : ghosts.output_faults old ≤ ghosts.output_faults new

-- No configuration was found on a site, and nothing was changed.
pub record Misses {S : Type 0} (ghosts : Ghosts S) (old new : S) (why : Why) : Type 0 where
  pub known : IsMiss why
  pub path : HasPath why
  pub reason : IsTrue ghosts.tells_reads → IsUnfound why (directory (ghosts.disk old).reads)
  pub same : IsTrue ghosts.tells_reads → directory (ghosts.disk new).reads ≡ directory (ghosts.disk old).reads
  pub output : IsTrue ghosts.tells_all → ghosts.output new ≡ ghosts.output old
  pub instants : IsTrue ghosts.tells_all → BeforeFirstSync ghosts.instant ghosts.left_since ghosts.disk ghosts.output ghosts.syncs old new (Now (ghosts.disk old) (ghosts.output old))
      ⊎ FromFirstSync ghosts.instant ghosts.left_since ghosts.disk ghosts.output ghosts.syncs old new (Now (ghosts.disk old) (ghosts.output old)) (IsOld (directory (ghosts.disk old).reads) (ghosts.output old))
  pub rest : (why ≡ whys.Memory → ⊥) → (why ≡ whys.Disk → ⊥) → IsTrue ghosts.tells_all → IsAtRest (ghosts.disk new)
  pub gate : (why ≡ whys.Memory → ⊥) → (why ≡ whys.Disk → ⊥) → IsSome (directory (ghosts.disk old).reads) → IsTrue ghosts.tells_reads → (ghosts.disk new).reads.log ≡ nul ∷ []
  pub cause : why ≡ whys.Disk → Rose (ghosts.disk_faults old) (ghosts.disk_faults new)
  pub disk_later : ghosts.disk_faults old ≤ ghosts.disk_faults new
  pub output_later : ghosts.output_faults old ≤ ghosts.output_faults new

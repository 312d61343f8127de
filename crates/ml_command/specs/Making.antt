-- What `make` does.
use Rattle.std.specs.Prelude.{◌≡◌, ◌≢◌, ◌⊎◌, ℕ, IsTrue, Some, None}
use Rattle.ml_base.specs.Bytes.{Text}
use Rattle.ml_base.specs.Dir.{Dir}
use Rattle.ml_base.specs.Faults.{Rose}
use Rattle.ml_base.specs.Name.{is_file}
use Rattle.ml_base.specs.declared.names.Name.{Name}
use Rattle.ml_config.specs.ConfigFile.{config_name}
use Rattle.ml_config.specs.FirstFiles.{first_puts}
use Rattle.ml_config.specs.declared.configuration.Config.{Config}
use Rattle.ml_plain.specs.Histories.{fresh}
use Rattle.ml_plain.specs.Plain.{new_list}
use Rattle.ml_site.specs.Disk.{IsAtRest}
use Rattle.ml_site.specs.declared.site.Site.{Ghosts}
use Rattle.ml_journal.specs.Calls.{Leaves}
use Rattle.ml_journal.specs.Log.{directory}
use Rattle.ml_ending.specs.Endings.{Opens}
use Rattle.ml_run.specs.Leaving.{HasState}
use Rattle.ml_run.specs.Making.{IsMaking, Makes, made_text, is_make_status}

-- What making a list of this configuration and key does.
pub record MakesList {S : Type 0} (ghosts : Ghosts S) (config : Config) (key : Text) (old new : S) (status : ℕ) : Type 0 where
  pub known : IsTrue (is_make_status status)
  pub makes : IsTrue ghosts.tells_reads → Makes (IsTrue ghosts.tells_all) status (directory (ghosts.disk old).reads) (first_puts config key) (made_text config) (ghosts.output old) (ghosts.disk new).reads (ghosts.output new)
  pub state : IsTrue ghosts.tells_reads → (files : Dir) → directory (ghosts.disk old).reads ≡ Some files → ((name : Name) → IsTrue (is_file name) → files name ≡ None) → status ≡ 0
      → HasState (directory (ghosts.disk new).reads) (fresh (new_list config key))
  pub there : IsTrue ghosts.tells_reads → (files : Dir) → directory (ghosts.disk old).reads ≡ Some files → files config_name ≢ None → (status ≡ 100) ⊎ ((status ≡ 71) ⊎ ((status ≡ 73) ⊎ (status ≡ 111)))
  pub instants : IsTrue ghosts.tells_all → Opens ghosts old new (IsMaking (directory (ghosts.disk old).reads) (first_puts config key) (made_text config) (ghosts.output old))
  pub at_rest : IsAtRest (ghosts.disk old) → Leaves ghosts old new (IsMaking (directory (ghosts.disk old).reads) (first_puts config key) (made_text config) (ghosts.output old))
  pub rest : (Rose (ghosts.disk_faults old) (ghosts.disk_faults new) → ⊥) → (status ≡ 71 → ⊥) → (status ≡ 73 → ⊥) → IsTrue ghosts.tells_all → IsAtRest (ghosts.disk new)
  pub of_disk : status ≡ 111 → Rose (ghosts.disk_faults old) (ghosts.disk_faults new)
  pub of_output : status ≡ 73 → Rose (ghosts.output_faults old) (ghosts.output_faults new)

-- What a command that asks something of a list promises: what it gives, and what it leaves on the disk.
use Rattle.std.specs.Prelude.{◌≡◌, ◌≤◌, ◌+◌, ℕ, IsTrue, IsSome, [], ◌∷◌, Some, None}
use Rattle.ml_base.specs.Bytes.{nul}
use Rattle.ml_base.specs.Dir.{Dir}
use Rattle.ml_base.specs.Faults.{Rose}
use Rattle.ml_config.specs.ConfigFile.{config_name}
use Rattle.ml_plain.specs.Directory.{IsState}
use Rattle.ml_plain.specs.Histories.{State}
use Rattle.ml_site.specs.Disk.{IsAtRest}
use Rattle.ml_site.specs.declared.site.Site.{Ghosts}
use Rattle.ml_journal.specs.Calls.{Leaves}
use Rattle.ml_journal.specs.Log.{directory}
use Rattle.ml_ending.specs.Endings.{MissesList, Opens}
use Rattle.ml_reading.specs.Meanings.{Meaning}
use Rattle.ml_reading.specs.Readings.{GivesFound, IsLeftByReading, Reads, is_status_of}

-- What a command that asks this of a list does: it gives the answer, or says why there is none, and leaves the directory as it is.
pub record GivesAnswer {S : Type 0} (ghosts : Ghosts S) (asked : Meaning) (old new : S) (status : ℕ) : Type 0 where
  -- What it gives. If the directory stands for a state, that is the answer of its list, unless memory runs out or a count rises.
  pub given : IsTrue ghosts.tells_reads → Reads (IsTrue ghosts.tells_all) status asked (directory (ghosts.disk old).reads) (ghosts.output old) (ghosts.output new)
  pub complete : IsTrue ghosts.tells_reads → (files : Dir) (q : State) → directory (ghosts.disk old).reads ≡ Some files → IsState files q
      → GivesFound (IsTrue ghosts.tells_all) status (asked.of_list q.plain) (ghosts.output old) (ghosts.output new)
  pub nolist : IsTrue ghosts.tells_reads → (files : Dir) → directory (ghosts.disk old).reads ≡ Some files → files config_name ≡ None → MissesList (IsTrue ghosts.tells_all) status (ghosts.output old) (ghosts.output new)
  -- The directory stays as it is, also at every instant; if something is pending at the start, from the first sync on that succeeds.
  pub same : IsTrue ghosts.tells_reads → directory (ghosts.disk new).reads ≡ directory (ghosts.disk old).reads
  pub instants : IsTrue ghosts.tells_all → Opens ghosts old new (IsLeftByReading asked (directory (ghosts.disk old).reads) (ghosts.output old))
  pub at_rest : IsAtRest (ghosts.disk old) → Leaves ghosts old new (IsLeftByReading asked (directory (ghosts.disk old).reads) (ghosts.output old))
  -- Nothing is pending afterwards, unless there was a fault or memory ran out, and the log is one closed gate.
  pub rest : (Rose (ghosts.disk_faults old) (ghosts.disk_faults new) → ⊥) → (status ≡ 71 → ⊥) → (status ≡ 73 → ⊥) → IsTrue ghosts.tells_all → IsAtRest (ghosts.disk new)
  pub gate : IsSome (directory (ghosts.disk old).reads) → (status ≡ 71 → ⊥) → (status ≡ 73 → ⊥) → (status ≡ 111 → ⊥) → IsTrue ghosts.tells_reads → (ghosts.disk new).reads.log ≡ nul ∷ []
  -- Which statuses there are, for which of them a count rose, and how many syncs it makes.
  pub known : IsTrue (is_status_of asked status)
  pub of_disk : status ≡ 111 → Rose (ghosts.disk_faults old) (ghosts.disk_faults new)
  pub of_output : status ≡ 73 → Rose (ghosts.output_faults old) (ghosts.output_faults new)
  pub disk_later : ghosts.disk_faults old ≤ ghosts.disk_faults new
  pub output_later : ghosts.output_faults old ≤ ghosts.output_faults new
  pub syncs : IsTrue ghosts.tells_all → ghosts.syncs new ≤ ghosts.syncs old + 7

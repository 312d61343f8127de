-- What a run promises, part by part, for a source that has these bytes left and a site that was `old` and is `new`.
use Rattle.std.specs.Prelude.{◌≡◌, ◌≤◌, ℕ, IsTrue, IsSome, List, [], ◌∷◌, take, Option, Some, None}
use Rattle.ml_base.specs.Bytes.{Text}
use Rattle.ml_base.specs.Dir.{Dir}
use Rattle.ml_base.specs.Faults.{Rose}
use Rattle.ml_base.specs.declared.names.Name.{Name}
use Rattle.ml_config.specs.ConfigFile.{config_name}
use Rattle.ml_site.specs.Disk.{IsAtRest}
use Rattle.ml_site.specs.declared.site.Site.{Ghosts}
use Rattle.ml_journal.specs.Calls.{Leaves}
use Rattle.ml_journal.specs.Log.{directory}
use Rattle.ml_plain.specs.Histories.{State}
use Rattle.ml_plain.specs.Replies.{is_status}
use Rattle.ml_plain.specs.declared.Item.{Item}
use Rattle.ml_ending.specs.Endings.{Opens, MissesList}
use Rattle.ml_stream.specs.Stream.{StreamEnd}
use Rattle.ml_run.specs.Endings.{AnswersEach, Begins, Brings, Names, TellsStream}
use Rattle.ml_run.specs.Leaving.{IsAfterSome}
use Rattle.ml_run.specs.Stops.{is_run_status}

-- What a crash leaves at every instant; if something is pending at the start, from the first sync that succeeds on.
pub record CrashesAfterSome {S : Type 0} (ghosts : Ghosts S) (left : Option Text) (limit : ℕ) (old new : S) : Type 0 where
  pub instants : IsTrue ghosts.tells_all → (all : List Item) (ending : StreamEnd) (q : State) → Begins left (ghosts.disk old).reads all ending q
      → Opens ghosts old new (IsAfterSome q (take limit all) (ghosts.output old))
  pub at_rest : IsAtRest (ghosts.disk old) → (all : List Item) (ending : StreamEnd) (q : State) → Begins left (ghosts.disk old).reads all ending q
      → Leaves ghosts old new (IsAfterSome q (take limit all) (ghosts.output old))

-- What its status tells of the stream, whatever the directory. If all items are answered, each is answered by one line and the status is that of
-- the last one.
pub record AnswersStream {S : Type 0} (ghosts : Ghosts S) (left : Option Text) (status limit answered : ℕ) (old new : S) : Type 0 where
  pub streamed : (all : List Item) (ending : StreamEnd) → Brings left all ending → TellsStream status limit answered all ending
  pub answers : (all : List Item) (ending : StreamEnd) → Brings left all ending → IsTrue (is_status status) → AnswersEach (IsTrue ghosts.tells_all) status all (ghosts.output old) (ghosts.output new)

-- If there is no configuration, it says so. Status 75 comes only then, or if the file that the line names is damaged: the log, the
-- configuration, or a file that has this property, in the directory that is left and with the number that the line begins with.
pub record SaysRefusal {S : Type 0} (ghosts : Ghosts S) (P : Dir → Option ℕ → Name → Type 0) (status : ℕ) (old new : S) : Type 0 where
  pub nolist : IsTrue ghosts.tells_reads → (files : Dir) → directory (ghosts.disk old).reads ≡ Some files → files config_name ≡ None → MissesList (IsTrue ghosts.tells_all) status (ghosts.output old) (ghosts.output new)
  pub named : IsTrue ghosts.tells_reads → status ≡ 75 → Names (IsTrue ghosts.tells_all) P (directory (ghosts.disk old).reads) (directory (ghosts.disk new).reads) (ghosts.output new)

-- Nothing is pending except after a fault or lack of memory, and nothing ever if all items are answered. The log is one closed gate except after
-- a fault or lack of memory, or on a log without a directory.
pub record ClosesRun {S : Type 0} (ghosts : Ghosts S) (status : ℕ) (old new : S) : Type 0 where
  pub rest : (Rose (ghosts.disk_faults old) (ghosts.disk_faults new) → ⊥) → (status ≡ 71 → ⊥) → (status ≡ 73 → ⊥) → IsTrue ghosts.tells_all → IsAtRest (ghosts.disk new)
  pub settled : IsTrue (is_status status) → IsTrue ghosts.tells_all → IsAtRest (ghosts.disk new)
  pub gate : IsSome (directory (ghosts.disk old).reads) → (status ≡ 71 → ⊥) → (status ≡ 73 → ⊥) → (status ≡ 111 → ⊥) → IsTrue ghosts.tells_reads → (ghosts.disk new).reads.log ≡ 0 ∷ []

-- The counts of a site rise if its status says so, and never fall.
pub record CountsSite {S : Type 0} (ghosts : Ghosts S) (status : ℕ) (old new : S) : Type 0 where
  pub of_disk : status ≡ 111 → Rose (ghosts.disk_faults old) (ghosts.disk_faults new)
  pub of_output : status ≡ 73 → Rose (ghosts.output_faults old) (ghosts.output_faults new)
  pub disk_later : ghosts.disk_faults old ≤ ghosts.disk_faults new
  pub output_later : ghosts.output_faults old ≤ ghosts.output_faults new

-- Which statuses there are, how many items are answered at most, and which counts of the source and the site rose.
pub record CountsRun {S : Type 0} (ghosts : Ghosts S) (status limit answered faults later : ℕ) (old new : S) : Type 0 where
  pub statuses : IsTrue (is_run_status status)
  pub few : answered ≤ limit
  pub of_input : status ≡ 74 → Rose faults later
  pub input_later : faults ≤ later
  pub site : CountsSite ghosts status old new

-- What an exercise does.
use Rattle.std.specs.Prelude.{◌≡◌, ◌⊎◌, ℕ, IsTrue, IsSome, List, [], ◌∷◌, ◌++◌, length, Option, Some, None, true}
use Rattle.ml_base.specs.Bytes.{Text, nul}
use Rattle.ml_base.specs.Dir.{Dir}
use Rattle.ml_base.specs.Faults.{Rose}
use Rattle.ml_base.specs.declared.names.Name.{Name}
use Rattle.ml_config.specs.ConfigFile.{config_name}
use Rattle.ml_config.specs.declared.configuration.Config.{Config}
use Rattle.ml_generated.specs.Items.{generated}
use Rattle.ml_list.specs.Asked.{IsReadBy}
use Rattle.ml_list.specs.Damage.{is_read_by_item}
use Rattle.ml_plain.specs.Histories.{State, fold, text}
use Rattle.ml_plain.specs.declared.Item.{Item}
use Rattle.ml_site.specs.Disk.{Contents, IsAtRest}
use Rattle.ml_site.specs.declared.site.Site.{Ghosts}
use Rattle.ml_journal.specs.Calls.{Leaves}
use Rattle.ml_journal.specs.Log.{directory}
use Rattle.ml_ending.specs.Endings.{MissesList, Opens}
use Rattle.ml_reading.specs.Readings.{IsHindered, is_reading_status}
use Rattle.ml_run.specs.Anywhere.{Done, after, answers_of, AtEachInstant, IsAfterFirst, IsRow}
use Rattle.ml_run.specs.Endings.{CutOff, Names, Stopped}
use Rattle.ml_run.specs.Leaving.{HasState, IsAfterSome}
use Rattle.ml_stream.specs.Stream.{StreamEnd, End}
use Rattle.ml_exercise.specs.Finding.{HasConfig}
use Rattle.ml_exercise.specs.Summing.{IsSummingUp, IsToldOf, NamesWhole, TellsOf}

-- the items of an exercise of a list
abbrev pub items_of : State → ℕ → List Item
items_of q count = generated q.plain.config.local q.plain.config.host count

-- the list after the items
abbrev pub state_after : State → ℕ → State
state_after q count = fold q (items_of q count)

-- what is out after all answers, with what was out before
abbrev pub answered_all : State → ℕ → Text → Text
answered_all q count before = before ++ text q (items_of q count)

-- All items are done and answered, and some first bytes of the two lines are out; or the first line is out, and some first bytes of one stop
-- line instead of the second.
pub record IsTelling (q : State) (count : ℕ) (before : Text) (left : Contents) (out : Text) : Type 0 where
  pub state : HasState (directory left) (state_after q count)
  pub put : IsSummingUp count (state_after q count).plain (answered_all q count before) out

-- At every instant: as in a run of the items, or after all of them.
abbrev pub IsExercising : State → ℕ → Text → Contents → Text → Type 0
IsExercising q count before left out = IsAfterSome q (items_of q count) before left out ⊎ IsTelling q count before left out

-- All items are done and answered. After the answers come the two lines, with status 0; or the first of them, and one stop line instead of the
-- second; or the output failed.
pub record IsDone (told : Type 0) (status answered : ℕ) (held : Contents) (output : Text) (q : State) (count : ℕ) (before : Text) : Type 0 where
  pub all : answered ≡ count
  pub state : HasState (directory held) (state_after q count)
  pub put : TellsOf told status count (state_after q count).plain (answered_all q count before) output

-- the run of the items ended early, after this many answers
pub record EndsEarly (told : Type 0) (status answered : ℕ) (held : Contents) (output : Text) (q : State) (count : ℕ) (before : Text) : Type 0 where
  pub end : Stopped told ⊥ status count answered held output (items_of q count) End q before ⊎ CutOff told status count answered held output (items_of q count) q before
  pub hindered : IsHindered status

-- how an exercise of a list ends after it answered this many items
abbrev pub Ends : Type 0 → ℕ → ℕ → Contents → Text → State → ℕ → Text → Type 0
Ends told status answered held output q count before = IsDone told status answered held output q count before ⊎ EndsEarly told status answered held output q count before

-- The item that comes after this many in an exercise of a list of this configuration: a stop line begins with its number, and it may read this
-- file of a directory, by the configuration that is there and the numbers of what it asks.
pub record IsOfItem (dir : Option Dir) (count answered : ℕ) (files : Dir) (who : Option ℕ) (name : Name) : Type 0 where
  pub config : Config
  pub has : HasConfig dir config
  pub item : Item
  pub before : List Item
  pub after : List Item
  pub split : generated config.local config.host count ≡ before ++ item ∷ after
  pub place : answered ≡ length before
  pub number : who ≡ Some item.number
  pub reads : is_read_by_item item name ≡ true
  pub asked : IsReadBy files item name

-- the items of an exercise of a directory, whatever else it holds: those of the configuration that it has
abbrev pub IsExercised : Dir → ℕ → List Item → StreamEnd → Type 0
IsExercised files count all ending = (config : Config) × HasConfig (Some files) config × (all ≡ generated config.local config.host count) × (ending ≡ End)

-- this many items are done and answered, and what is said after them may be out
pub record IsToldAfter (files : Dir) (done : List Done) (count : ℕ) (before : Text) (left : Contents) (out : Text) : Type 0 where
  pub all : count ≡ length done
  pub dir : directory left ≡ Some (after files done)
  pub put : IsToldOf (Some (after files done)) count (before ++ answers_of done) out

-- At every instant, whatever the directory holds: as in a run of the items, or after all of them.
abbrev pub IsExercisingAt : Dir → List Done → List Done → ℕ → Text → Contents → Text → Type 0
IsExercisingAt files first batch count before left out = IsAfterFirst files (first ++ batch) before left out ⊎ IsToldAfter files first count before left out

-- What an exercise does on a directory, whatever it holds: there is a row of its items as in a run, and this holds at every instant (M).
pub record ExercisesItems {S : Type 0} (ghosts : Ghosts S) (M : (Contents → Text → Type 0) → Type 0) (count status answered : ℕ) (old new : S) (files : Dir) : Type 0 where
  pub first : List Done
  pub batch : List Done
  pub row : IsRow ghosts (IsExercised files count) count status answered new files first batch
  pub instants : M (IsExercisingAt files first batch count (ghosts.output old))

-- What an exercise of so many items does, and how many of them it answers, except for the instants of its opening.
pub record ExercisesList {S : Type 0} (ghosts : Ghosts S) (count : ℕ) (old new : S) (status : ℕ) : Type 0 where
  pub answered : ℕ
  pub known : IsTrue (is_reading_status status)
  pub whole : IsTrue ghosts.tells_reads → (q : State) → HasState (directory (ghosts.disk old).reads) q
      → Ends (IsTrue ghosts.tells_all) status answered (ghosts.disk new).reads (ghosts.output new) q count (ghosts.output old)
  pub at_rest : IsAtRest (ghosts.disk old) → (q : State) → HasState (directory (ghosts.disk old).reads) q
      → Leaves ghosts old new (IsExercising q count (ghosts.output old))
  pub anywhere : IsTrue ghosts.tells_reads → (files : Dir) → directory (ghosts.disk old).reads ≡ Some files
      → ExercisesItems ghosts (λ P. IsAtRest (ghosts.disk old) → Leaves ghosts old new P) count status answered old new files
  pub rest : (Rose (ghosts.disk_faults old) (ghosts.disk_faults new) → ⊥) → (status ≡ 71 → ⊥) → (status ≡ 73 → ⊥) → IsTrue ghosts.tells_all → IsAtRest (ghosts.disk new)
  pub gate : IsSome (directory (ghosts.disk old).reads) → (status ≡ 71 → ⊥) → (status ≡ 73 → ⊥) → (status ≡ 111 → ⊥) → IsTrue ghosts.tells_reads → (ghosts.disk new).reads.log ≡ nul ∷ []
  pub of_disk : status ≡ 111 → Rose (ghosts.disk_faults old) (ghosts.disk_faults new)
  pub of_output : status ≡ 73 → Rose (ghosts.output_faults old) (ghosts.output_faults new)
  pub named : IsTrue ghosts.tells_reads → status ≡ 75
      → Names (IsTrue ghosts.tells_all) (IsOfItem (directory (ghosts.disk old).reads) count answered) (directory (ghosts.disk old).reads) (directory (ghosts.disk new).reads) (ghosts.output new)
      ⊎ NamesWhole (IsTrue ghosts.tells_all) (directory (ghosts.disk new).reads) (ghosts.output new)
  pub nolist : IsTrue ghosts.tells_reads → (files : Dir) → directory (ghosts.disk old).reads ≡ Some files → files config_name ≡ None → MissesList (IsTrue ghosts.tells_all) status (ghosts.output old) (ghosts.output new)

-- What an exercise of so many items does. Every instant is as `IsExercising` says; if something is pending at the start, from the first sync that
-- succeeds on.
pub record Exercises {S : Type 0} (ghosts : Ghosts S) (count : ℕ) (old new : S) (status : ℕ) : Type 0 where
  pub does : ExercisesList ghosts count old new status
  pub instants : IsTrue ghosts.tells_all → (q : State) → HasState (directory (ghosts.disk old).reads) q → Opens ghosts old new (IsExercising q count (ghosts.output old))
  pub anywhere : IsTrue ghosts.tells_reads → (files : Dir) → directory (ghosts.disk old).reads ≡ Some files → ExercisesItems ghosts (AtEachInstant ghosts old new) count status does.answered old new files

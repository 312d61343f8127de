-- What is said after the answers of an exercise: how many items there were, and what a check of the list says.
use Rattle.std.specs.Prelude.{◌≡◌, ◌⊎◌, ℕ, IsTrue, IsSome, [], ◌∷◌, ◌++◌, Option, None, codes}
use Rattle.std.specs.Fmt.{decimal}
use Rattle.ml_base.specs.Bytes.{Text, line_feed, nul}
use Rattle.ml_base.specs.Dir.{Dir}
use Rattle.ml_base.specs.Faults.{Rose}
use Rattle.ml_check.specs.Checking.{check_meaning}
use Rattle.ml_check.specs.Sizes.{sizes_of, whole_line}
use Rattle.ml_plain.specs.Histories.{State}
use Rattle.ml_plain.specs.Plain.{Plain}
use Rattle.ml_site.specs.Disk.{Contents, IsAtRest}
use Rattle.ml_site.specs.declared.site.Site.{Ghosts}
use Rattle.ml_journal.specs.Calls.{Leaves}
use Rattle.ml_journal.specs.Log.{directory}
use Rattle.ml_ending.specs.declared.lines.Why.{Why}
use Rattle.ml_ending.specs.Endings.{SaysAtMost, TellsAtMost}
use Rattle.ml_ending.specs.Lines.{stop_text}
use Rattle.ml_ending.specs.Stops.{status_of_why}
use Rattle.ml_reading.specs.Readings.{IsFront, IsHindered, IsRefusal, is_reading_status}
use Rattle.ml_run.specs.Leaving.{HasState}

-- the line of how many items there were
abbrev pub exercised_line : ℕ → Text
exercised_line count = codes "exercised " ++ decimal count ++ line_feed ∷ []

-- the two lines after the answers: that one, and that of a check of this list
abbrev pub two_lines : ℕ → Plain → Text
two_lines count list = exercised_line count ++ whole_line (sizes_of list)

-- Some first bytes of the two lines are out; or the first line, and some first bytes of one stop line instead of the second.
abbrev pub IsSummingUp : ℕ → Plain → Text → Text → Type 0
IsSummingUp count list before out = TellsAtMost (two_lines count list) before out ⊎ SaysAtMost (before ++ exercised_line count) out

-- What is said of a list: the two lines; or the first of them, and one stop line instead of the second, if memory ran out or the disk failed; or
-- the output failed.
abbrev pub TellsOf : Type 0 → ℕ → ℕ → Plain → Text → Text → Type 0
TellsOf told status count list before output =
    ((status ≡ 0) × (told → output ≡ before ++ two_lines count list))
    ⊎ (((why : Why) × (status ≡ status_of_why why) × IsHindered status × (told → output ≡ (before ++ exercised_line count) ++ stop_text None status why))
    ⊎ ((status ≡ 73) × (told → IsSummingUp count list before output)))

-- the directory is this one, and what is out is as `IsSummingUp` says
abbrev pub IsLooking : Option Dir → ℕ → Plain → Text → Contents → Text → Type 0
IsLooking dir count list before left out = (directory left ≡ dir) × IsSummingUp count list before out

-- Whatever the directory holds: some first bytes of the line of how many items there were are out; or that line, and some first bytes of what a
-- check of the directory tells, or of one stop line.
abbrev pub IsToldOf : Option Dir → ℕ → Text → Text → Type 0
IsToldOf dir count before out = TellsAtMost (exercised_line count) before out ⊎ IsFront check_meaning dir (before ++ exercised_line count) out

-- the directory is this one, and that is out
abbrev pub IsLookingAt : Option Dir → ℕ → Text → Contents → Text → Type 0
IsLookingAt dir count before left out = (directory left ≡ dir) × IsToldOf dir count before out

-- a stop line of status 75 is one that a look at the whole list gives, and the output ends with it
pub record NamesWhole (told : Type 0) (dir : Option Dir) (output : Text) : Type 0 where
  pub why : Why
  pub before : Text
  pub put : told → output ≡ before ++ stop_text None 75 why
  pub refusal : IsRefusal why check_meaning dir

-- The number of items was said, and the list looked over; its directory stays.
pub record SumsUp {S : Type 0} (ghosts : Ghosts S) (count : ℕ) (old new : S) (status : ℕ) : Type 0 where
  pub known : IsTrue (is_reading_status status)
  pub same : IsTrue ghosts.tells_reads → directory (ghosts.disk new).reads ≡ directory (ghosts.disk old).reads
  pub given : IsTrue ghosts.tells_reads → (q : State) → HasState (directory (ghosts.disk old).reads) q → TellsOf (IsTrue ghosts.tells_all) status count q.plain (ghosts.output old) (ghosts.output new)
  pub at_rest : IsAtRest (ghosts.disk old) → (q : State) → HasState (directory (ghosts.disk old).reads) q
      → Leaves ghosts old new (IsLooking (directory (ghosts.disk old).reads) count q.plain (ghosts.output old))
  pub anywhere : IsAtRest (ghosts.disk old) → Leaves ghosts old new (IsLookingAt (directory (ghosts.disk old).reads) count (ghosts.output old))
  pub rest : (Rose (ghosts.disk_faults old) (ghosts.disk_faults new) → ⊥) → (status ≡ 71 → ⊥) → (status ≡ 73 → ⊥) → IsTrue ghosts.tells_all → IsAtRest (ghosts.disk new)
  pub gate : IsSome (directory (ghosts.disk old).reads) → (status ≡ 71 → ⊥) → (status ≡ 73 → ⊥) → (status ≡ 111 → ⊥) → IsTrue ghosts.tells_reads → (ghosts.disk new).reads.log ≡ nul ∷ []
  pub of_disk : status ≡ 111 → Rose (ghosts.disk_faults old) (ghosts.disk_faults new)
  pub of_output : status ≡ 73 → Rose (ghosts.output_faults old) (ghosts.output_faults new)
  pub named : IsTrue ghosts.tells_reads → status ≡ 75 → NamesWhole (IsTrue ghosts.tells_all) (directory (ghosts.disk new).reads) (ghosts.output new)

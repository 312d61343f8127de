-- How a call on a store ends: what it says at the end, and what a crash meanwhile may leave.
use Rattle.std.specs.Prelude.{◌≡◌, ◌⊎◌, ◌≤◌, ◌+◌, ℕ, Bool, true, false, if◌then◌else◌, IsTrue, ◌++◌, take, Option, Some, None}
use Rattle.ml_base.specs.Bytes.{Text}
use Rattle.ml_base.specs.Faults.{Rose}
use Rattle.ml_site.specs.Disk.{Contents, Disk, Elapses, Giving, IsImage, Now}
use Rattle.ml_site.specs.Instants.{BeforeFirstSync, FromFirstSync}
use Rattle.ml_site.specs.declared.site.Site.{Ghosts}
use Rattle.ml_journal.specs.Calls.{Leaves, IsClean}
use Rattle.ml_journal.specs.Log.{directory}
use Rattle.ml_journal.specs.Instants.{IsOld}
use Rattle.ml_ending.specs.declared.lines.Why.{Why}
use Rattle.ml_ending.specs.declared.lines.Why.TheVariants as whys
use Rattle.ml_ending.specs.Lines.{stop_text, HasPath}
use Rattle.ml_ending.specs.Stops.{status_of_why}

-- what the stop line of a run says: the number of the item in hand, if there is one, and why
abbrev pub StopLine : Type 0
StopLine = Option (Option ℕ × Why)

-- a stop line was put out; or the output failed, and some first bytes of the line are out
pub record Says {S : Type 0} (ghosts : Ghosts S) (old new : S) (status : ℕ) (who : Option ℕ) (why : Why) : Type 0 where
  pub reads : IsTrue ghosts.tells_reads → (ghosts.disk new).reads ≡ (ghosts.disk old).reads
  pub disk_is : IsTrue ghosts.tells_all → ghosts.disk new ≡ ghosts.disk old
  pub line : ((status ≡ status_of_why why) × (IsTrue ghosts.tells_all → ghosts.output new ≡ ghosts.output old ++ stop_text who (status_of_why why) why))
      ⊎ ((status ≡ 73) × Rose (ghosts.output_faults old) (ghosts.output_faults new)
      × (IsTrue ghosts.tells_all → (n : ℕ) × (ghosts.output new ≡ ghosts.output old ++ take n (stop_text who (status_of_why why) why))))
  pub time : IsTrue ghosts.tells_all → Elapses (ghosts.instant old) (ghosts.instant new) (ghosts.left_since old) (ghosts.left_since new)
      (Giving (ghosts.disk old) (ghosts.output old) (stop_text who (status_of_why why) why))
  pub syncs : IsTrue ghosts.tells_all → ghosts.syncs new ≡ ghosts.syncs old
  pub log_bytes : IsTrue ghosts.tells_all → ghosts.log_bytes new ≡ ghosts.log_bytes old
  pub no_call : ghosts.disk_calls new ≡ ghosts.disk_calls old
  pub disk_faults : ghosts.disk_faults new ≡ ghosts.disk_faults old
  pub output_faults : ghosts.output_faults old ≤ ghosts.output_faults new

-- the number that a stop line begins with
abbrev pub who_of : StopLine → Option ℕ
who_of None = None
who_of (Some line) = line.0

-- the line says that memory ran out
abbrev pub IsMemory : StopLine → Type 0
IsMemory None = ⊥
IsMemory (Some line) = line.1 ≡ whys.Memory

-- What a run says once its store is closed. The log is clean, and it says what it would have said. Or the close was refused, and the line
-- says why in place of that, but a line that says that memory ran out stays.
abbrev pub ClosesTo : StopLine → StopLine → Type 0 → Type 0 → Type 0
ClosesTo old new rest disk =
    ((new ≡ old) × rest) ⊎ (((new ≡ old) × IsMemory old) ⊎ (((new ≡ Some (who_of old, whys.Memory)) × (¬ IsMemory old)) ⊎ ((new ≡ Some (who_of old, whys.Disk)) × (¬ IsMemory old) × disk)))

-- whether memory ran out
abbrev pub is_memory : Why → Bool
is_memory whys.Memory = true
is_memory _ = false

-- why a run ends if its close was refused: if memory ran out before, that stays the reason
abbrev pub in_place : Why → Why → Why
in_place old new = if is_memory old then old else new

-- the stop line in that case
abbrev pub line_in_place : StopLine → Why → StopLine
line_in_place None why = Some (None, why)
line_in_place (Some line) why = Some (line.0, in_place line.1 why)

-- if a line names a file, that is in the table
abbrev pub HasLinePath : StopLine → Type 0
HasLinePath None = Unit {0}
HasLinePath (Some line) = HasPath line.1

-- at most this many more syncs, and no fewer log bytes
pub record CostsAtMost (most : ℕ) (syncs syncs' bytes bytes' : ℕ) : Type 0 where
  pub few : syncs' ≤ syncs + most
  pub stay : syncs ≤ syncs'
  pub bytes_stay : bytes ≤ bytes'

-- the store of a run was closed, and its stop line put out, if it has one
pub record Finishes {S : Type 0} (ghosts : Ghosts S) (old new : S) (line : StopLine) (status last : ℕ) : Type 0 where
  pub mid : S
  pub final : StopLine
  pub closes : ClosesTo line final (IsClean ghosts mid) (Rose (ghosts.disk_faults old) (ghosts.disk_faults mid))
  pub same : IsTrue ghosts.tells_reads → directory (ghosts.disk mid).reads ≡ directory (ghosts.disk old).reads
  pub output : IsTrue ghosts.tells_all → ghosts.output mid ≡ ghosts.output old
  pub instants : Leaves ghosts old mid (IsOld (directory (ghosts.disk old).reads) (ghosts.output old))
  pub faults : ghosts.disk_faults old ≤ ghosts.disk_faults mid
  pub others : ghosts.output_faults mid ≡ ghosts.output_faults old
  pub spends : IsTrue ghosts.tells_all → CostsAtMost 3 (ghosts.syncs old) (ghosts.syncs mid) (ghosts.log_bytes old) (ghosts.log_bytes mid)
  pub said : ((final ≡ None) × (status ≡ last) × (new ≡ mid)) ⊎ ((who : Option ℕ) × (why : Why) × (final ≡ Some (who, why)) × Says ghosts mid new status who why)

-- a batch was refused: if by the output, nothing more is put out; otherwise a stop line says why
pub record Refuses {S : Type 0} (ghosts : Ghosts S) (old new : S) (first : Option ℕ) (why : Option Why) (status : ℕ) : Type 0 where
  pub quiet : why ≡ None → (status ≡ 73) × (new ≡ old)
  pub said : (reason : Why) → why ≡ Some reason → Says ghosts old new status first reason

-- a text was put out; or the output failed, and some first bytes of the text are out
pub record Tells {S : Type 0} (ghosts : Ghosts S) (old new : S) (status : ℕ) (line : Text) : Type 0 where
  pub reads : IsTrue ghosts.tells_reads → (ghosts.disk new).reads ≡ (ghosts.disk old).reads
  pub disk_is : IsTrue ghosts.tells_all → ghosts.disk new ≡ ghosts.disk old
  pub line_is : ((status ≡ 0) × (IsTrue ghosts.tells_all → ghosts.output new ≡ ghosts.output old ++ line))
      ⊎ ((status ≡ 73) × Rose (ghosts.output_faults old) (ghosts.output_faults new)
      × (IsTrue ghosts.tells_all → (n : ℕ) × (ghosts.output new ≡ ghosts.output old ++ take n line)))
  pub time : IsTrue ghosts.tells_all → Elapses (ghosts.instant old) (ghosts.instant new) (ghosts.left_since old) (ghosts.left_since new)
      (Giving (ghosts.disk old) (ghosts.output old) line)
  pub syncs : IsTrue ghosts.tells_all → ghosts.syncs new ≡ ghosts.syncs old
  pub disk_faults : ghosts.disk_faults new ≡ ghosts.disk_faults old
  pub output_faults : ghosts.output_faults old ≤ ghosts.output_faults new

-- a store was closed, and a text put out; or the close was refused, and a stop line says why
pub record TellsClosed {S : Type 0} (ghosts : Ghosts S) (old new : S) (status : ℕ) (line : Text) : Type 0 where
  pub mid : S
  pub same : IsTrue ghosts.tells_reads → directory (ghosts.disk mid).reads ≡ directory (ghosts.disk old).reads
  pub output : IsTrue ghosts.tells_all → ghosts.output mid ≡ ghosts.output old
  pub instants : Leaves ghosts old mid (IsOld (directory (ghosts.disk old).reads) (ghosts.output old))
  pub faults : ghosts.disk_faults old ≤ ghosts.disk_faults mid
  pub others : ghosts.output_faults mid ≡ ghosts.output_faults old
  pub spends : IsTrue ghosts.tells_all → CostsAtMost 3 (ghosts.syncs old) (ghosts.syncs mid) (ghosts.log_bytes old) (ghosts.log_bytes mid)
  pub said : (IsClean ghosts mid × Tells ghosts mid new status line)
      ⊎ ((why : Why) × ((why ≡ whys.Memory) ⊎ ((why ≡ whys.Disk) × Rose (ghosts.disk_faults old) (ghosts.disk_faults mid))) × Says ghosts mid new status None why)

-- nothing is out, or some first bytes of one stop line without a number
abbrev pub SaysAtMost : Text → Text → Type 0
SaysAtMost before out = (out ≡ before) ⊎ ((why : Why) × (n : ℕ) × (out ≡ before ++ take n (stop_text None (status_of_why why) why)))

-- some first bytes of a text are out
abbrev pub TellsAtMost : Text → Text → Text → Type 0
TellsAtMost line before out = (n : ℕ) × (out ≡ before ++ take n line)

-- what a crash at the start may leave, and at most some first bytes of one stop line
pub record IsUnopened (disk : Disk) (before : Text) (left : Contents) (out : Text) : Type 0 where
  pub image : IsImage disk left
  pub put : SaysAtMost before out

-- From the first good sync on, what a crash leaves has P; until then a crash leaves what one at the start could leave. If no sync
-- was good, the disk is as it was, a crash leaves what one at the start could leave, and at most some first bytes of one stop
-- line are out.
abbrev pub Opens : {S : Type 0} → Ghosts S → S → S → (Contents → Text → Type 0) → Type 0
Opens ghosts old new P =
    BeforeFirstSync ghosts.instant ghosts.left_since ghosts.disk ghosts.output ghosts.syncs old new (IsUnopened (ghosts.disk old) (ghosts.output old))
    ⊎ FromFirstSync ghosts.instant ghosts.left_since ghosts.disk ghosts.output ghosts.syncs old new (Now (ghosts.disk old) (ghosts.output old)) P

-- If there is no configuration, a run's stop line says so, or memory ran out, or the output or the disk failed.
abbrev pub MissesList : Type 0 → ℕ → Text → Text → Type 0
MissesList told status before output =
    ((status ≡ 75) × (told → output ≡ before ++ stop_text None 75 whys.NoList)) ⊎ ((status ≡ 71) ⊎ ((status ≡ 73) ⊎ (status ≡ 111)))

-- What becomes of a batch that is committed and answered.
use Rattle.std.specs.Prelude.{◌≡◌, ◌≢◌, ◌⊎◌, ◌≤◌, ℕ, IsTrue, IsSome, List, [], ◌++◌, length, take, Option, Some, None}
use Rattle.ml_base.specs.Bytes.{Text}
use Rattle.ml_base.specs.Faults.{Rose}
use Rattle.ml_base.specs.declared.puts.Put.{Put}
use Rattle.ml_site.specs.declared.site.Site.{Ghosts}
use Rattle.ml_journal.specs.Calls.{Leaves}
use Rattle.ml_journal.specs.Log.{directory}
use Rattle.ml_journal.specs.Instants.{with_txn}
use Rattle.ml_journal.specs.Records.{content_size}
use Rattle.ml_journal.specs.Spending.{Spends}
use Rattle.ml_journal.specs.Stores.{grown}
use Rattle.ml_ending.specs.declared.lines.Why.{Why}
use Rattle.ml_ending.specs.declared.lines.Why.TheVariants as whys
use Rattle.ml_ending.specs.Endings.{CostsAtMost}
use Rattle.ml_run.specs.Leaving.{IsSettling}

-- a crash leaves the old directory and no more output, or the one with the txn and some first bytes of the lines
abbrev pub LeavesSettling : {S : Type 0} → Ghosts S → List Put → Text → S → S → Type 0
LeavesSettling ghosts txn lines old new = Leaves ghosts old new (IsSettling (directory (ghosts.disk old).reads) txn lines (ghosts.output old))

-- no fault of the disk or the output was forgotten
pub record KeepsFaults {S : Type 0} (ghosts : Ghosts S) (old new : S) : Type 0 where
  pub disk : ghosts.disk_faults old ≤ ghosts.disk_faults new
  pub output : ghosts.output_faults old ≤ ghosts.output_faults new

-- why a batch was refused: the output failed, or the disk, or memory ran out
abbrev pub IsRefused : {S : Type 0} → Ghosts S → Option Why → S → S → Type 0
IsRefused ghosts None old new = Rose (ghosts.output_faults old) (ghosts.output_faults new)
IsRefused ghosts (Some whys.Disk) old new = Rose (ghosts.disk_faults old) (ghosts.disk_faults new)
IsRefused ghosts (Some whys.Memory) old new = Unit {0}
IsRefused ghosts (Some _) old new = ⊥

-- the txn was committed, at this cost, and the lines are out
pub record IsSettled {S : Type 0} (ghosts : Ghosts S) (txn : List Put) (lines : Text) (old new : S) : Type 0 where
  pub dir : IsTrue ghosts.tells_reads → directory (ghosts.disk new).reads ≡ with_txn txn (directory (ghosts.disk old).reads)
  pub put : IsTrue ghosts.tells_all → ghosts.output new ≡ ghosts.output old ++ lines
  pub spends : IsTrue ghosts.tells_all → Spends ghosts (grown (length (ghosts.disk old).reads.log) txn) (content_size txn) old new

-- The commit was refused for a reason, and nothing was put out; or the txn was committed, the output failed, and some first bytes of the lines
-- are out.
pub record IsUnsettled {S : Type 0} (ghosts : Ghosts S) (txn : List Put) (lines : Text) (why : Option Why) (old new : S) : Type 0 where
  pub any : IsTrue ghosts.tells_reads → (directory (ghosts.disk new).reads ≡ directory (ghosts.disk old).reads) ⊎ (directory (ghosts.disk new).reads ≡ with_txn txn (directory (ghosts.disk old).reads))
  pub committed : IsTrue ghosts.tells_reads → why ≡ None → directory (ghosts.disk new).reads ≡ with_txn txn (directory (ghosts.disk old).reads)
  pub quiet : IsTrue ghosts.tells_all → IsSome why → ghosts.output new ≡ ghosts.output old
  pub cut : IsTrue ghosts.tells_all → (n : ℕ) × (ghosts.output new ≡ ghosts.output old ++ take n lines)
  pub refused : IsRefused ghosts why old new
  pub some : IsSome why → txn ≢ []
  pub spends : IsTrue ghosts.tells_all → CostsAtMost 5 (ghosts.syncs old) (ghosts.syncs new) (ghosts.log_bytes old) (ghosts.log_bytes new)

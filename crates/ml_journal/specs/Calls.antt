-- What a call of the journal leaves of its site: the disk, the directory, and what a crash may leave.
use Rattle.std.specs.Prelude.{◌≡◌, ◌⊎◌, ◌≤◌, ◌+◌, ℕ, IsTrue, List, [], ◌∷◌, Result, OnOk}
use Rattle.ml_base.specs.Bytes.{Text, nul}
use Rattle.ml_base.specs.Faults.{Rose}
use Rattle.ml_base.specs.declared.puts.Put.{Put}
use Rattle.ml_site.specs.Disk.{Contents, Part, Changes, Now, IsAtRest}
use Rattle.ml_site.specs.Instants.{LeavesOnly, Within}
use Rattle.ml_site.specs.declared.site.Site.{Ghosts}
use Rattle.ml_journal.specs.Log.{directory}
use Rattle.ml_journal.specs.Instants.{with_txn, IsOld, IsOldOrNew}

-- whatever a crash left at any instant since the old site has P, and so has whatever one leaves now
abbrev pub Leaves : {S : Type 0} → Ghosts S → S → S → (Contents → Text → Type 0) → Type 0
Leaves ghosts old new P = IsTrue ghosts.tells_all → LeavesOnly ghosts.instant ghosts.left_since ghosts.disk ghosts.output old new P

-- the instants of right now are the disk's images with the output so far, and no others
abbrev pub OnlyNow : {S : Type 0} → Ghosts S → Type 0
OnlyNow {S} ghosts = (site : S) (left : Contents) (out : List ℕ) → IsTrue ghosts.tells_all → ghosts.left_since site (ghosts.instant site) left out → Now (ghosts.disk site) (ghosts.output site) left out

-- Nothing is put out, there are at most so many more syncs, no count falls, and if the call failed, the disk's count of
-- faults rose.
pub record Keeps {S : Type 0} (ghosts : Ghosts S) (most : ℕ) (failed : Type 0) (old new : S) : Type 0 where
  pub output : IsTrue ghosts.tells_all → ghosts.output new ≡ ghosts.output old
  pub syncs : IsTrue ghosts.tells_all → ghosts.syncs new ≤ ghosts.syncs old + most
  pub syncs_stay : IsTrue ghosts.tells_all → ghosts.syncs old ≤ ghosts.syncs new
  pub log_bytes_stay : IsTrue ghosts.tells_all → ghosts.log_bytes old ≤ ghosts.log_bytes new
  pub faults : ghosts.disk_faults old ≤ ghosts.disk_faults new
  pub cause : failed → Rose (ghosts.disk_faults old) (ghosts.disk_faults new)
  pub others : ghosts.output_faults new ≡ ghosts.output_faults old

-- the disk is left as it is: no call on it was made; what reads give, the images, the syncs, the log bytes and the count of faults are the same
pub record LeavesDisk {S : Type 0} (ghosts : Ghosts S) (old new : S) : Type 0 where
  pub reads : IsTrue ghosts.tells_reads → (ghosts.disk new).reads ≡ (ghosts.disk old).reads
  pub disk_is : IsTrue ghosts.tells_all → ghosts.disk new ≡ ghosts.disk old
  pub syncs : IsTrue ghosts.tells_all → ghosts.syncs new ≡ ghosts.syncs old
  pub log_bytes : IsTrue ghosts.tells_all → ghosts.log_bytes new ≡ ghosts.log_bytes old
  pub disk_faults_are : ghosts.disk_faults new ≡ ghosts.disk_faults old
  pub disk_calls_are : ghosts.disk_calls new ≡ ghosts.disk_calls old

-- the directory stays the same, as reads give it and at every instant
pub record KeepsDirectory {S : Type 0} (ghosts : Ghosts S) (old new : S) : Type 0 where
  pub same : IsTrue ghosts.tells_reads → directory (ghosts.disk new).reads ≡ directory (ghosts.disk old).reads
  pub instants : Leaves ghosts old new (IsOld (directory (ghosts.disk old).reads) (ghosts.output old))

-- the directory is the old one or the one with the whole txn, as reads give it and at every instant
pub record ChangesDirectory {S : Type 0} (ghosts : Ghosts S) (txn : List Put) (old new : S) : Type 0 where
  pub any : IsTrue ghosts.tells_reads → (directory (ghosts.disk new).reads ≡ directory (ghosts.disk old).reads)
      ⊎ (directory (ghosts.disk new).reads ≡ with_txn txn (directory (ghosts.disk old).reads))
  pub instants : Leaves ghosts old new (IsOldOrNew (directory (ghosts.disk old).reads) txn (ghosts.output old))

-- the log is one closed gate, and nothing is pending
pub record IsClean {S : Type 0} (ghosts : Ghosts S) (site : S) : Type 0 where
  pub log : IsTrue ghosts.tells_reads → (ghosts.disk site).reads.log ≡ nul ∷ []
  pub rest : IsTrue ghosts.tells_all → IsAtRest (ghosts.disk site)

-- a part of a disk at rest was changed and settled: at every instant, and after an error, nothing else differs
pub record Settles {S E : Type 0} (ghosts : Ghosts S) (result : Result (Unit {0}) E) (part : Part) (done : Contents) (old new : S) : Type 0 where
  pub reads : IsTrue ghosts.tells_reads → Changes result part done (ghosts.disk old).reads (ghosts.disk new).reads
  pub rest : IsTrue ghosts.tells_all → OnOk result (IsAtRest (ghosts.disk new))
  pub instants : Leaves ghosts old new (Within (ghosts.disk old).reads (part ∷ []) (ghosts.output old))

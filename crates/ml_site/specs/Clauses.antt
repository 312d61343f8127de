-- What the contracts of a site's calls have in common. The members of the trait are passed to each record.
use Rattle.std.specs.Prelude.{◌≡◌, ◌≤◌, ◌+◌, ℕ, Bool, IsTrue, List, Result}
use Rattle.ml_base.specs.Faults.{next_call}
use Rattle.ml_site.specs.Disk.{Contents, Part, Disk, Changes, Pends, Now, Elapses}

-- the disk is as it was
pub record SameDisk {S : Type 0} (reads_told told : Bool) (disk_of : S → Disk) (old new : S) : Type 0 where
  pub reads : IsTrue reads_told → (disk_of new).reads ≡ (disk_of old).reads
  pub disk : IsTrue told → disk_of new ≡ disk_of old

-- one part of the disk was changed, or was to be
pub record ChangesPart {S E : Type 0} (reads_told told : Bool) (disk_of : S → Disk) (result : Result (Unit {0}) E) (part : Part) (done : Contents) (old new : S) : Type 0 where
  pub reads : IsTrue reads_told → Changes result part done (disk_of old).reads (disk_of new).reads
  pub pends : IsTrue told → Pends result part (disk_of old) (disk_of new)

-- what else every call on the disk does: it is counted, puts nothing out, and a crash during it leaves what a crash after it may leave
pub record OnDisk {S : Type 0} (told : Bool) (disk_of : S → Disk) (output_of : S → List ℕ) (instant_of : S → ℕ) (left_of : S → ℕ → Contents → List ℕ → Type 0) (faults_of others_of calls_of : S → ℕ) (old new : S) : Type 0 where
  pub output : IsTrue told → output_of new ≡ output_of old
  pub time : IsTrue told → Elapses (instant_of old) (instant_of new) (left_of old) (left_of new) (Now (disk_of new) (output_of new))
  pub faults : faults_of old ≤ faults_of new
  pub others : others_of new ≡ others_of old
  pub calls : calls_of new ≡ next_call (calls_of old)

-- What else a call does that looks at the disk at most once: it puts nothing out, and a crash during it leaves what a crash after it
-- may leave.
pub record LooksOnce {S : Type 0} (told : Bool) (disk_of : S → Disk) (output_of : S → List ℕ) (instant_of : S → ℕ) (left_of : S → ℕ → Contents → List ℕ → Type 0) (faults_of others_of calls_of : S → ℕ) (old new : S) : Type 0 where
  pub output : IsTrue told → output_of new ≡ output_of old
  pub time : IsTrue told → Elapses (instant_of old) (instant_of new) (left_of old) (left_of new) (Now (disk_of new) (output_of new))
  pub faults : faults_of old ≤ faults_of new
  pub others : others_of new ≡ others_of old
  pub calls : calls_of old ≤ calls_of new
  pub once : calls_of new ≤ calls_of old + 1

-- the counts of syncs and of bytes for the log are the same
pub record SameNumbers {S : Type 0} (told : Bool) (syncs_of log_bytes_of : S → ℕ) (old new : S) : Type 0 where
  pub syncs : IsTrue told → syncs_of new ≡ syncs_of old
  pub log_bytes : IsTrue told → log_bytes_of new ≡ log_bytes_of old

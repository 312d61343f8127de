-- How each call of a site in memory ends: done, failed, or without memory.
use Rattle.std.specs.Prelude.{◌≡◌, ◌⊎◌, ◌↔◌, ◌<◌, ◌≤◌, ℕ, ◌+◌, nat_lt, if◌then◌else◌, List, [], ◌++◌, length, Contains, Result, IsOk, IsErr, IsErrOf}
use Rattle.ml_base.specs.Faults.{next_call, one_more}
use Rattle.ml_site.specs.declared.mem_site.MemSite.{MemSite}
use Rattle.ml_site.specs.declared.site.Failed.{Failed}
use Rattle.ml_site.specs.declared.site.SiteError.{SiteError}
use Rattle.ml_site.specs.declared.site.SiteError.TheVariants.{Memory, Failed as FailedCall}
use Rattle.ml_site.specs.Disk.{Part}
use Rattle.ml_site.specs.MemSites.{mem_disk, mem_output, mem_calls, call_room, output_room, site_disk_faults, site_output_faults, site_failing, site_last, site_made}

-- a call was done: it stands in the record, and is no fault
pub record WasDone (faults : MemSite → ℕ) (old new : MemSite) : Type 0 where
  pub calls : mem_calls new ≡ mem_calls old + 1
  pub faults_same : faults new ≡ faults old

-- A call failed. Its fault was counted, and neither what reads give nor what was put out has changed. If the record had room,
-- the call stands there, and these parts are pending.
pub record HasFailed (parts : List Part) (faults : MemSite → ℕ) (old new : MemSite) : Type 0 where
  pub calls : mem_calls new ≡ (if nat_lt (mem_calls old) (call_room old) then mem_calls old + 1 else mem_calls old)
  pub fault : faults new ≡ one_more (faults old)
  pub reads : (mem_disk new).reads ≡ (mem_disk old).reads
  pub output : mem_output new ≡ mem_output old
  pub pending : (mem_disk new).pending ≡ (if nat_lt (mem_calls old) (call_room old) then parts ++ (mem_disk old).pending else (mem_disk old).pending)

-- memory ran out: the call doesn't stand in the record, and is no fault
pub record WasWanting (faults : MemSite → ℕ) (old new : MemSite) : Type 0 where
  pub calls : mem_calls new ≡ mem_calls old
  pub disk : mem_disk new ≡ mem_disk old
  pub faults_same : faults new ≡ faults old

-- A call was counted, and ended in one of three ways. It failed exactly if its number is named or above the last one's, or
-- if the record was full or there was no room elsewhere.
pub record EndsAsPlanned (done failed wanting no_room : Type 0) (parts : List Part) (faults : MemSite → ℕ) (old new : MemSite) : Type 0 where
  pub made : site_made new ≡ next_call (site_made old)
  pub failing : site_failing new ≡ site_failing old
  pub last : site_last new ≡ site_last old
  pub room : call_room new ≡ call_room old
  pub room_out : output_room new ≡ output_room old
  pub named : failed ↔ (Contains (site_failing old) (site_made new) ⊎ ((site_last old < site_made new) ⊎ ((call_room old ≤ mem_calls old) ⊎ no_room)))
  pub if_done : done → WasDone faults old new
  pub if_failed : failed → HasFailed parts faults old new
  pub if_wanting : wanting → WasWanting faults old new

-- how a call on the disk ends that may take memory
abbrev pub DiskEnds : {T : Type 0} → Result T SiteError → List Part → MemSite → MemSite → Type 0
DiskEnds result parts old new = EndsAsPlanned (IsOk result) (IsErrOf result FailedCall) (IsErrOf result Memory) ⊥ parts site_disk_faults old new

-- how a call on the disk ends that takes no memory
abbrev pub PlainEnds : Result (Unit {0}) Failed → List Part → MemSite → MemSite → Type 0
PlainEnds result parts old new = EndsAsPlanned (IsOk result) (IsErr result) ⊥ ⊥ parts site_disk_faults old new

-- how a call ends that puts these bytes out
abbrev pub GiveEnds : Result (Unit {0}) Failed → List ℕ → MemSite → MemSite → Type 0
GiveEnds result bytes old new = EndsAsPlanned (IsOk result) (IsErr result) ⊥ (output_room old < length (mem_output old) + length bytes) [] site_output_faults old new

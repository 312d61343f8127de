-- What a disk in memory holds after its calls, and what these calls count for.
use Rattle.std.specs.Prelude.{◌≡◌, ◌≤◌, ℕ, ◌+◌, nat_le, Bool, true, false, if◌then◌else◌, List, [], ◌∷◌, length, take, Option, Some, None}
use Rattle.std.specs.BTreeMap.{BTreeMap, get}
use Rattle.ml_base.specs.declared.names.Name.{Name}
use Rattle.ml_site.specs.declared.call.Call.{Call}
use Rattle.ml_site.specs.declared.call.Call.TheVariants.{Read, WriteLog, FailedLog, CutLog, FailedCut, WriteFile, RemoveFile, FailedFile, Sync, FailedSync, Give}
use Rattle.ml_site.specs.Disk.{Contents, Part, Disk, Range, Cut, File, IsImage, log_with, log_cut, file_with}
use Rattle.ml_base.specs.Name.{name_cmp}

-- the bytes of a file, or None if it is absent
abbrev pub lookup : BTreeMap Name (List ℕ) → Name → Option (List ℕ)
lookup files name = get name_cmp files name

-- what a log and files hold
abbrev pub contents : List ℕ → BTreeMap Name (List ℕ) → Contents
contents log files = record { log = log; files = lookup files }

-- a disk with nothing pending
abbrev pub at_rest : Contents → Disk
at_rest c = record { reads = c; settled = c; pending = [] }

-- one part more is pending, and reads give this
abbrev pub pends : Disk → Part → Contents → Disk
pends disk part reads = record { reads = reads; settled = disk.settled; pending = part ∷ disk.pending }

-- what one call does to a disk
abbrev pub step : Disk → Call → Disk
step disk Read = disk
step disk (WriteLog at bytes) = pends disk (Range at (length bytes)) (if nat_le at (length disk.reads.log) then log_with disk.reads at bytes else disk.reads)
step disk (FailedLog at size) = pends disk (Range at size) disk.reads
step disk (CutLog size) = pends disk (Cut size) (log_cut disk.reads size)
step disk (FailedCut size) = pends disk (Cut size) disk.reads
step disk (WriteFile name bytes) = pends disk (File name) (file_with disk.reads name (Some bytes))
step disk (RemoveFile name) = pends disk (File name) (file_with disk.reads name None)
step disk (FailedFile name) = pends disk (File name) disk.reads
step disk Sync = at_rest disk.reads
step disk FailedSync = disk
step disk (Give n) = disk

-- a call is a sync that succeeded
abbrev pub settles : Call → Bool
settles Sync = true
settles _ = false

-- a disk after these calls, in their order
abbrev pub after : Disk → List Call → Disk
after disk [] = disk
after disk (call ∷ calls) = after (step disk call) calls

-- how many bytes a call put out
abbrev pub size_given : Call → ℕ
size_given (Give n) = n
size_given _ = 0

-- how many bytes these calls put out
abbrev pub given : List Call → ℕ
given [] = 0
given (call ∷ calls) = size_given call + given calls

-- 1 for a sync that succeeded
abbrev pub size_synced : Call → ℕ
size_synced Sync = 1
size_synced _ = 0

-- how many bytes a call handed to the log
abbrev pub size_logged : Call → ℕ
size_logged (WriteLog at bytes) = length bytes
size_logged _ = 0

-- the sum over these calls
abbrev pub total : (Call → ℕ) → List Call → ℕ
total size [] = 0
total size (call ∷ calls) = size call + total size calls

-- what a crash since time t may have left: an image after some calls, with the output by then, or also a part of the next call's piece
pub record Left (start : Disk) (calls : List Call) (output : List ℕ) (t : ℕ) (left : Contents) (out : List ℕ) : Type 0 where
  pub number : ℕ
  pub since : t ≤ number
  pub until : number ≤ length calls
  pub count : ℕ
  pub at_least : given (take number calls) ≤ count
  pub at_most : count ≤ given (take (number + 1) calls)
  pub image : IsImage (after start (take number calls)) left
  pub output_is : out ≡ take count output

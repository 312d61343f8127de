-- What a site in memory shows: its disk, its output, its record and its counts.
use Rattle.std.specs.Prelude.{◌≡◌, ℕ, ◌-◌, ◌^◌, true, List, [], length, take}
use Rattle.std.specs.Vec.{vec_capacity}
use Rattle.ml_site.specs.declared.mem_site.MemSite.{MemSite}
use Rattle.ml_site.specs.Clauses.{OnDisk, SameNumbers}
use Rattle.ml_site.specs.Disk.{Contents, Disk}
use Rattle.ml_site.specs.Recorded.{after, at_rest, contents, given, Left, total, size_synced, size_logged}

-- the disk after the calls of the record
abbrev pub mem_disk : MemSite → Disk
mem_disk s = after (at_rest (contents s.start_log s.start_files)) s.calls.items

-- the disk after so many calls, or after all if there are fewer
abbrev pub mem_disk_at : MemSite → ℕ → Disk
mem_disk_at s instant = after (at_rest (contents s.start_log s.start_files)) (take instant s.calls.items)

-- what a crash at some instant from that time on may have left, with the output so far
abbrev pub mem_left_since : MemSite → ℕ → Contents → List ℕ → Type 0
mem_left_since s = Left (at_rest (contents s.start_log s.start_files)) s.calls.items s.output.items

-- what so many calls put out
abbrev pub mem_output_at : MemSite → ℕ → List ℕ
mem_output_at s instant = take (given (take instant s.calls.items)) s.output.items

-- what was put out
abbrev pub mem_output : MemSite → List ℕ
mem_output s = s.output.items

-- how many calls the record has
abbrev pub mem_calls : MemSite → ℕ
mem_calls s = length s.calls.items

-- for how many calls the record has room
abbrev pub call_room : MemSite → ℕ
call_room s = vec_capacity s.calls

-- for how many bytes the output has room
abbrev pub output_room : MemSite → ℕ
output_room s = s.output_room

-- how often a call on the disk has failed
abbrev pub site_disk_faults : MemSite → ℕ
site_disk_faults s = s.disk_faults

-- how often the output has failed
abbrev pub site_output_faults : MemSite → ℕ
site_output_faults s = s.output_faults

-- the calls, counted from 1, that are to fail
abbrev pub site_failing : MemSite → List ℕ
site_failing s = s.plan.failing

-- the number of the last call that may succeed
abbrev pub site_last : MemSite → ℕ
site_last s = s.last_call

-- how many calls were made
abbrev pub site_made : MemSite → ℕ
site_made s = s.plan.made

-- how many calls on the disk were made
abbrev pub site_disk_calls : MemSite → ℕ
site_disk_calls s = s.disk_calls

-- how many syncs succeeded
abbrev pub mem_syncs : MemSite → ℕ
mem_syncs s = total size_synced s.calls.items

-- how many bytes were handed to the log
abbrev pub mem_log_bytes : MemSite → ℕ
mem_log_bytes s = total size_logged s.calls.items

-- what else every call on the disk does
abbrev pub MemOnDisk : MemSite → MemSite → Type 0
MemOnDisk old new = OnDisk true mem_disk mem_output mem_calls mem_left_since site_disk_faults site_output_faults site_disk_calls old new

-- the counts of syncs and of bytes for the log are the same
abbrev pub MemSameNumbers : MemSite → MemSite → Type 0
MemSameNumbers old new = SameNumbers true mem_syncs mem_log_bytes old new

-- A site over an image, with room for so many calls and bytes of output. No call was made, none is to fail, and nothing is pending.
pub record IsNew (image : Contents) (calls output : ℕ) (site : MemSite) : Type 0 where
  pub disk : mem_disk site ≡ at_rest image
  pub put_out : mem_output site ≡ []
  pub instant : mem_calls site ≡ 0
  pub disk_calls : site_disk_calls site ≡ 0
  pub disk_faults : site_disk_faults site ≡ 0
  pub output_faults : site_output_faults site ≡ 0
  pub room : call_room site ≡ calls
  pub room_out : output_room site ≡ output
  pub failing : site_failing site ≡ []
  pub last : site_last site ≡ 2 ^ 64 - 1
  pub made : site_made site ≡ 0

-- nothing of a site has changed except which calls are to fail
pub record ChangesPlan (old new : MemSite) : Type 0 where
  pub made : site_made new ≡ site_made old
  pub disk : mem_disk new ≡ mem_disk old
  pub put_out : mem_output new ≡ mem_output old
  pub calls : mem_calls new ≡ mem_calls old
  pub room : call_room new ≡ call_room old
  pub room_out : output_room new ≡ output_room old
  pub disk_calls : site_disk_calls new ≡ site_disk_calls old
  pub disk_faults : site_disk_faults new ≡ site_disk_faults old
  pub output_faults : site_output_faults new ≡ site_output_faults old

-- One image that a crash may leave, for each way of filling what is pending.
use Rattle.std.specs.Prelude.{ℕ, ◌+◌, nat_lt, nat_le, Bool, true, not, ◌&&◌, ◌||◌, if◌then◌else◌, List, [], ◌∷◌, length, replicate, Option, option_map}
use Rattle.ml_base.specs.declared.names.Name.{Name}
use Rattle.ml_site.specs.declared.fill.Fill.{Fill}
use Rattle.ml_site.specs.declared.fill.Fill.TheVariants as fills
use Rattle.ml_site.specs.declared.call.Call.{Call}
use Rattle.ml_site.specs.declared.call.Call.TheVariants.{WriteLog, FailedLog, CutLog, FailedCut, WriteFile, RemoveFile, FailedFile}
use Rattle.ml_site.specs.Disk.{Contents, Part, Disk, Range, Cut, File}
use Rattle.ml_base.specs.Dir.{same_name}

-- whether this place of the log is in no pending part
abbrev pub settled_at : ℕ → List Part → Bool
settled_at place [] = true
settled_at place (Range at n ∷ parts) = (nat_lt place at || nat_le (at + n) place) && settled_at place parts
settled_at place (Cut n ∷ parts) = nat_lt place n && settled_at place parts
settled_at place (File name ∷ parts) = settled_at place parts

-- whether this file is not pending
abbrev pub settled_file : Name → List Part → Bool
settled_file name [] = true
settled_file name (Range at n ∷ parts) = settled_file name parts
settled_file name (Cut n ∷ parts) = settled_file name parts
settled_file name (File other ∷ parts) = not (same_name name other) && settled_file name parts

-- the log from this place on, with a byte at every place that is pending
abbrev pub log_filled : ℕ → List Part → ℕ → List ℕ → List ℕ
log_filled byte parts place [] = []
log_filled byte parts place (x ∷ log) = (if settled_at place parts then x else byte) ∷ log_filled byte parts (place + 1) log

-- a file of the same length that has one byte throughout
abbrev pub file_filled : ℕ → Option (List ℕ) → Option (List ℕ)
file_filled byte file = option_map (λ (bytes : List ℕ). replicate (length bytes) byte) file

-- what is held, with a byte at every place of the log and of the files that is pending
abbrev pub bytes_filled : ℕ → List Part → Contents → Contents
bytes_filled byte parts held = record {
  log = log_filled byte parts 0 held.log;
  files = λ name. if settled_file name parts then held.files name else file_filled byte (held.files name);
}

-- what a crash leaves if all that is pending is old, new or one byte throughout
abbrev pub filled : Fill → Disk → Contents
filled fills.Old disk = disk.settled
filled fills.New disk = disk.reads
filled (fills.Byte byte) disk = bytes_filled byte disk.pending disk.reads

-- the part that a call leaves pending
abbrev pub parts_of : Call → List Part
parts_of (WriteLog at bytes) = Range at (length bytes) ∷ []
parts_of (FailedLog at size) = Range at size ∷ []
parts_of (CutLog size) = Cut size ∷ []
parts_of (FailedCut size) = Cut size ∷ []
parts_of (WriteFile name bytes) = File name ∷ []
parts_of (RemoveFile name) = File name ∷ []
parts_of (FailedFile name) = File name ∷ []
parts_of _ = []

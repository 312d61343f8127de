-- Which directory a log and files stand for.
use Rattle.std.specs.Prelude.{◌≡◌, ◌≢◌, ◌⊎◌, ◌<◌, ◌^◌, IsTrue, ℕ, zero, suc, ◌==◌, List, [], ◌∷◌, ◌++◌, length, Option, Some, None, option_map, if◌then◌else◌}
use Rattle.ml_base.specs.Bytes.{Text}
use Rattle.std.specs.List.{AllByRecursion}
use Rattle.ml_base.specs.Dir.{Dir, are_files, with_puts}
use Rattle.ml_base.specs.declared.puts.Put.{Put}
use Rattle.ml_site.specs.Disk.{Contents}
use Rattle.ml_journal.specs.Records.{record_at, spelled_puts, spelled_record}

-- the puts of a record before those of the records after it
abbrev pub record_and_more : (Text → Option (List Put)) → Option (List Put × Text) → Option (List Put)
record_and_more more None = None
record_and_more more (Some found) = option_map (λ puts. found.0 ++ puts) (more found.1)

-- The puts of the open records of a log, up to its first closed gate or its last byte; at most so many records
-- are looked at. There is no value if no record follows an open gate that isn't the last byte.
abbrev pub log_puts_within : ℕ → Text → Option (List Put)
log_puts_within n [] = Some []
log_puts_within n (gate ∷ []) = Some []
log_puts_within zero (gate ∷ b ∷ rest) = Some []
log_puts_within (suc n) (gate ∷ b ∷ rest) = if gate == 1 then record_and_more (log_puts_within n) (record_at (b ∷ rest)) else Some []

-- the same for all records; a log has at most as many records as bytes
abbrev pub log_puts : Text → Option (List Put)
log_puts log = log_puts_within (length log) log

-- the files with puts laid over them
abbrev pub laid_over : Dir → Option (List Put) → Option Dir
laid_over files puts = option_map (with_puts files) puts

-- the directory that a disk holds: its files with the records of the log that count laid over them
abbrev pub directory : Contents → Option Dir
directory held = laid_over held.files (log_puts held.log)

-- puts of files of the table, short enough together for a netstring
abbrev pub IsWritable : List Put → Type 0
IsWritable puts = IsTrue (are_files puts) × (length (spelled_puts puts) < 10 ^ 18)

-- open records of these rows of puts, one after another
abbrev pub open_records : List (List Put) → Text
open_records [] = []
open_records (puts ∷ rows) = 1 ∷ spelled_record puts ++ open_records rows

-- the puts of these rows, in their order
abbrev pub all_puts : List (List Put) → List Put
all_puts [] = []
all_puts (puts ∷ rows) = puts ++ all_puts rows

-- an end of a log that holds no record that counts: no byte, a last gate, or a closed gate
abbrev pub HoldsNone : Text → Type 0
HoldsNone [] = Unit {0}
HoldsNone (gate ∷ []) = Unit {0}
HoldsNone (gate ∷ b ∷ rest) = gate ≢ 1

-- an open gate that isn't the last byte and isn't followed by a record
abbrev pub IsBroken : Text → Type 0
IsBroken [] = ⊥
IsBroken (gate ∷ []) = ⊥
IsBroken (gate ∷ b ∷ rest) = (gate ≡ 1) × (record_at (b ∷ rest) ≡ None)

-- a log is open records and then an end, which holds none or is broken
abbrev pub IsSplit : Text → List (List Put) → Text → Type 0
IsSplit log rows end = (log ≡ open_records rows ++ end) × AllByRecursion IsWritable rows × (HoldsNone end ⊎ IsBroken end)

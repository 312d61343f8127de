-- What a disk holds, and what a crash may leave of it.
use Rattle.std.specs.Prelude.{◌≡◌, ◌≢◌, ◌⊎◌, ◌<◌, ◌≤◌, ℕ, ◌+◌, min, max, false, IsTrue, List, [], ◌∷◌, ◌++◌, length, take, drop, get_or, Option, None, Result, OnOk, OnErr}
use Rattle.ml_base.specs.declared.names.Name.{Name}
use Rattle.ml_base.specs.Dir.{with_file}

-- a log and files, as they are read or as a crash leaves them
pub record Contents : Type 0 where
  pub log : List ℕ
  pub files : Name → Option (List ℕ)

-- a part of the disk that no sync has settled
pub data Part : Type 0 where
  Range : (at size : ℕ) → Part
  Cut : (size : ℕ) → Part
  File : (name : Name) → Part

-- what reads give, what the last sync settled, and what is pending since
pub record Disk : Type 0 where
  pub reads : Contents
  pub settled : Contents
  pub pending : List Part

-- the smaller of the length and the least pending cut
abbrev pub least : ℕ → List Part → ℕ
least size [] = size
least size (Range at n ∷ parts) = least size parts
least size (Cut n ∷ parts) = min n (least size parts)
least size (File name ∷ parts) = least size parts

-- the larger of the length and the greatest end of a pending write
abbrev pub greatest : ℕ → List Part → ℕ
greatest size [] = size
greatest size (Range at n ∷ parts) = max (at + n) (greatest size parts)
greatest size (Cut n ∷ parts) = greatest size parts
greatest size (File name ∷ parts) = greatest size parts

-- this place of the log is in no pending part
abbrev pub IsSettledAt : ℕ → List Part → Type 0
IsSettledAt place [] = Unit {0}
IsSettledAt place (Range at n ∷ parts) = ((place < at) ⊎ (at + n ≤ place)) × IsSettledAt place parts
IsSettledAt place (Cut n ∷ parts) = (place < n) × IsSettledAt place parts
IsSettledAt place (File name ∷ parts) = IsSettledAt place parts

-- this file is not pending
abbrev pub IsSettledFile : Name → List Part → Type 0
IsSettledFile name [] = Unit {0}
IsSettledFile name (Range at n ∷ parts) = IsSettledFile name parts
IsSettledFile name (Cut n ∷ parts) = IsSettledFile name parts
IsSettledFile name (File other ∷ parts) = (name ≢ other) × IsSettledFile name parts

-- what a crash may leave: any bytes in a pending part, and the rest as it was settled
pub record MayLeave (settled : Contents) (pending : List Part) (left : Contents) : Type 0 where
  pub no_shorter : least (length settled.log) pending ≤ length left.log
  pub no_longer : length left.log ≤ greatest (length settled.log) pending
  pub log : (place : ℕ) → place < length left.log → IsSettledAt place pending → get_or left.log place 0 ≡ get_or settled.log place 0
  pub files : (name : Name) → IsSettledFile name pending → left.files name ≡ settled.files name

-- what a crash of this disk may leave
abbrev pub IsImage : Disk → Contents → Type 0
IsImage disk left = MayLeave disk.settled disk.pending left

-- the log with these bytes at a place
abbrev pub log_with : Contents → ℕ → List ℕ → Contents
log_with old at bytes = record { log = take at old.log ++ bytes ++ drop (at + length bytes) old.log; files = old.files }

-- the log cut to its first bytes
abbrev pub log_cut : Contents → ℕ → Contents
log_cut old size = record { log = take size old.log; files = old.files }

-- what is held, with one file set or removed
abbrev pub file_with : Contents → Name → Option (List ℕ) → Contents
file_with old name bytes = record { log = old.log; files = with_file old.files name bytes }

-- a call that changes a part: if it succeeds, all of it is done; if it fails, nothing outside the part has changed
pub record Changes {E : Type 0} (result : Result (Unit {0}) E) (part : Part) (done old new : Contents) : Type 0 where
  pub ok : OnOk result (new ≡ done)
  pub part_only : MayLeave old (part ∷ []) new

-- the part is pending then, unless an error came before anything was done
pub record Pends {E : Type 0} (result : Result (Unit {0}) E) (part : Part) (old new : Disk) : Type 0 where
  pub settled : new.settled ≡ old.settled
  pub ok : OnOk result (new.pending ≡ part ∷ old.pending)
  pub err : OnErr result ((new.pending ≡ part ∷ old.pending) ⊎ (new.pending ≡ old.pending))

-- nothing is pending
pub record IsAtRest (disk : Disk) : Type 0 where
  pub settled : disk.settled ≡ disk.reads
  pub pending : disk.pending ≡ []

-- what a crash at this instant may leave, with the output so far
abbrev pub Now : Disk → List ℕ → Contents → List ℕ → Type 0
Now disk output left out = IsImage disk left × (out ≡ output)

-- what a crash may leave while this piece is put out
abbrev pub Giving : Disk → List ℕ → List ℕ → Contents → List ℕ → Type 0
Giving disk output piece left out = IsImage disk left × ((n : ℕ) × (out ≡ output ++ take n piece))

-- time goes on; what a crash since an earlier time may have left, it may have left before, or it has P
pub record Elapses (before now : ℕ) (past since : ℕ → Contents → List ℕ → Type 0) (P : Contents → List ℕ → Type 0) : Type 0 where
  pub later : before ≤ now
  pub nothing_else : (t : ℕ) (left : Contents) (out : List ℕ) → t ≤ before → since t left out → past t left out ⊎ P left out

-- an empty disk, for a site that tells nothing
abbrev pub nothing : Disk
nothing = record { reads = record { log = []; files = λ name. None }; settled = record { log = []; files = λ name. None }; pending = [] }

-- a type promises nothing of what it doesn't tell
pub untold : {A : Type 0} → IsTrue false → A
untold told = absurd (cc told)

-- What a crash leaves if only files are pending.
use Rattle.std.proofs.Common.{◌≡◌, ◌≢◌, ⊎_elim, ℕ, List, [], ◌∷◌, length, Result, Ok, Err, refl, sym, ◌∙◌, ap, subst, arith}
use Rattle.std.proofs.lemmas.List.{ext_get_or}
use Rattle.ml_base.specs.declared.names.Name.{Name}
use Rattle.ml_site.specs.Disk.{Contents, Part, Range, Cut, File, Disk, MayLeave, IsImage, IsAtRest, Pends, least, greatest, IsSettledAt, IsSettledFile}

-- every part is a file that has P
abbrev pub AreFiles : (Name → Type 0) → List Part → Type 0
AreFiles P [] = Unit {0}
AreFiles P (Range at n ∷ parts) = ⊥
AreFiles P (Cut n ∷ parts) = ⊥
AreFiles P (File name ∷ parts) = P name × AreFiles P parts

files_least : (P : Name → Type 0) (parts : List Part) (n : ℕ) → AreFiles P parts → least n parts ≡ n
files_least P [] n are = refl
files_least P (Range at k ∷ parts) n are = absurd are
files_least P (Cut k ∷ parts) n are = absurd are
files_least P (File name ∷ parts) n are = files_least P parts n are.1

files_greatest : (P : Name → Type 0) (parts : List Part) (n : ℕ) → AreFiles P parts → greatest n parts ≡ n
files_greatest P [] n are = refl
files_greatest P (Range at k ∷ parts) n are = absurd are
files_greatest P (Cut k ∷ parts) n are = absurd are
files_greatest P (File name ∷ parts) n are = files_greatest P parts n are.1

files_place : (P : Name → Type 0) (parts : List Part) (place : ℕ) → AreFiles P parts → IsSettledAt place parts
files_place P [] place are = tt
files_place P (Range at k ∷ parts) place are = absurd are
files_place P (Cut k ∷ parts) place are = absurd are
files_place P (File name ∷ parts) place are = files_place P parts place are.1

files_other : (P : Name → Type 0) (parts : List Part) (name : Name) → AreFiles P parts → ((other : Name) → P other → name ≢ other) → IsSettledFile name parts
files_other P [] name are beside = tt
files_other P (Range at k ∷ parts) name are beside = absurd are
files_other P (Cut k ∷ parts) name are beside = absurd are
files_other P (File other ∷ parts) name are beside = (beside other are.0, files_other P parts name are.1 beside)

-- the log is as it was
pub files_log : (P : Name → Type 0) (old left : Contents) (parts : List Part) → AreFiles P parts → MayLeave old parts left → left.log ≡ old.log
files_log P old left parts are may = ext_get_or 0 left.log old.log
    (omega (arith, may.no_shorter, may.no_longer, files_least P parts (length old.log) are, files_greatest P parts (length old.log) are))
    (λ place lt. may.log place lt (files_place P parts place are))

-- every file that hasn't P is as it was too
pub files_beside : (P : Name → Type 0) (old left : Contents) (parts : List Part) (name : Name) → AreFiles P parts → MayLeave old parts left
    → ((other : Name) → P other → name ≢ other) → left.files name ≡ old.files name
files_beside P old left parts name are may beside = may.files name (files_other P parts name are beside)

-- the same for one file
pub file_log : (old left : Contents) (name : Name) → MayLeave old (File name ∷ []) left → left.log ≡ old.log
file_log old left name may = files_log (λ n. n ≡ name) old left (File name ∷ []) (refl, tt) may

-- only files that have P are pending, over these contents
pub record AreOver (P : Name → Type 0) (old : Contents) (disk : Disk) : Type 0 where
  pub settled : disk.settled ≡ old
  pub pending : AreFiles P disk.pending

-- an image of such a disk has the log as it was, and every file that hasn't P
pub over_log : (P : Name → Type 0) (old left : Contents) (disk : Disk) → AreOver P old disk → IsImage disk left → left.log ≡ old.log
over_log P old left disk over image = files_log P disk.settled left disk.pending over.pending image ∙ ap (λ (c : Contents). c.log) over.settled

pub over_beside : (P : Name → Type 0) (old left : Contents) (disk : Disk) (name : Name) → AreOver P old disk → IsImage disk left → ((other : Name) → P other → name ≢ other) → left.files name ≡ old.files name
over_beside P old left disk name over image beside = files_beside P disk.settled left disk.pending name over.pending image beside ∙ ap (λ (c : Contents). c.files name) over.settled

-- nothing is pending yet
pub over_rest : (P : Name → Type 0) (disk : Disk) → IsAtRest disk → AreOver P disk.reads disk
over_rest P disk rest = record { settled = rest.settled; pending = subst (AreFiles P) (sym rest.pending) tt }

-- one more file is written or removed
pub over_more : {E : Type 0} (P : Name → Type 0) (result : Result (Unit {0}) E) (name : Name) (old : Contents) (mid new : Disk) → P name → AreOver P old mid → Pends result (File name) mid new → AreOver P old new
over_more {E} P result name old mid new is over pends = record { settled = pends.settled ∙ over.settled; pending = parts result pends }
  where
    longer : new.pending ≡ File name ∷ mid.pending → AreFiles P new.pending
    longer pended = subst (AreFiles P) (sym pended) (is, over.pending)

    parts : (r : Result (Unit {0}) E) → Pends r (File name) mid new → AreFiles P new.pending
    parts (Ok u) p = longer p.ok
    parts (Err e) p = ⊎_elim longer (λ none. subst (AreFiles P) (sym none) over.pending) p.err

-- What a crash may have left since an earlier time, and how that changes while calls go on.
use Rattle.std.specs.Prelude.{◌≡◌, ◌⊎◌, ℕ, ◌+◌, ◌≤◌, List}
use Rattle.ml_site.specs.Disk.{Contents, Part, Disk, MayLeave, IsImage, IsAtRest}

-- What a crash left since the old site has P, and so has what one may leave now. Earlier instants are those before the old site, or have P.
pub record LeavesOnly {S : Type 0} (instant : S → ℕ) (left_since : S → ℕ → Contents → List ℕ → Type 0) (disk : S → Disk) (output : S → List ℕ) (old new : S) (P : Contents → List ℕ → Type 0) : Type 0 where
  pub later : instant old ≤ instant new
  pub each : (left : Contents) (out : List ℕ) → left_since new (instant old) left out → P left out
  pub before : (t : ℕ) (left : Contents) (out : List ℕ) → t ≤ instant old → left_since new t left out → left_since old t left out ⊎ P left out
  pub now : (left : Contents) → IsImage (disk new) left → P left (output new)

-- what a crash may leave if these parts are pending over what was read, with this output
abbrev pub Within : Contents → List Part → List ℕ → Contents → List ℕ → Type 0
Within reads parts output left out = MayLeave reads parts left × (out ≡ output)

-- No sync has succeeded since the old site. The disk is as it was then, and what a crash left at any instant since has P.
pub record BeforeFirstSync {S : Type 0} (instant : S → ℕ) (left_since : S → ℕ → Contents → List ℕ → Type 0) (disk : S → Disk) (output : S → List ℕ) (syncs : S → ℕ) (old new : S) (P : Contents → List ℕ → Type 0) : Type 0 where
  pub same : disk new ≡ disk old
  pub none : syncs new ≡ syncs old
  pub all : LeavesOnly instant left_since disk output old new P

-- A sync has succeeded since the old site. The site after the first good sync is at rest and reads as the old one did. Until
-- then what a crash left has P, and from then on it has Q.
pub record FromFirstSync {S : Type 0} (instant : S → ℕ) (left_since : S → ℕ → Contents → List ℕ → Type 0) (disk : S → Disk) (output : S → List ℕ) (syncs : S → ℕ) (old new : S) (P Q : Contents → List ℕ → Type 0) : Type 0 where
  pub synced : S
  pub first : syncs synced ≡ syncs old + 1
  pub rest : IsAtRest (disk synced)
  pub same : (disk synced).reads ≡ (disk old).reads
  pub until : LeavesOnly instant left_since disk output old synced P
  pub since : LeavesOnly instant left_since disk output synced new Q

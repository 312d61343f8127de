-- What acts ask of the archive, and which of its files are damaged for that.
use Rattle.std.specs.Prelude.{◌≡◌, ◌+◌, ◌/◌, ◌≤◌, ◌⊎◌, ℕ, Bool, true, nat_lt, List}
use Rattle.std.specs.List.{IsAmong, list_any}
use Rattle.ml_base.specs.Bytes.{Text}
use Rattle.ml_base.specs.Dir.{Dir}
use Rattle.ml_base.specs.declared.names.Name.{Name}
use Rattle.ml_filing.specs.Answers.{IsBadForAppend, IsBadForPost, IsBadForRange, IsBadForThread, IsNoIndex, IsNoNumber, IsRangeByFiles, IsThreadAnswer}
use Rattle.ml_filing.specs.Archive.{IsIndexFile, IsNumberFile, index_name, number_name}
use Rattle.ml_filing.specs.Reads.{IsOfNext, IsOfThread}
use Rattle.ml_filing.specs.Threads.{is_of_archive}
use Rattle.ml_filing.specs.declared.posts.Entry.{Entry}
use Rattle.ml_digest.specs.Due.{IsMark}
use Rattle.ml_digest.specs.declared.posts.Mark.{Mark}
use Rattle.ml_acts.specs.Damaged.{IsDamaged}

-- what is asked of the archive, with the numbers that it is asked for
pub data Asked : Type 0 where
  -- how many posts there are
  Count : Asked
  -- the posts a to b
  Range : ℕ → ℕ → Asked
  -- the index of a group
  Group : ℕ → Asked
  -- the thread of a post, on a list with a prefix
  ThreadOf : Text → ℕ → Asked
  -- the place after the last post, for a new post with a subject key
  Next : Text → Asked
  -- the posts that are in no digest yet
  Undigested : Asked

-- damaged for a post of a row, for one of the posts a to b, and for one after the mark of the digests
abbrev pub IsBadAmong : Dir → List ℕ → Name → Type 0
IsBadAmong dir row name = (n : ℕ) × IsAmong row n × IsBadForPost dir n name

abbrev pub IsBadWithin : Dir → ℕ → ℕ → Name → Type 0
IsBadWithin dir a b name = (n : ℕ) × (a ≤ n) × (n ≤ b) × IsBadForPost dir n name

abbrev pub IsBadAfter : Dir → Name → Type 0
IsBadAfter dir name = (mark : Mark) × IsMark dir mark × (count : ℕ) × IsNumberFile (dir number_name) count × IsBadWithin dir (mark.last + 1) count name

-- whether an entry is of a post above a number
abbrev pub has_above : ℕ → List Entry → Bool
has_above n entries = list_any (λ e. nat_lt n e.number) entries

-- the number of posts is too small: the index of the last one's group has an entry above it
abbrev pub IsTooSmall : Dir → Type 0
IsTooSmall dir = (count : ℕ) × IsNumberFile (dir number_name) count × (entries : List Entry) × IsIndexFile (count / 100) (dir (index_name (count / 100))) entries × (has_above count entries ≡ true)

-- A file of the archive that is damaged for what is asked. In the order of Asked: the number of posts, outside its grammar; a file of the
-- range, or of a post that it answers; the one index; a file of the thread, or of a post that it answers; a file that a new post of the key
-- is put after or into; and the number of posts, outside its grammar or too small, or a file of a post after the mark.
abbrev pub IsBadFor : Dir → Asked → Name → Type 0
IsBadFor dir Count name = (name ≡ number_name) × IsNoNumber dir
IsBadFor dir (Range a b) name = IsBadForRange dir a b name ⊎ ((row : List ℕ) × IsRangeByFiles dir a b row × IsBadAmong dir row name)
IsBadFor dir (Group g) name = (name ≡ index_name g) × IsNoIndex dir g
IsBadFor dir (ThreadOf prefix n) name = IsOfThread dir prefix n name × (IsBadForThread dir prefix n name ⊎ ((row : List ℕ) × IsThreadAnswer dir prefix n row × IsBadAmong dir row name))
IsBadFor dir (Next key) name = IsOfNext dir key name × IsBadForAppend dir name
IsBadFor dir Undigested name = ((name ≡ number_name) × (IsNoNumber dir ⊎ IsTooSmall dir)) ⊎ IsBadAfter dir name

-- a damaged file; if it is one of the archive, it is damaged for what is asked
pub record IsDamagedOf (dir : Dir) (asked : Asked) (name : Name) : Type 0 where
  pub damaged : IsDamaged dir name
  pub own : is_of_archive name ≡ true → IsBadFor dir asked name

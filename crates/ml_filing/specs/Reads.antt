-- Which files each call about numbered posts reads.
use Rattle.std.specs.Prelude.{◌≡◌, ◌<◌, ◌≤◌, ◌+◌, ◌/◌, ◌⊎◌, ℕ, List}
use Rattle.std.specs.List.{IsAmong}
use Rattle.ml_base.specs.Bytes.{Text}
use Rattle.ml_base.specs.Dir.{Dir}
use Rattle.ml_base.specs.declared.names.Name.{Name}
use Rattle.ml_filing.specs.Answers.{IsKeyByFiles, IsPostName, IsRowByFiles}
use Rattle.ml_filing.specs.Archive.{IsNumberFile, index_name, number_name}
use Rattle.ml_filing.specs.Threads.{thread_name, thread_place}

-- a row of posts: the file that names them, and the indexes of their groups
abbrev pub IsOfRow : Name → List ℕ → Name → Type 0
IsOfRow missing ns name = (name ≡ missing) ⊎ ((m : ℕ) × IsAmong ns m × (m ≤ 99_999_999) × (name ≡ index_name (m / 100)))

-- the posts a to b: the number of posts, and the indexes of their groups
abbrev pub IsOfRange : ℕ → ℕ → Name → Type 0
IsOfRange a b name = (name ≡ number_name) ⊎ ((m : ℕ) × (a ≤ m) × (m ≤ b) × (m ≤ 99_999_999) × (name ≡ index_name (m / 100)))

-- numbers from a to b that posts can have
abbrev pub IsWithin : ℕ → ℕ → ℕ → Type 0
IsWithin a b m = (a ≤ m) × (m ≤ b) × (m ≤ 99_999_999)

-- post m is one of the first hundred that the thread file has under the key of n's subject, which the index of n's
-- group gives
pub record IsOfSubject (dir : Dir) (prefix : Text) (n m : ℕ) : Type 0 where
  pub key : Text
  pub is : IsKeyByFiles dir prefix n key
  pub row : List ℕ
  pub found : IsRowByFiles dir key n row
  pub among : IsAmong row m

-- the thread of n: the number of posts, the index of n's group, the thread file of its key, and the indexes of the
-- posts found there
abbrev pub IsOfThread : Dir → Text → ℕ → Name → Type 0
IsOfThread dir prefix n name =
    IsPostName n name ⊎ (((key : Text) × IsKeyByFiles dir prefix n key × (name ≡ thread_name (thread_place key))) ⊎ ((m : ℕ) × IsOfSubject dir prefix n m × (m ≤ 99_999_999) × (name ≡ index_name (m / 100))))

-- a post that is appended, with this subject key: the number of posts, the index of the next number's group, and the
-- thread file of the key
abbrev pub IsOfNext : Dir → Text → Name → Type 0
IsOfNext dir key name =
    (name ≡ number_name) ⊎ (((count : ℕ) × IsNumberFile (dir number_name) count × (count < 99_999_999) × (name ≡ index_name ((count + 1) / 100))) ⊎ (name ≡ thread_name (thread_place key)))

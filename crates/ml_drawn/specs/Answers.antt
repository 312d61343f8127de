-- What reading a series answers, and which puts change it.
use Rattle.std.specs.Prelude.{◌≡◌, ◌<◌, ◌≤◌, ◌+◌, ℕ, Bool, true, false, ◌==◌, IsTrue, List, [], ◌∷◌, ◌++◌, Option, Some, None}
use Rattle.std.specs.Fmt.{decimal}
use Rattle.ml_base.specs.Bytes.{Text, colon}
use Rattle.ml_base.specs.Dir.{Dir}
use Rattle.ml_base.specs.Drawn.{IsCounter, counter_text}
use Rattle.ml_base.specs.Ranges.{is_drawn}
use Rattle.ml_base.specs.declared.puts.Put.{Put}
use Rattle.ml_drawn.specs.declared.series.Series.{Series}
use Rattle.ml_drawn.specs.declared.search.Found.{Found}
use Rattle.ml_drawn.specs.Names.{thing_name, counter_name}

-- a line that spells a number below which nothing is there, a colon and the next number
pub record IsPair (line : Text) (low next : ℕ) : Type 0 where
  pub from_one : 1 ≤ low
  pub up_to_next : low ≤ next
  pub fits : next ≤ 999_999_999_999_999_999
  pub spelled : line ≡ decimal low ++ colon ∷ decimal next

-- the file of the counter is outside its grammar
abbrev pub IsNoCounter : Dir → Series → Type 0
IsNoCounter dir series = (low next : ℕ) → ¬ IsCounter (dir (counter_name series)) low next

-- no file is there under the numbers from one on and below another
abbrev pub NoneThere : Dir → Series → ℕ → ℕ → Type 0
NoneThere dir series from next = (n : ℕ) → from ≤ n → n < next → IsTrue (is_drawn n) → dir (thing_name series n) ≡ None

-- the first file under the numbers from one on and below another
pub record IsFirst (dir : Dir) (series : Series) (from next : ℕ) (found : Found) : Type 0 where
  pub onward : from ≤ found.number
  pub below : found.number < next
  pub drawn : IsTrue (is_drawn found.number)
  pub before : NoneThere dir series from found.number
  pub file : dir (thing_name series found.number) ≡ Some found.bytes

-- the first file under the numbers from one on and below another, or None if there is none
abbrev pub IsNextThere : Dir → Series → ℕ → ℕ → Option Found → Type 0
IsNextThere dir series from next None = NoneThere dir series from next
IsNextThere dir series from next (Some found) = IsFirst dir series from next found

-- the number of the first file under the numbers from one on and below another, or None if there is none
abbrev pub IsNextNumber : Dir → Series → ℕ → ℕ → Option ℕ → Type 0
IsNextNumber dir series from next None = NoneThere dir series from next
IsNextNumber dir series from next (Some n) = (bytes : Text) × IsFirst dir series from next (record { number = n; bytes = bytes })

-- the put of a counter
abbrev pub counter_put : Series → ℕ → ℕ → Put
counter_put series low next = record { name = counter_name series; bytes = Some (counter_text low next) }

-- the put that removes a number's file
abbrev pub removal : Series → ℕ → Put
removal series n = record { name = thing_name series n; bytes = None }

-- the puts that store bytes under the next number
abbrev pub drawn_puts : Series → ℕ → ℕ → Text → List Put
drawn_puts series low next bytes = record { name = thing_name series next; bytes = Some bytes } ∷ counter_put series low (next + 1) ∷ []

-- the next number of the counter is drawn for these bytes
pub record IsDrawing (dir : Dir) (series : Series) (bytes : Text) (n : ℕ) (puts : List Put) : Type 0 where
  pub low : ℕ
  pub counted : IsCounter (dir (counter_name series)) low n
  pub drawn : IsTrue (is_drawn n)
  pub are : puts ≡ drawn_puts series low n bytes

-- the number of what was found, or else the next number
abbrev pub low_of : ℕ → Option Found → ℕ
low_of next None = next
low_of next (Some found) = found.number

-- the put of a counter whose `low` moved past a number to the next one that is there, or else to the next number
pub record IsMoved (dir : Dir) (series : Series) (n next : ℕ) (put : Put) : Type 0 where
  pub found : Option Found
  pub first : IsNextThere dir series (n + 1) next found
  pub is : put ≡ counter_put series (low_of next found) next

-- the puts that remove a number's file: if the number is the counter's `low`, the counter moves
abbrev pub AreTaken : Dir → Series → ℕ → ℕ → Bool → List Put → Type 0
AreTaken dir series n next true puts = (put : Put) × IsMoved dir series n next put × (puts ≡ removal series n ∷ put ∷ [])
AreTaken dir series n next false puts = puts ≡ removal series n ∷ []

-- a number's file is taken out
pub record IsTaking (dir : Dir) (series : Series) (n : ℕ) (puts : List Put) : Type 0 where
  pub low : ℕ
  pub next : ℕ
  pub counted : IsCounter (dir (counter_name series)) low next
  pub are : AreTaken dir series n next (low == n) puts

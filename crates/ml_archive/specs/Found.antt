-- What an audit has found so far, group after group and then thread file after thread file.
use Rattle.std.specs.Prelude.{◌≡◌, ◌≢◌, ◌<◌, ◌≤◌, ◌+◌, ◌*◌, ◌/◌, ◌==◌, ℕ, min, max, ◌⊎◌, List, [], ◌∷◌, ◌++◌, length, map, filter, Option, Some, None, unwrap_or, if◌then◌else◌, Vec}
use Rattle.std.specs.BTreeMap.{BTreeMap, IsOrdered, get_by}
use Rattle.std.specs.List.{flat_map}
use Rattle.std.specs.Option.{option_map}
use Rattle.std.specs.Str.{bytes_eq}
use Rattle.std.specs.declared.alloc.Global.{Global}
use Rattle.ml_base.specs.Bytes.{Text}
use Rattle.ml_base.specs.Dir.{Dir}
use Rattle.ml_base.specs.Sorted.{byte_cmp}
use Rattle.ml_base.specs.declared.names.Name.{Name}
use Rattle.ml_filing.specs.Answers.{IsOtherSize}
use Rattle.ml_filing.specs.Archive.{IsEntry, IsIndexFile, IsNumberFile, index_name, number_name, post_name}
use Rattle.ml_filing.specs.Subjects.{subject_key}
use Rattle.ml_filing.specs.Threads.{thread_name, thread_place, thread_text}
use Rattle.ml_filing.specs.declared.posts.Entry.{Entry}
use Rattle.ml_filing.specs.declared.posts.Thread.{Thread}
use Rattle.ml_archive.specs.Breaks.{HasAll}
use Rattle.ml_archive.specs.Counted.{first_of}
use Rattle.ml_archive.specs.declared.keys.Places.{Places}

-- a post's file has so many bytes
abbrev pub HasSize : Dir → ℕ → ℕ → Type 0
HasSize dir n size = option_map length (dir (post_name n)) ≡ Some size

-- the posts from a number on have the sizes that their entries give
abbrev pub HaveSizes : Dir → ℕ → List Entry → Type 0
HaveSizes dir k [] = Unit {0}
HaveSizes dir k (e ∷ es) = HasSize dir k e.size × HaveSizes dir (k + 1) es

-- one of them has another size
abbrev pub LacksSize : Dir → ℕ → List Entry → Type 0
LacksSize dir k [] = ⊥
LacksSize dir k (e ∷ es) = IsOtherSize dir k e.size ⊎ LacksSize dir (k + 1) es

-- the entries of a group: one for each of its posts, with that post's size
pub record IsWhole (dir : Dir) (count g : ℕ) (entries : List Entry) : Type 0 where
  pub index : IsIndexFile g (dir (index_name g)) entries
  pub all : HasAll count g entries
  pub sizes : HaveSizes dir (first_of g) entries

abbrev pub HasWhole : Dir → ℕ → ℕ → Type 0
HasWhole dir count g = (entries : List Entry) × IsWhole dir count g entries

-- every group below g has all its entries, each with its post's size
abbrev pub AreWhole : Dir → ℕ → ℕ → Type 0
AreWhole dir count g = (h : ℕ) → h < g → HasWhole dir count h

-- entries in their ranges, with numbers from k on
abbrev pub AreNumbered : ℕ → List Entry → Type 0
AreNumbered k [] = Unit {0}
AreNumbered k (e ∷ es) = (e.number ≡ k) × IsEntry e × AreNumbered (k + 1) es

-- the entries of the groups below g, each with its post's size
pub record AreEntries (dir : Dir) (count g : ℕ) (entries : List Entry) : Type 0 where
  pub numbered : AreNumbered 1 entries
  pub sizes : HaveSizes dir 1 entries
  pub long : length entries + 1 ≡ max 1 (min (count + 1) (100 * g))
  pub indexes : (h : ℕ) → h < g → IsIndexFile h (dir (index_name h)) (filter (λ e. (e.number / 100) == h) entries)

-- keys with numbers
abbrev pub Keys : Type 0
Keys = BTreeMap (Vec ℕ Global) (List ℕ)

-- the numbers under a key, if it is there
abbrev pub numbers_at : Text → Keys → Option (List ℕ)
numbers_at k keys = get_by (λ q. byte_cmp k q.items) keys

-- the keys are in the order of bytes
abbrev pub AreOrdered : Keys → Type 0
AreOrdered keys = IsOrdered (λ x y. byte_cmp x.items y.items) keys

-- numbers after those that are there, if there are any
abbrev pub with_numbers : Option (List ℕ) → List ℕ → Option (List ℕ)
with_numbers old [] = old
with_numbers old (n ∷ ns) = Some (unwrap_or old [] ++ n ∷ ns)

-- the numbers, from n on, of the entries whose subject has a key
abbrev pub key_numbers : Text → Text → ℕ → List Entry → List ℕ
key_numbers prefix k n [] = []
key_numbers prefix k n (e ∷ es) = if bytes_eq (subject_key prefix e.subject) k then n ∷ key_numbers prefix k (n + 1) es else key_numbers prefix k (n + 1) es

-- the number of a thread file is one of these
abbrev pub IsPlace : Places → ℕ → Type 0
IsPlace places n = (places.from ≤ n) × (n < places.to)

-- the thread file of a key is one of these
abbrev pub HasPlace : Places → Text → Type 0
HasPlace places k = IsPlace places (thread_place k)

-- under every key of these thread files are the numbers of the entries with this key
abbrev pub AreKeyed : Text → Places → List Entry → Keys → Type 0
AreKeyed prefix places entries keys = (k : Text) → HasPlace places k → numbers_at k keys ≡ with_numbers None (key_numbers prefix k 1 entries)

-- how many groups a number of posts is in
abbrev pub groups_of : ℕ → ℕ
groups_of count = if count == 0 then 0 else count / 100 + 1

-- the entries of the groups below g, and the keys collected from them for these thread files
abbrev pub AreKeyedBelow : Dir → Text → Places → ℕ → ℕ → Keys → Type 0
AreKeyedBelow dir prefix places count g keys = (entries : List Entry) × AreEntries dir count g entries × AreKeyed prefix places entries keys

-- there are so many posts, and every group that has one is whole
pub record ArePosted (dir : Dir) (count : ℕ) : Type 0 where
  pub counted : IsNumberFile (dir number_name) count
  pub groups : AreWhole dir count (groups_of count)

-- the threads that keys with numbers make: all, those in the file with this number, and the text of that file
abbrev pub threads_of : List (Vec ℕ Global × List ℕ) → List Thread
threads_of entries = map (λ e. record { key = e.0.items; numbers = e.1 }) entries

abbrev pub threads_at : ℕ → List (Vec ℕ Global × List ℕ) → List Thread
threads_at n entries = filter (λ t. thread_place t.key == n) (threads_of entries)

abbrev pub text_at : ℕ → List (Vec ℕ Global × List ℕ) → Text
text_at n entries = flat_map thread_text (threads_at n entries)

-- one of these thread files isn't what the keys make it
abbrev pub HasOtherText : Dir → Places → Keys → Name → Type 0
HasOtherText dir places keys name = (n : ℕ) × IsPlace places n × (name ≡ thread_name n) × (unwrap_or (dir (thread_name n)) [] ≢ text_at n keys.entries)

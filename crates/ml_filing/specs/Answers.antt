-- What the calls on the archive answer from its files, and which files they name as damaged.
use Rattle.std.specs.Prelude.{◌≡◌, ◌≢◌, ◌<◌, ◌≤◌, ◌+◌, ◌-◌, ◌*◌, ◌/◌, ◌==◌, min, max, ◌⊎◌, ℕ, Bool, List, [], length, map, take, Option, Some, None, unwrap_or}
use Rattle.std.specs.Option.{option_map}
use Rattle.std.specs.List.{AllByRecursion, AllZip, IsAmong, list_any, range_with_len}
use Rattle.ml_base.specs.Bytes.{Text}
use Rattle.ml_base.specs.Cuts.{one_or_within}
use Rattle.ml_base.specs.Dir.{Dir, with_puts}
use Rattle.ml_base.specs.declared.puts.Put.{Put}
use Rattle.ml_base.specs.declared.names.Name.{Name}
use Rattle.ml_filing.specs.Archive.{IsIndexFile, IsNumberFile, post_name, index_name, number_name}
use Rattle.ml_filing.specs.Appending.{append, next_number, append_puts}
use Rattle.ml_filing.specs.Posts.{entry, key_of}
use Rattle.ml_filing.specs.Subjects.{subject, subject_key}
use Rattle.ml_filing.specs.Threads.{Thread, IsArchive, IsThreadByFiles, IsThreadFile, thread_name, thread_place, entry_at, numbers_under}
use Rattle.ml_filing.specs.declared.lookups.Index.{Index}
use Rattle.ml_filing.specs.declared.posts.Appended.{Appended}
use Rattle.ml_filing.specs.declared.posts.Appended.TheVariants.{At, Full}
use Rattle.ml_filing.specs.declared.posts.Entry.{Entry}
use Rattle.ml_filing.specs.declared.posts.Post.{Post}

-- files outside their grammar
abbrev pub IsNoNumber : Dir → Type 0
IsNoNumber dir = (count : ℕ) → ¬ IsNumberFile (dir number_name) count

abbrev pub IsNoIndex : Dir → ℕ → Type 0
IsNoIndex dir g = (entries : List Entry) → ¬ IsIndexFile g (dir (index_name g)) entries

abbrev pub IsNoThreads : Dir → ℕ → Type 0
IsNoThreads dir n = (threads : List Thread) → ¬ IsThreadFile n (dir (thread_name n)) threads

-- by the number of posts, post n is there, but the index of its group has no entry for it
pub record LacksEntry (dir : Dir) (n : ℕ) : Type 0 where
  pub count : ℕ
  pub counted : IsNumberFile (dir number_name) count
  pub low : 1 ≤ n
  pub high : n ≤ count
  pub entries : List Entry
  pub index : IsIndexFile (n / 100) (dir (index_name (n / 100))) entries
  pub lacks : entry_at n entries ≡ None

-- post n is absent or has another size
abbrev pub IsOtherSize : Dir → ℕ → ℕ → Type 0
IsOtherSize dir n size = option_map length (dir (post_name n)) ≢ Some size

-- an index has an entry for post n, but the file of the post is absent or has another size
pub record LacksPost (dir : Dir) (n : ℕ) : Type 0 where
  pub entries : List Entry
  pub index : IsIndexFile (n / 100) (dir (index_name (n / 100))) entries
  pub entry : Entry
  pub found : entry_at n entries ≡ Some entry
  pub lacks : IsOtherSize dir n entry.size

-- the files that say what post n is, and when one of them is damaged: if it is outside its grammar or names what isn't
-- there
abbrev pub IsPostName : ℕ → Name → Type 0
IsPostName n name = (name ≡ number_name) ⊎ ((n ≤ 99_999_999) × (name ≡ index_name (n / 100)))

abbrev pub IsBadForPost : Dir → ℕ → Name → Type 0
IsBadForPost dir n name =
    ((name ≡ number_name) × (IsNoNumber dir ⊎ LacksEntry dir n)) ⊎ ((name ≡ index_name (n / 100)) × (IsNoIndex dir (n / 100) ⊎ LacksPost dir n))

-- what the files say of post n: None exactly if n is 0 or above the number of posts
abbrev pub IsPostByFiles : Dir → ℕ → Option Post → Type 0
IsPostByFiles dir n None = (count : ℕ) × IsNumberFile (dir number_name) count × ((n ≡ 0) ⊎ (count < n))
IsPostByFiles dir n (Some p) =
    ((count : ℕ) × IsNumberFile (dir number_name) count × (1 ≤ n) × (n ≤ count))
    × ((entries : List Entry) × IsIndexFile (n / 100) (dir (index_name (n / 100))) entries × (entry_at n entries ≡ Some (entry (n, p)))) × (dir (post_name n) ≡ Some p.bytes)

-- the index of n's group has this entry for post n; or it has none for n
abbrev pub IsEntryByFiles : Dir → ℕ → Entry → Type 0
IsEntryByFiles dir n e = (entries : List Entry) × IsIndexFile (n / 100) (dir (index_name (n / 100))) entries × (entry_at n entries ≡ Some e)

abbrev pub HasNoEntry : Dir → ℕ → Type 0
HasNoEntry dir n = (entries : List Entry) × IsIndexFile (n / 100) (dir (index_name (n / 100))) entries × (entry_at n entries ≡ None)

-- when one of the files that say what post n's entry is, is damaged
abbrev pub IsBadForEntry : Dir → ℕ → Name → Type 0
IsBadForEntry dir n name = ((name ≡ number_name) × HasNoEntry dir n) ⊎ ((name ≡ index_name (n / 100)) × IsNoIndex dir (n / 100))

-- the index of a group; it is empty for a group that no post can be in
abbrev pub IsIndexByFiles : Dir → ℕ → List Entry → Type 0
IsIndexByFiles dir g entries = ((g < 1_000_000) × IsIndexFile g (dir (index_name g)) entries) ⊎ ((1_000_000 ≤ g) × (entries ≡ []))

-- the post made of a sender, a moment and bytes
abbrev pub new_post : Text → ℕ → Text → Post
new_post sender moment bytes = record { sender = sender; moment = moment; subject = subject bytes; bytes = bytes }

-- the thread file that has the key of a post's subject
abbrev pub post_thread : Text → Post → Name
post_thread prefix post = thread_name (thread_place (key_of prefix post))

-- the next post gets this number, and the index of its group has exactly the entries of the posts before it
abbrev pub HasEntriesBefore : Dir → ℕ → Type 0
HasEntriesBefore dir n = (entries : List Entry) × IsIndexFile (n / 100) (dir (index_name (n / 100))) entries × (length entries + max 1 (100 * (n / 100)) ≡ n)

-- What appending a post answers from the files: Full if the number of posts is 99,999,999; otherwise the next number,
-- and its puts, if the index of its group has exactly the entries before it.
abbrev pub IsAppended : Dir → Text → Post → Appended → Type 0
IsAppended dir prefix post (At number txn) =
    (count : ℕ) × IsNumberFile (dir number_name) count × (count < 99_999_999) × (number ≡ count + 1)
    × ((threads : List Thread) × IsThreadFile (thread_place (key_of prefix post)) (dir (post_thread prefix post)) threads
    × (txn ≡ append_puts prefix number post (unwrap_or (dir (index_name (number / 100))) []) threads))
    × HasEntriesBefore dir number
IsAppended dir prefix post Full = IsNumberFile (dir number_name) 99_999_999

-- in the three files that appending a post reads, two directories are alike
pub record ReadsAlike (old dir : Dir) (prefix : Text) (post : Post) (posts : List Post) : Type 0 where
  pub number : dir number_name ≡ old number_name
  pub index : dir (index_name (next_number posts / 100)) ≡ old (index_name (next_number posts / 100))
  pub thread : dir (post_thread prefix post) ≡ old (post_thread prefix post)

-- an answer after which the files stand for one more post, with the next number; Full exactly if no number is left
abbrev pub AppendsTo : Dir → Text → List Post → Post → Appended → Type 0
AppendsTo dir prefix posts post (At number txn) = (length posts < 99_999_999) × (number ≡ next_number posts) × IsArchive (with_puts dir txn) prefix (append post posts)
AppendsTo dir prefix posts post Full = length posts ≡ 99_999_999

-- the puts of an answer
abbrev pub puts_of : Appended → List Put
puts_of (At number txn) = txn
puts_of Full = []

-- the number of an answer that has one
abbrev pub number_of : Appended → ℕ
number_of (At number txn) = number
number_of Full = 0

-- the next post gets this number, and its group's index has too few or too many entries of the posts before it
abbrev pub HasOtherCount : Dir → ℕ → Type 0
HasOtherCount dir n = (entries : List Entry) × IsIndexFile (n / 100) (dir (index_name (n / 100))) entries × (length entries + max 1 (100 * (n / 100)) ≢ n)

abbrev pub IsBadForNext : Dir → ℕ → Name → Type 0
IsBadForNext dir n name = ((name ≡ number_name) × HasOtherCount dir n) ⊎ ((name ≡ index_name (n / 100)) × IsNoIndex dir (n / 100))

-- the files that appending reads, and when one of them is damaged
abbrev pub IsAppendName : Name → Type 0
IsAppendName name = (name ≡ number_name) ⊎ (((g : ℕ) × (g < 1_000_000) × (name ≡ index_name g)) ⊎ ((n : ℕ) × (n < 256) × (name ≡ thread_name n)))

abbrev pub IsBadForAppend : Dir → Name → Type 0
IsBadForAppend dir name =
    ((name ≡ number_name) × (IsNoNumber dir ⊎ ((count : ℕ) × IsNumberFile (dir number_name) count × HasOtherCount dir (count + 1))))
    ⊎ (((g : ℕ) × (g < 1_000_000) × (name ≡ index_name g) × IsNoIndex dir g) ⊎ ((n : ℕ) × (n < 256) × (name ≡ thread_name n) × IsNoThreads dir n))

-- indexes as the files have them, and whether that of a group is among them
abbrev pub AreIndexes : Dir → List Index → Type 0
AreIndexes dir indexes = AllByRecursion (λ i. IsIndexFile i.group (dir (index_name i.group)) i.entries) indexes

abbrev pub has_group : ℕ → List Index → Bool
has_group g indexes = list_any (λ i. i.group == g) indexes

-- the sizes of posts, by their entries in the indexes
abbrev pub AreSizes : Dir → List ℕ → List ℕ → Type 0
AreSizes dir ns sizes = AllZip (λ m s. (e : Entry) × IsEntryByFiles dir m e × (e.size ≡ s)) ns sizes

-- the files that a row of posts is looked up in, and when one of them is damaged: an index, if it is outside its
-- grammar; the file that names the posts, if the index of one of them has no entry for it
abbrev pub IsRowName : Name → Name → Type 0
IsRowName missing name = (name ≡ missing) ⊎ ((g : ℕ) × (g < 1_000_000) × (name ≡ index_name g))

abbrev pub IsBadForRow : Dir → Name → List ℕ → Name → Type 0
IsBadForRow dir missing ns name = ((name ≡ missing) × ((m : ℕ) × IsAmong ns m × HasNoEntry dir m)) ⊎ ((g : ℕ) × (g < 1_000_000) × (name ≡ index_name g) × IsNoIndex dir g)

-- the numbers from a to b of the posts that are there, at most a hundred of them
abbrev pub first_numbers : ℕ → ℕ → ℕ → List ℕ
first_numbers a b count = range_with_len (max a 1) (min 100 (min b count + 1 - max a 1))

-- What the files say of the range a to b: of the first hundred numbers in it that posts have, as many as one answer
-- has, by the sizes in their entries.
pub record IsRangeByFiles (dir : Dir) (a b : ℕ) (answer : List ℕ) : Type 0 where
  pub count : ℕ
  pub counted : IsNumberFile (dir number_name) count
  pub entries : List Entry
  pub each : AllZip (IsEntryByFiles dir) (first_numbers a b count) entries
  pub cut : answer ≡ map (λ e. e.number) (one_or_within (λ e. e.size) 100 4_194_304 entries)

abbrev pub IsBadForRange : Dir → ℕ → ℕ → Name → Type 0
IsBadForRange dir a b name =
    ((name ≡ number_name) × (IsNoNumber dir ⊎ ((m : ℕ) × (a ≤ m) × (m ≤ b) × LacksEntry dir m))) ⊎ ((g : ℕ) × (g < 1_000_000) × (name ≡ index_name g) × IsNoIndex dir g)

-- the key of post n's subject, by the entry for n in its index
abbrev pub IsKeyByFiles : Dir → Text → ℕ → Text → Type 0
IsKeyByFiles dir prefix n k = (e : Entry) × IsEntryByFiles dir n e × (k ≡ subject_key prefix e.subject)

-- the first hundred numbers that the thread file of a key has under it; n is among all of them, if not among these
abbrev pub IsRowByFiles : Dir → Text → ℕ → List ℕ → Type 0
IsRowByFiles dir k n row =
    (threads : List Thread) × IsThreadFile (thread_place k) (dir (thread_name (thread_place k))) threads × IsAmong (numbers_under k threads) n × (row ≡ take 100 (numbers_under k threads))

-- all numbers that the thread file of a key has under it, with n among them
abbrev pub AreNumbersByFiles : Dir → Text → ℕ → List ℕ → Type 0
AreNumbersByFiles dir k n numbers =
    (threads : List Thread) × IsThreadFile (thread_place k) (dir (thread_name (thread_place k))) threads × IsAmong (numbers_under k threads) n × (numbers ≡ numbers_under k threads)

-- the whole thread of n by the files: the key of n's subject from its entry, and all numbers that the thread file has
-- under that key, with n among them
abbrev pub IsWholeByFiles : Dir → Text → ℕ → Thread → Type 0
IsWholeByFiles dir prefix n t = IsKeyByFiles dir prefix n t.key × AreNumbersByFiles dir t.key n t.numbers

-- the same, or None if n is 0 or above the number of posts
abbrev pub IsWholeAnswer : Dir → Text → ℕ → Option Thread → Type 0
IsWholeAnswer dir prefix n None = (count : ℕ) × IsNumberFile (dir number_name) count × ((n ≡ 0) ⊎ (count < n))
IsWholeAnswer dir prefix n (Some t) = ((count : ℕ) × IsNumberFile (dir number_name) count × (1 ≤ n) × (n ≤ count)) × IsWholeByFiles dir prefix n t

-- the thread file of a key is outside its grammar, or doesn't have n under the key
abbrev pub IsBadThreads : Dir → Text → ℕ → Type 0
IsBadThreads dir k n =
    IsNoThreads dir (thread_place k) ⊎ ((threads : List Thread) × IsThreadFile (thread_place k) (dir (thread_name (thread_place k))) threads × (¬ IsAmong (numbers_under k threads) n))

-- the thread file of the key of n's subject doesn't have n under it, or has a number there for which the index has no
-- entry
pub record LacksThread (dir : Dir) (prefix : Text) (n : ℕ) (name : Name) : Type 0 where
  pub entry : Entry
  pub found : IsEntryByFiles dir n entry
  pub named : name ≡ thread_name (thread_place (subject_key prefix entry.subject))
  pub threads : List Thread
  pub file : IsThreadFile (thread_place (subject_key prefix entry.subject)) (dir (thread_name (thread_place (subject_key prefix entry.subject)))) threads
  pub lacks :
      (¬ IsAmong (numbers_under (subject_key prefix entry.subject) threads) n) ⊎ ((m : ℕ) × IsAmong (numbers_under (subject_key prefix entry.subject) threads) m × HasNoEntry dir m)

-- the files that a thread is looked up in
abbrev pub IsThreadName : Name → Type 0
IsThreadName name = (name ≡ number_name) ⊎ (((g : ℕ) × (g < 1_000_000) × (name ≡ index_name g)) ⊎ ((f : ℕ) × (f < 256) × (name ≡ thread_name f)))

-- when an index or a thread file is damaged for the thread of n
abbrev pub IsBadBelow : Dir → Text → ℕ → Name → Type 0
IsBadBelow dir prefix n name =
    ((g : ℕ) × (g < 1_000_000) × (name ≡ index_name g) × IsNoIndex dir g) ⊎ (((f : ℕ) × (f < 256) × (name ≡ thread_name f) × IsNoThreads dir f) ⊎ LacksThread dir prefix n name)

-- when one of the files is damaged for the thread of n, if n is there, and in general: a file outside its grammar; the
-- number of posts, if n's index has no entry for n; or the thread file of n's key, if it lacks n or has a number
-- without an entry
abbrev pub IsBadForKnown : Dir → Text → ℕ → Name → Type 0
IsBadForKnown dir prefix n name = ((name ≡ number_name) × HasNoEntry dir n) ⊎ IsBadBelow dir prefix n name

abbrev pub IsBadForThread : Dir → Text → ℕ → Name → Type 0
IsBadForThread dir prefix n name = ((name ≡ number_name) × (IsNoNumber dir ⊎ LacksEntry dir n)) ⊎ IsBadBelow dir prefix n name

-- the thread of n by the files, and nothing if n is 0 or above the number of posts
abbrev pub IsThreadAnswer : Dir → Text → ℕ → List ℕ → Type 0
IsThreadAnswer dir prefix n answer =
    (count : ℕ) × IsNumberFile (dir number_name) count × (((1 ≤ n) × (n ≤ count) × IsThreadByFiles dir prefix n answer) ⊎ (((n ≡ 0) ⊎ (count < n)) × (answer ≡ [])))

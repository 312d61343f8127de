-- The thread files: for every subject key the numbers of its posts, spread over 256 files by the key's hash.
use Rattle.std.specs.Prelude.{◌≡◌, ◌<◌, ◌^◌, ◌%◌, ◌/◌, ◌==◌, ◌||◌, Bool, find, take, ℕ, true, IsTrue, List, [], ◌++◌, length, Option, unwrap_or, Some, map}
use Rattle.std.specs.List.{AllByRecursion, AllZip, IsAmong}
use Rattle.std.specs.Ordering.{nat_cmp}
use Rattle.std.specs.Option.{option_map}
use Rattle.ml_base.specs.Bytes.{Text}
use Rattle.ml_base.specs.Dir.{Dir}
use Rattle.ml_base.specs.Hash.{hash_of}
use Rattle.ml_base.specs.Netstrings.{ns}
use Rattle.ml_base.specs.Ranges.{is_post_number}
use Rattle.ml_base.specs.Sorted.{byte_cmp, entry_of, is_sorted}
use Rattle.ml_base.specs.declared.names.Name.{Name}
use Rattle.ml_keyed.specs.Records.{IsRecordFile}
use Rattle.ml_rows.specs.Values.{comma_text}
use Rattle.ml_filing.specs.Posts.{key_of, of_key, numbers, post_at}
use Rattle.ml_base.specs.Cuts.{one_or_within}
use Rattle.ml_filing.specs.Archive.{ArePosts, IsIndexFile, index_name, is_of_posts}
use Rattle.ml_filing.specs.Subjects.{subject_key}
use Rattle.ml_filing.specs.declared.posts.Entry.{Entry}
use Rattle.ml_filing.specs.declared.posts.Post.{Post}
pub use Rattle.ml_filing.specs.declared.posts.Thread.{Thread}
pub use Rattle.ml_base.specs.Kinds.{thread_name}
use Rattle.ml_base.specs.Kinds.{thread_kind}

-- the number of the file that has a subject key
abbrev pub thread_place : Text → ℕ
thread_place k = hash_of k % 256

-- the netstrings of the key and of its numbers
abbrev pub thread_text : Thread → Text
thread_text t = ns t.key ++ ns (comma_text t.numbers)

-- a thread of the file with this number: at least one number, in ascending order
pub record IsThread (n : ℕ) (t : Thread) : Type 0 where
  pub hashed : thread_place t.key ≡ n
  pub short : length t.key < 10 ^ 18
  pub some : 0 < length t.numbers
  pub each : AllByRecursion (λ m. IsTrue (is_post_number m)) t.numbers
  pub ascending : is_sorted nat_cmp (λ m. m) t.numbers ≡ true

-- a file of threads, in ascending order of key; an absent one has no threads
abbrev pub IsThreadFile : ℕ → Option Text → List Thread → Type 0
IsThreadFile n file threads = IsRecordFile IsThread (λ t. t.key) thread_text n file threads

-- the numbers that threads have under a key
abbrev pub numbers_under : Text → List Thread → List ℕ
numbers_under k threads = unwrap_or (option_map (λ t. t.numbers) (entry_of byte_cmp (λ t. t.key) k threads)) []

-- the thread files have the number of every post under the key of its subject, and nothing else
pub record AreThreads (dir : Dir) (prefix : Text) (posts : List Post) : Type 0 where
  pub threads : ℕ → List Thread
  pub files : (n : ℕ) → n < 256 → IsThreadFile n (dir (thread_name n)) (threads n)
  pub by_key : (k : Text) → numbers_under k (threads (thread_place k)) ≡ numbers (of_key prefix k posts)

-- the files stand for these posts, on a list with this prefix
pub record IsArchive (dir : Dir) (prefix : Text) (posts : List Post) : Type 0 where
  pub filed : ArePosts dir posts
  pub threaded : AreThreads dir prefix posts

-- the thread of a post: the key of its subject, and the numbers of all posts with that key
abbrev pub thread_of_post : Text → List Post → Post → Thread
thread_of_post prefix posts p = record { key = key_of prefix p; numbers = numbers (of_key prefix (key_of prefix p) posts) }

-- the thread of post n; None if there is no such post
abbrev pub whole_thread : Text → ℕ → List Post → Option Thread
whole_thread prefix n posts = option_map (thread_of_post prefix posts) (post_at posts n)

-- the entry of post n in the index of its group
abbrev pub entry_at : ℕ → List Entry → Option Entry
entry_at n entries = find (λ e. e.number == n) entries

-- The thread of n by the files alone, in any directory: the index of n's group has an entry for n, and the thread file
-- of its subject's key has n among the numbers under that key. The answer is as many of these, from the first on, as
-- one answer has, by the sizes in their entries; only the first 100 are looked up.
pub record IsThreadByFiles (dir : Dir) (prefix : Text) (n : ℕ) (answer : List ℕ) : Type 0 where
  pub indexes : ℕ → List Entry
  pub index : IsIndexFile (n / 100) (dir (index_name (n / 100))) (indexes (n / 100))
  pub entry : Entry
  pub found : entry_at n (indexes (n / 100)) ≡ Some entry
  pub threads : List Thread
  pub file : IsThreadFile (thread_place (subject_key prefix entry.subject)) (dir (thread_name (thread_place (subject_key prefix entry.subject)))) threads
  pub named : IsAmong (numbers_under (subject_key prefix entry.subject) threads) n
  pub entries : List Entry
  pub each : AllZip (λ m e. IsIndexFile (m / 100) (dir (index_name (m / 100))) (indexes (m / 100)) × (entry_at m (indexes (m / 100)) ≡ Some e))
      (take 100 (numbers_under (subject_key prefix entry.subject) threads)) entries
  pub cut : answer ≡ map (λ e. e.number) (one_or_within (λ e. e.size) 100 4_194_304 entries)

-- whether a file is one of the archive's: a post, an index, the number of posts, or a thread file
abbrev pub is_of_archive : Name → Bool
is_of_archive name = is_of_posts name || name.kind == thread_kind

-- Which files an audit names, and when one of them breaks the archive.
use Rattle.std.specs.Prelude.{◌≡◌, ◌<◌, ◌≤◌, ◌+◌, ◌*◌, min, ◌⊎◌, ℕ, List, length}
use Rattle.std.specs.List.{IsAmong}
use Rattle.ml_base.specs.Bytes.{Text}
use Rattle.ml_base.specs.Dir.{Dir}
use Rattle.ml_base.specs.declared.names.Name.{Name}
use Rattle.ml_filing.specs.Answers.{IsNoNumber, IsNoIndex, IsOtherSize}
use Rattle.ml_filing.specs.Archive.{IsIndexFile, IsNumberFile, index_name, number_name}
use Rattle.ml_filing.specs.Posts.{numbers, of_key}
use Rattle.ml_filing.specs.Threads.{IsThreadFile, numbers_under, thread_name, thread_place}
use Rattle.ml_filing.specs.declared.posts.Entry.{Entry}
use Rattle.ml_filing.specs.declared.posts.Thread.{Thread}
use Rattle.ml_filing.specs.declared.posts.Post.{Post}
use Rattle.ml_archive.specs.Counted.{AreCountedPosts, first_of}

-- whether a group has all its entries, by the number of posts: one for every post of it, from the first on
abbrev pub HasAll : ℕ → ℕ → List Entry → Type 0
HasAll count g entries = length entries + first_of g ≡ min (count + 1) (100 * g + 100)

-- an index has an entry for a post, but the file of the post is absent or has another size
abbrev pub HasOtherSize : Dir → ℕ → Type 0
HasOtherSize dir g = (entries : List Entry) × IsIndexFile g (dir (index_name g)) entries × ((e : Entry) × IsAmong entries e × IsOtherSize dir e.number e.size)

-- the index of a group has too few or too many entries for the number of posts
abbrev pub HasOtherCount : Dir → ℕ → ℕ → Type 0
HasOtherCount dir count g = (entries : List Entry) × IsIndexFile g (dir (index_name g)) entries × (¬ HasAll count g entries)

-- the threads of this file have, under each of its keys, the numbers of exactly the posts with that key
abbrev pub AreThreadsOf : Text → ℕ → List Post → List Thread → Type 0
AreThreadsOf prefix n posts threads = (k : Text) → thread_place k ≡ n → numbers_under k threads ≡ numbers (of_key prefix k posts)

-- without the thread files, the files stand for posts; but this thread file isn't the one of these posts
abbrev pub HasOtherThreads : Dir → Text → ℕ → Type 0
HasOtherThreads dir prefix n =
    (posts : List Post) × AreCountedPosts dir posts × ((threads : List Thread) → IsThreadFile n (dir (thread_name n)) threads → ¬ AreThreadsOf prefix n posts threads)

-- the same, and this thread file is the one of these posts
abbrev pub HasThreads : Dir → Text → ℕ → Type 0
HasThreads dir prefix n =
    (posts : List Post) × AreCountedPosts dir posts × ((threads : List Thread) × IsThreadFile n (dir (thread_name n)) threads × AreThreadsOf prefix n posts threads)

-- the files that say what a group is, and when one of them is damaged, by the number of posts
abbrev pub IsGroupName : ℕ → Name → Type 0
IsGroupName g name = (name ≡ number_name) ⊎ (name ≡ index_name g)

abbrev pub IsBadGroup : Dir → ℕ → ℕ → Name → Type 0
IsBadGroup dir count g name = ((name ≡ number_name) × HasOtherCount dir count g) ⊎ ((name ≡ index_name g) × (IsNoIndex dir g ⊎ HasOtherSize dir g))

-- the same for all groups that have a post
abbrev pub AreGroupNames : Name → Type 0
AreGroupNames name = (g : ℕ) × (g < 1_000_000) × IsGroupName g name

abbrev pub AreBadGroups : Dir → ℕ → Name → Type 0
AreBadGroups dir count name = (g : ℕ) × (first_of g ≤ count) × IsBadGroup dir count g name

-- a thread file
abbrev pub IsThreadsName : Name → Type 0
IsThreadsName name = (n : ℕ) × (n < 256) × (name ≡ thread_name n)

-- the files that an audit names: the number of posts, indexes and thread files
abbrev pub IsAuditName : Name → Type 0
IsAuditName name = (name ≡ number_name) ⊎ (AreGroupNames name ⊎ IsThreadsName name)

-- When a file breaks the archive: the number of posts, if it is outside its grammar, or if an index has too few or too
-- many entries for it; an index, if it is outside its grammar, or has an entry whose size isn't its post's; a thread
-- file, if it is outside its grammar, or isn't what the entries say. Only the indexes of groups that have a post count.
abbrev pub Breaks : Dir → Text → Name → Type 0
Breaks dir prefix name =
    ((name ≡ number_name) × IsNoNumber dir)
    ⊎ (((count : ℕ) × IsNumberFile (dir number_name) count × AreBadGroups dir count name) ⊎ ((n : ℕ) × (n < 256) × (name ≡ thread_name n) × HasOtherThreads dir prefix n))

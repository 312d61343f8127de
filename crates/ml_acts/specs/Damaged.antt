-- Which files that acts read are damaged: outside their grammar, or naming what isn't there.
use Rattle.std.specs.Prelude.{◌≡◌, ◌<◌, ◌⊎◌, ℕ, Bool, IsTrue, List}
use Rattle.ml_base.specs.Bytes.{Text}
use Rattle.ml_base.specs.Dir.{Dir}
use Rattle.ml_base.specs.declared.names.Name.{Name}
use Rattle.ml_base.specs.declared.names.Set.{Set}
use Rattle.ml_filing.specs.Answers.{IsNoNumber, IsNoIndex, IsBadForPost, IsBadForRange, IsBadForThread, IsBadForAppend}
use Rattle.ml_filing.specs.Archive.{ArePosts, IsNumberFile, number_name, index_name}
use Rattle.ml_filing.specs.Threads.{IsArchive}
use Rattle.ml_filing.specs.declared.posts.Post.{Post}
use Rattle.ml_bounce.specs.Answers.{has_ledger, IsBadFile}
use Rattle.ml_config.specs.ConfigFile.{IsConfigFile, config_name}
use Rattle.ml_config.specs.KeyFile.{IsKeyFile, key_name}
use Rattle.ml_config.specs.declared.configuration.Config.{Config}
use Rattle.ml_config.specs.declared.key_file.Keys.{Keys}
use Rattle.ml_digest.specs.Due.{IsMark, IsNoMark, mark_name}
use Rattle.ml_digest.specs.declared.posts.Mark.{Mark}
use Rattle.ml_hold.specs.Answers as held
use Rattle.ml_queue.specs.Answers as queue
use Rattle.ml_subs.specs.Subscribers.{IsBadBucket, IsNoCount, IsUnread, count_name}

-- a file that holds no keys
abbrev pub IsNoKeys : Dir → Type 0
IsNoKeys dir = (keys : Keys) → ¬ IsKeyFile (dir key_name) keys

-- files that hold no posts, whatever the threads are
abbrev pub AreNoPosts : Dir → Type 0
AreNoPosts dir = (posts : List Post) → ¬ ArePosts dir posts

-- files that hold no archive whose subjects may be marked with this prefix
abbrev pub IsNoArchive : Dir → Text → Type 0
IsNoArchive dir prefix = (posts : List Post) → ¬ IsArchive dir prefix posts

-- A file that is outside its grammar, or names what isn't there. Those of the archive are such that no list of posts can have them; which
-- threads there are depends on the configuration that the files hold.
pub data IsDamaged (dir : Dir) (name : Name) : Type 0 where
  keys : name ≡ key_name → IsNoKeys dir → IsDamaged dir name
  -- one of a set's 53 files; its count; or what a change of a key can't read
  bucket : (set : Set) → IsBadBucket dir set name → IsDamaged dir name
  count : (set : Set) → name ≡ count_name set → IsNoCount dir set 0 → IsDamaged dir name
  change : (set : Set) (k : Text) (has : Bool) → IsUnread dir set k has name → IsDamaged dir name
  ledger : (set : Set) → IsTrue (has_ledger set) → IsBadFile dir set name → IsDamaged dir name
  queued : queue.Breaks dir name → IsDamaged dir name
  waiting : held.Breaks dir name → IsDamaged dir name
  mark : name ≡ mark_name → IsNoMark dir → IsDamaged dir name
  -- a mark after the last post, or of more digests than posts in them
  ahead : (mark : Mark) (count : ℕ) → name ≡ mark_name → IsMark dir mark → IsNumberFile (dir number_name) count → (count < mark.last) ⊎ (mark.last < mark.issue) → IsDamaged dir name
  -- the files of the archive, by what was asked of it
  number : name ≡ number_name → IsNoNumber dir → IsDamaged dir name
  index : (group : ℕ) → name ≡ index_name group → IsNoIndex dir group → AreNoPosts dir → IsDamaged dir name
  post : (n : ℕ) → IsBadForPost dir n name → AreNoPosts dir → IsDamaged dir name
  range : (a b : ℕ) → IsBadForRange dir a b name → AreNoPosts dir → IsDamaged dir name
  thread : (c : Config) (n : ℕ) → IsConfigFile (dir config_name) c → IsBadForThread dir c.prefix n name → IsNoArchive dir c.prefix → IsDamaged dir name
  append : IsBadForAppend dir name → ((prefix : Text) → IsNoArchive dir prefix) → IsDamaged dir name

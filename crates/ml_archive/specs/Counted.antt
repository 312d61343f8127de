-- The archive up to its number of posts; files beyond that number are left out.
use Rattle.std.specs.Prelude.{ℕ, ◌*◌, max, Bool, ◌&&◌, ◌||◌, ◌==◌, nat_lt, List, length, None, if◌then◌else◌}
use Rattle.ml_base.specs.Bytes.{Text}
use Rattle.ml_base.specs.Dir.{Dir}
use Rattle.ml_base.specs.declared.names.Name.{Name}
use Rattle.ml_base.specs.Kinds.{post_kind, index_kind}
use Rattle.ml_filing.specs.Archive.{ArePosts}
use Rattle.ml_filing.specs.Threads.{IsArchive}
use Rattle.ml_filing.specs.declared.posts.Post.{Post}

-- the number of a group's first post
abbrev pub first_of : ℕ → ℕ
first_of g = max 1 (100 * g)

-- whether a file is a post beyond a number, or the index of a group whose first post is beyond it
abbrev pub is_past : ℕ → Name → Bool
is_past count name = (name.kind == post_kind && nat_lt count name.at) || (name.kind == index_kind && nat_lt count (first_of name.at))

-- a directory without these files
abbrev pub up_to : ℕ → Dir → Dir
up_to count dir name = if is_past count name then None else dir name

-- these are the posts of the archive, if the files beyond their number are left out; without the thread files, and with
-- them
abbrev pub AreCountedPosts : Dir → List Post → Type 0
AreCountedPosts dir posts = ArePosts (up_to (length posts) dir) posts

abbrev pub IsCountedArchive : Dir → Text → List Post → Type 0
IsCountedArchive dir prefix posts = IsArchive (up_to (length posts) dir) prefix posts

-- The archive as a list in which post n is the n-th, and what is asked of it: ranges, threads and groups.
use Rattle.std.specs.Prelude.{◌<◌, ◌/◌, ℕ, zero, suc, ◌&&◌, ◌==◌, nat_le, IsTrue, List, [], length, filter, map, slice_get, Option, Some, None}
use Rattle.std.specs.List.{enumerate_from}
use Rattle.std.specs.Str.{bytes_eq}
use Rattle.ml_base.specs.Bytes.{Text}
use Rattle.ml_base.specs.Address.{IsAddress}
use Rattle.ml_base.specs.Cuts.{one_or_within}
use Rattle.ml_base.specs.Ranges.{is_moment}
use Rattle.ml_filing.specs.Subjects.{subject_key}
use Rattle.ml_filing.specs.declared.posts.Post.{Post}
use Rattle.ml_filing.specs.declared.posts.Entry.{Entry}

-- a post in its ranges
pub record IsPost (p : Post) : Type 0 where
  pub sender : IsAddress p.sender
  pub moment : IsTrue (is_moment p.moment)
  pub size : length p.bytes < 4_294_967_296

-- post n, or None where n is 0 or above the count
abbrev pub post_at : List Post → ℕ → Option Post
post_at posts zero = None
post_at posts (suc n) = slice_get posts n

-- a post with its number
abbrev pub Numbered : Type 0
Numbered = ℕ × Post

-- the posts with their numbers, from 1 on
abbrev pub numbered : List Post → List Numbered
numbered posts = enumerate_from 1 posts

-- the posts a to b
abbrev pub in_range : ℕ → ℕ → List Post → List Numbered
in_range a b posts = filter (λ e. nat_le a e.0 && nat_le e.0 b) (numbered posts)

-- the key of a post's subject
abbrev pub key_of : Text → Post → Text
key_of prefix p = subject_key prefix p.subject

-- the posts whose subject has this key
abbrev pub of_key : Text → Text → List Post → List Numbered
of_key prefix k posts = filter (λ e. bytes_eq (key_of prefix e.1) k) (numbered posts)

-- the posts with the same subject key as a given post; none if that isn't there
abbrev pub as_post : Text → List Post → Option Post → List Numbered
as_post prefix posts None = []
as_post prefix posts (Some p) = of_key prefix (key_of prefix p) posts

-- the thread of post n
abbrev pub in_thread : Text → ℕ → List Post → List Numbered
in_thread prefix n posts = as_post prefix posts (post_at posts n)

-- group g: the posts n with n / 100 = g
abbrev pub group : ℕ → List Post → List Numbered
group g posts = filter (λ e. (e.0 / 100) == g) (numbered posts)

-- how many bytes a post has
abbrev pub size_of : Numbered → ℕ
size_of e = length e.1.bytes

-- as many posts, from the first on, as one answer has: 100 posts and 4,194,304 bytes together, but always the first
abbrev pub cut : List Numbered → List Numbered
cut posts = one_or_within size_of 100 4_194_304 posts

-- the numbers of posts
abbrev pub numbers : List Numbered → List ℕ
numbers posts = map (λ e. e.0) posts

-- what the index says of a post
abbrev pub entry : Numbered → Entry
entry e = record { number = e.0; moment = e.1.moment; sender = e.1.sender; size = size_of e; subject = e.1.subject }

-- the index of group g
abbrev pub index_of : ℕ → List Post → List Entry
index_of g posts = map entry (group g posts)

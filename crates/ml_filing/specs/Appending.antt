-- What appending a post makes of the archive: of its list of posts, and of its files.
use Rattle.std.specs.Prelude.{◌≤◌, ◌<◌, ℕ, ◌+◌, ◌/◌, List, [], ◌∷◌, ◌++◌, length, Some}
use Rattle.std.specs.List.{flat_map}
use Rattle.ml_base.specs.Bytes.{Text}
use Rattle.ml_base.specs.Sorted.{byte_cmp, with_entry}
use Rattle.ml_base.specs.declared.names.Name.{Name}
use Rattle.ml_base.specs.declared.puts.Put.{Put}
use Rattle.ml_filing.specs.Archive.{post_name, index_name, number_name, number_text, entry_text}
use Rattle.ml_filing.specs.Posts.{Numbered, IsPost, entry, key_of}
use Rattle.ml_filing.specs.Threads.{Thread, thread_name, thread_place, thread_text, numbers_under}
use Rattle.ml_filing.specs.declared.posts.Post.{Post}

-- the posts with one more at the end
abbrev pub append : Post → List Post → List Post
append post posts = posts ++ post ∷ []

-- the number that the next post gets
abbrev pub next_number : List Post → ℕ
next_number posts = length posts + 1

-- the next post with its number
abbrev pub next_post : List Post → Post → Numbered
next_post posts post = (next_number posts, post)

-- a post that the archive can take: in its ranges, with a subject of at most 1,000 bytes, and a number left for it
pub record CanAppend (posts : List Post) (post : Post) : Type 0 where
  pub is : IsPost post
  pub subject : length post.subject ≤ 1000
  pub room : length posts < 99_999_999

-- threads with one more number under a key
abbrev pub with_number : Text → ℕ → List Thread → List Thread
with_number k n threads = with_entry byte_cmp (λ t. t.key) (record { key = k; numbers = numbers_under k threads ++ n ∷ [] }) threads

-- gives a file these bytes
abbrev pub written : Name → Text → Put
written name bytes = record { name = name; bytes = Some bytes }

-- What is written for a post that gets number n and whose subject has key k: the post itself; its entry, after the text
-- that its group's index had; the number of posts; and the threads of the key's file, with n under the key.
abbrev pub key_puts : Text → ℕ → Post → Text → List Thread → List Put
key_puts k n post index threads =
    written (post_name n) post.bytes
    ∷ written (index_name (n / 100)) (index ++ entry_text (entry (n, post)))
    ∷ written number_name (number_text n)
    ∷ written (thread_name (thread_place k)) (flat_map thread_text (with_number k n threads))
    ∷ []

-- the same on a list with this prefix
abbrev pub append_puts : Text → ℕ → Post → Text → List Thread → List Put
append_puts prefix n post index threads = key_puts (key_of prefix post) n post index threads

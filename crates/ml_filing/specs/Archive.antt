-- The files of the archive without its threads: a file for every post, an index for every group, and the number of
-- posts.
use Rattle.std.specs.Prelude.{◌≡◌, ◌<◌, ◌≤◌, ◌^◌, ℕ, Bool, ◌||◌, ◌==◌, IsTrue, List, [], ◌∷◌, ◌++◌, length, Some, unwrap_or, ◌+◌, ◌-◌, ◌*◌, max, map, Option}
use Rattle.std.specs.List.{flat_map, range_with_len, AllByRecursion}
use Rattle.std.specs.Option.{option_map}
use Rattle.std.specs.Fmt.{decimal}
use Rattle.ml_base.specs.Bytes.{Text, line_feed}
use Rattle.ml_base.specs.Dir.{Dir}
use Rattle.ml_base.specs.Name.{is_in_table}
use Rattle.ml_base.specs.Netstrings.{ns}
use Rattle.ml_base.specs.declared.names.Name.{Name}
use Rattle.ml_base.specs.Address.{IsAddress}
use Rattle.ml_base.specs.Ranges.{is_moment}
use Rattle.ml_rows.specs.Values.{number_line}
use Rattle.ml_filing.specs.Posts.{IsPost, post_at, index_of}
use Rattle.ml_filing.specs.declared.posts.Entry.{Entry}
use Rattle.ml_filing.specs.declared.posts.Post.{Post}
pub use Rattle.ml_base.specs.Kinds.{post_name, index_name, number_name}
use Rattle.ml_base.specs.Kinds.{post_kind, index_kind, number_kind}

-- the number of posts in decimal, and LF
abbrev pub number_text : ℕ → Text
number_text n = number_line n

-- the netstrings of a post's moment, sender, size and subject, and LF
unfoldable pub entry_text : Entry → Text
entry_text e = ns (decimal e.moment) ++ ns e.sender ++ ns (decimal e.size) ++ ns e.subject ++ line_feed ∷ []

-- an index: its entries in order
abbrev pub index_text : List Entry → Text
index_text entries = flat_map entry_text entries

-- an entry in its ranges
pub record IsEntry (e : Entry) : Type 0 where
  pub moment : IsTrue (is_moment e.moment)
  pub sender : IsAddress e.sender
  pub size : e.size < 4_294_967_296
  pub short : length e.subject < 10 ^ 18

-- the index of group g has these entries, from the group's first number on; an absent index is an empty one
pub record IsIndexFile (g : ℕ) (file : Option Text) (entries : List Entry) : Type 0 where
  pub each : AllByRecursion IsEntry entries
  pub numbered : map (λ e. e.number) entries ≡ range_with_len (max 1 (100 * g)) (length entries)
  pub few : length entries ≤ 100 * g + 100 - max 1 (100 * g)
  pub spelled : unwrap_or file [] ≡ index_text entries

-- the file that spells the number of posts
pub record IsNumberFile (file : Option Text) (count : ℕ) : Type 0 where
  pub few : count ≤ 99_999_999
  pub spelled : file ≡ Some (number_text count)

-- the files hold these posts and no others, the indexes hold exactly their entries, and the number is how many they are
pub record ArePosts (dir : Dir) (posts : List Post) : Type 0 where
  pub each : AllByRecursion IsPost posts
  pub files : (n : ℕ) → IsTrue (is_in_table (post_name n)) → dir (post_name n) ≡ option_map (λ p. p.bytes) (post_at posts n)
  pub indexes : (g : ℕ) → IsTrue (is_in_table (index_name g)) → IsIndexFile g (dir (index_name g)) (index_of g posts)
  pub counted : IsNumberFile (dir number_name) (length posts)

-- whether a file is a post, an index, or the number of posts
abbrev pub is_of_posts : Name → Bool
is_of_posts name = name.kind == post_kind || name.kind == index_kind || name.kind == number_kind

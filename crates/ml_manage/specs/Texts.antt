-- The texts of answers about posts, by their numbers and by the entries of an index.
use Rattle.std.specs.Prelude.{min, ℕ, List, [], ◌∷◌, ◌++◌, codes, Option, Some, None}
use Rattle.std.specs.Fmt.{decimal}
use Rattle.std.specs.List.{flat_map}
use Rattle.ml_base.specs.Bytes.{Text, tab}
use Rattle.ml_base.specs.Texts.{lines_text}
use Rattle.ml_filing.specs.Posts.{post_at}
use Rattle.ml_filing.specs.declared.posts.Entry.{Entry}
use Rattle.ml_filing.specs.declared.posts.Post.{Post}
use Rattle.ml_config.specs.declared.configuration.Config.{Config}
use Rattle.ml_plain.specs.ArchiveText.{whole_post}
use Rattle.ml_plain.specs.Plain.{Plain}
use Rattle.ml_reply.specs.Dates.{date_text}

-- the line that says that there are none
abbrev pub no_posts : Text
no_posts = lines_text (codes "No such posts." ∷ [])

-- a post after its line, or nothing if it isn't there
abbrev pub if_post : Config → ℕ → Option Post → Text
if_post c n None = []
if_post c n (Some post) = whole_post c (n, post)

-- the post of a number
abbrev pub post_text : Plain → ℕ → Text
post_text p n = if_post p.config n (post_at p.posts n)

-- the posts of these numbers, or a line that says that there are none
abbrev pub posts_text : Plain → List ℕ → Text
posts_text p [] = no_posts
posts_text p (n ∷ ns) = flat_map (post_text p) (n ∷ ns)

-- the two lines of an entry; a moment after the year 9999 counts as the last of that year
abbrev pub entry_text : Entry → Text
entry_text e =
    lines_text ((decimal e.number ++ codes ": " ++ date_text (min e.moment 253_402_300_799) ++ codes "; " ++ e.sender) ∷ (tab ∷ e.subject) ∷ [])

-- those of a row of entries, or a line that says that there are none
abbrev pub entries_text : List Entry → Text
entries_text [] = no_posts
entries_text (e ∷ es) = flat_map entry_text (e ∷ es)

-- Which files a timed run may read, and which it looks at.
use Rattle.std.specs.Prelude.{Bool, ◌&&◌, ◌||◌, ◌==◌, nat_lt}
use Rattle.ml_base.specs.Dir.{same_name}
use Rattle.ml_base.specs.Kinds.{post_kind}
use Rattle.ml_base.specs.Ranges.{is_post_number}
use Rattle.ml_base.specs.declared.names.Name.{Name}
use Rattle.ml_base.specs.declared.names.Set.{Set}
use Rattle.ml_base.specs.declared.names.Set.TheVariants as sets
use Rattle.ml_bounce.specs.Answers.{ledger_kind}
use Rattle.ml_config.specs.KeyFile.{key_name}
use Rattle.ml_filing.specs.Archive.{number_name}
use Rattle.ml_digest.specs.Due.{mark_name}
use Rattle.ml_hold.specs.Answers.{tickets_name}
use Rattle.ml_queue.specs.Answers.{ids_name}
use Rattle.ml_acts.specs.Doing.{is_bucket, is_held_post, is_index}

-- held posts and their counter
abbrev pub is_waiting : Name → Bool
is_waiting name = is_held_post name || same_name name tickets_name

-- what giving posts back reads: these, and the counter of ids
abbrev pub is_of_giving_back : Name → Bool
is_of_giving_back name = is_waiting name || same_name name ids_name

-- how far the digests have come, and how many posts there are
abbrev pub is_of_progress : Name → Bool
is_of_progress name = same_name name mark_name || same_name name number_name

-- the number of posts and their indexes
abbrev pub is_of_posts_told : Name → Bool
is_of_posts_told name = same_name name number_name || is_index name

-- the posts
abbrev pub is_post_file : Name → Bool
is_post_file name = name.kind == post_kind && is_post_number name.at

-- The number of posts, their indexes, and the posts. If a post's file isn't as its index says, the index is named, and never the post.
abbrev pub is_of_posts_seen : Name → Bool
is_of_posts_seen name = is_of_posts_told name || is_post_file name

-- a mail to the digest set: its members, and the counter of ids
abbrev pub is_of_issue : Name → Bool
is_of_issue name = is_bucket sets.Digest name || same_name name ids_name

-- what making a digest reads
abbrev pub is_of_digesting : Name → Bool
is_of_digesting name = is_of_progress name || is_of_posts_told name || is_of_issue name

-- what making a digest looks at: what it reads, and the posts
abbrev pub is_seen_in_digesting : Name → Bool
is_seen_in_digesting name = is_of_digesting name || is_post_file name

-- the 53 files of a set's ledger
abbrev pub is_ledger : Set → Name → Bool
is_ledger set name = (name.kind == ledger_kind set) && nat_lt name.at 53

-- what an entry of a set needs: its file of the ledger, the bucket of its key, and the counter of ids
abbrev pub is_followed_by : Set → Name → Bool
is_followed_by set name = is_ledger set name || is_bucket set name || same_name name ids_name

-- what following bounces up reads: the entries of both sets, and the keys
abbrev pub is_of_following : Name → Bool
is_of_following name = same_name name key_name || is_followed_by sets.List name || is_followed_by sets.Digest name

-- what a timed run reads, of a list with digests or without: only on a list with digests what making one reads
abbrev pub is_of_timed : Bool → Name → Bool
is_of_timed digests name = is_of_giving_back name || (digests && is_of_digesting name) || is_of_following name

-- what a timed run looks at: the files that it may name, and of a list with digests the posts, which it never names
abbrev pub is_seen_in_timed : Bool → Name → Bool
is_seen_in_timed digests name = is_of_timed digests name || (digests && is_post_file name)

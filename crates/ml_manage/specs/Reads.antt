-- Which files mail to the list's other addresses may read.
use Rattle.std.specs.Prelude.{◌≡◌, ◌==◌, ◌/◌, ℕ, List, Bool, true, false, ◌||◌, ◌&&◌, nat_le, nat_lt, Option, Some, None, unwrap_or}
use Rattle.std.specs.List.{IsAmong}
use Rattle.ml_base.specs.Address.{key, address_of}
use Rattle.ml_base.specs.Bytes.{Text}
use Rattle.ml_base.specs.Dir.{Dir, same_name}
use Rattle.ml_base.specs.Kinds.{post_kind}
use Rattle.ml_base.specs.Ranges.{is_post_number}
use Rattle.ml_base.specs.declared.names.Name.{Name}
use Rattle.ml_base.specs.declared.names.Set.{Set}
use Rattle.ml_base.specs.declared.names.Set.TheVariants as sets
use Rattle.ml_address.specs.Requests.{PlainRequest, Post, Other, Owner, Subscribe, Unsubscribe, Confirm, Members, Get, Index, Thread, Accept, Reject, Bounce, WarnBounce, ProbeBounce, ReplyBounce, is_in_range}
use Rattle.ml_filing.specs.Archive.{number_name, index_name}
use Rattle.ml_filing.specs.Answers.{IsBadForPost}
use Rattle.ml_filing.specs.Threads.{is_of_archive}
use Rattle.ml_config.specs.KeyFile.{key_name}
use Rattle.ml_config.specs.declared.configuration.Config.{Config}
use Rattle.ml_digest.specs.Due.{mark_name}
use Rattle.ml_joining.specs.Operations.{asked_of}
use Rattle.ml_joining.specs.Reads.{is_read_to_confirm, is_read_to_subscribe, is_read_to_unsubscribe}
use Rattle.ml_plain.specs.Bouncing.{address_named}
use Rattle.ml_subs.specs.Subscribers.{is_touched}
use Rattle.ml_acts.specs.Asked.{IsBadAmong, IsBadFor, Count, Group, Range, ThreadOf}
use Rattle.ml_acts.specs.Damaged.{IsDamaged}
use Rattle.ml_acts.specs.Doing.{Alike, is_bucket, is_bucket_of, is_entry_of, is_index, is_thread_file}
use Rattle.ml_queue.specs.Answers.{ids_name}

-- the file that says which numbers of a set were used: the mark of the digests, or the number of posts
abbrev pub is_counted_in : Set → Name → Bool
is_counted_in sets.Digest name = same_name name mark_name
is_counted_in _ name = same_name name number_name

-- whether letters are a member's cookie
abbrev pub is_of_signed : Set → Text → Name → Bool
is_of_signed set x name = is_bucket_of set x name || same_name name key_name

-- a bounce of mail, of a warning and of a probe to an address
abbrev pub is_of_bounce : Set → Text → Name → Bool
is_of_bounce set x name = is_bucket_of set x name || is_counted_in set name || is_entry_of set x name

abbrev pub is_of_warning : Set → Text → Name → Bool
is_of_warning set x name = is_of_signed set x name || is_entry_of set x name

abbrev pub is_of_probe : Set → Text → Name → Bool
is_of_probe set x name = is_of_signed set x name || is_touched set (key x) name || is_entry_of set x name

-- whether an address may read the archive
abbrev pub is_of_reader : Config → Text → Name → Bool
is_of_reader c sender name =
    is_bucket_of sets.Moderators sender name || (c.flags.g && (is_bucket_of sets.List sender name || is_bucket_of sets.Digest sender name))

-- posts: their number, and the indexes
abbrev pub is_of_range : Name → Bool
is_of_range name = is_index name || same_name name number_name

-- the file of a post
abbrev pub is_post_file : Name → Bool
is_post_file name = name.kind == post_kind && is_post_number name.at

-- the posts a to b: how many posts there are, and the indexes of the groups of these
abbrev pub is_of_posts : ℕ → ℕ → Name → Bool
is_of_posts a b name = (is_index name && (nat_le (a / 100) name.at && nat_le name.at (b / 100))) || same_name name number_name

-- the posts a to b themselves
abbrev pub is_post_within : ℕ → ℕ → Name → Bool
is_post_within a b name = is_post_file name && (nat_le a name.at && nat_le name.at b)

-- what is looked at for the posts a to b: these too, which are never named
abbrev pub is_seen_of_posts : ℕ → ℕ → Name → Bool
is_seen_of_posts a b name = is_of_posts a b name || is_post_within a b name

-- two directories have the same files for every post of a row
abbrev pub AlikeEach : List ℕ → Dir → Dir → Type 0
AlikeEach ns old dir = (n : ℕ) → IsAmong ns n → Alike (is_seen_of_posts n n) old dir

-- a thread: how many posts there are, the indexes and the thread files
abbrev pub is_of_thread : Name → Bool
is_of_thread name = is_of_range name || is_thread_file name

-- what is looked at for a thread: the posts too, which are never named
abbrev pub is_seen_of_thread : Name → Bool
is_seen_of_thread name = is_of_thread name || is_post_file name

-- the index of a post's group, if posts can have that group
abbrev pub is_of_index : ℕ → Name → Bool
is_of_index at name = nat_lt (at / 100) 1_000_000 && same_name name (index_name (at / 100))

-- the members of a set for a sender: the moderators if `l` is set, and the set
abbrev pub is_of_members : Config → Text → Set → Name → Bool
is_of_members c sender set name = (c.flags.l && is_bucket_of sets.Moderators sender name) || is_bucket set name || same_name name ids_name

-- the files that a request of a sender whose address is checked may read
abbrev pub is_asked_of : Config → Text → PlainRequest → Name → Bool
is_asked_of c sender (Subscribe set who) name = is_read_to_subscribe c sender set (asked_of sender who) name
is_asked_of c sender (Unsubscribe set who) name = is_read_to_unsubscribe c sender set (asked_of sender who) name
is_asked_of c sender (Confirm word set s) name = is_read_to_confirm word set (address_named s.who) name
is_asked_of c sender (Members set) name = is_of_members c sender set name
is_asked_of c sender (Get from to) name = is_of_reader c sender name || is_of_posts from (unwrap_or to from) name || same_name name ids_name
is_asked_of c sender (Index at) name = is_of_reader c sender name || is_of_index at name || same_name name ids_name
is_asked_of c sender (Thread at) name = is_of_reader c sender name || is_of_thread name || same_name name ids_name
is_asked_of c sender _ name = same_name name ids_name

-- and one of a sender that may not be an address
abbrev pub is_read_for : Config → Option Text → PlainRequest → Name → Bool
is_read_for c None request name = false
is_read_for c (Some who) request name = is_asked_of c who request name

-- the files that a sender's mail may read
abbrev pub is_read_for_sender : Config → Text → PlainRequest → Name → Bool
is_read_for_sender c sender (Bounce set number who) name = is_of_bounce set (address_named who) name
is_read_for_sender c sender (WarnBounce set s) name = is_of_warning set (address_named s.who) name
is_read_for_sender c sender (ProbeBounce set s) name = is_of_probe set (address_named s.who) name
is_read_for_sender c sender (ReplyBounce set) name = false
is_read_for_sender c sender Owner name = same_name name ids_name
is_read_for_sender c sender request name = is_read_for c (address_of sender) request name

-- the posts that a request asks for
abbrev pub is_post_asked : PlainRequest → Name → Bool
is_post_asked (Get from to) name = is_post_within from (unwrap_or to from) name
is_post_asked (Thread at) name = is_post_file name
is_post_asked _ name = false

-- what such requests look at: the files that they may read and name, and the posts that they ask for, which are never named
abbrev pub is_seen_of : Config → Text → PlainRequest → Name → Bool
is_seen_of c sender request name = is_post_asked request name || is_asked_of c sender request name

abbrev pub is_seen_for : Config → Option Text → PlainRequest → Name → Bool
is_seen_for c who request name = is_post_asked request name || is_read_for c who request name

abbrev pub is_seen_for_sender : Config → Text → PlainRequest → Name → Bool
is_seen_for_sender c sender request name = is_post_asked request name || is_read_for_sender c sender request name

-- a request that this crate answers: neither a post nor a moderator's answer, with its parts in their ranges
abbrev pub is_managed : PlainRequest → Bool
is_managed Post = false
is_managed (Accept ticket cookie) = false
is_managed (Reject ticket cookie) = false
is_managed Other = true
is_managed request = is_in_range request

-- What a request asks of the archive: a file of it that is named is damaged for the posts of its range, the index of its post's group, its
-- thread, or the number of posts. No other request reads the archive.
abbrev pub IsForRequest : Dir → Config → PlainRequest → Name → Type 0
IsForRequest dir c (Get from to) name = is_of_archive name ≡ true → IsBadFor dir (Range from (unwrap_or to from)) name
IsForRequest dir c (Index at) name = is_of_archive name ≡ true → IsBadFor dir (Group (at / 100)) name
IsForRequest dir c (Thread at) name = is_of_archive name ≡ true → IsBadFor dir (ThreadOf c.prefix at) name
IsForRequest dir c (Bounce set number who) name = is_of_archive name ≡ true → IsBadFor dir Count name
IsForRequest dir c _ name = Unit {0}

-- a damaged file; if it is one of the archive, it is damaged for what the request asks
pub record IsDamagedFor (dir : Dir) (c : Config) (request : PlainRequest) (name : Name) : Type 0 where
  pub damaged : IsDamaged dir name
  pub own : IsForRequest dir c request name

-- a damaged file, for a post, and for one of a row
pub record IsDamagedPost (dir : Dir) (n : ℕ) (name : Name) : Type 0 where
  pub damaged : IsDamaged dir name
  pub bad : IsBadForPost dir n name

pub record IsDamagedAmong (dir : Dir) (row : List ℕ) (name : Name) : Type 0 where
  pub damaged : IsDamaged dir name
  pub bad : IsBadAmong dir row name

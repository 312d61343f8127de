-- The kinds of files, with a word for each, and the names of files.
use Rattle.std.specs.Prelude.{ℕ}
use Rattle.ml_base.specs.Name.{set_kind, set_number}
use Rattle.ml_base.specs.declared.names.Name.{Name}
use Rattle.ml_base.specs.declared.names.Set.{Set}

-- the log
abbrev pub log_kind : ℕ
log_kind = 0

-- the configuration
abbrev pub config_kind : ℕ
config_kind = 1

-- the keys
abbrev pub key_kind : ℕ
key_kind = 2

-- the counts of the sets
abbrev pub count_kind : ℕ
count_kind = 8

-- posts
abbrev pub post_kind : ℕ
post_kind = 9

-- the indexes of posts
abbrev pub index_kind : ℕ
index_kind = 10

-- the number of posts
abbrev pub number_kind : ℕ
number_kind = 11

-- how far the digests have come
abbrev pub mark_kind : ℕ
mark_kind = 12

-- held posts
abbrev pub held_kind : ℕ
held_kind = 13

-- the counter of tickets
abbrev pub tickets_kind : ℕ
tickets_kind = 14

-- the buckets of the list's bounces
abbrev pub bounces_kind : ℕ
bounces_kind = 15

-- the buckets of the bounces of digests
abbrev pub digest_bounces_kind : ℕ
digest_bounces_kind = 16

-- queue entries
abbrev pub entry_kind : ℕ
entry_kind = 17

-- the counter of ids
abbrev pub ids_kind : ℕ
ids_kind = 18

-- kept replies
abbrev pub replies_kind : ℕ
replies_kind = 19

-- the files of threads
abbrev pub thread_kind : ℕ
thread_kind = 20

-- the floor under kept replies
abbrev pub floor_kind : ℕ
floor_kind = 21

-- the configuration's file
abbrev pub config_name : Name
config_name = record { kind = config_kind; at = 0 }

-- the keys' file
abbrev pub key_name : Name
key_name = record { kind = key_kind; at = 0 }

-- the file of one bucket of a set
abbrev pub bucket_name : Set → ℕ → Name
bucket_name set n = record { kind = set_kind set; at = n }

-- the file of a set's count
abbrev pub count_name : Set → Name
count_name set = record { kind = count_kind; at = set_number set }

-- the file of a post
abbrev pub post_name : ℕ → Name
post_name n = record { kind = post_kind; at = n }

-- the index of a group of posts
abbrev pub index_name : ℕ → Name
index_name g = record { kind = index_kind; at = g }

-- the file of the number of posts
abbrev pub number_name : Name
number_name = record { kind = number_kind; at = 0 }

-- the file that tells how far the digests have come
abbrev pub mark_name : Name
mark_name = record { kind = mark_kind; at = 0 }

-- the file of a held post
abbrev pub held_name : ℕ → Name
held_name ticket = record { kind = held_kind; at = ticket }

-- one of the files of the list's bounces
abbrev pub bounces_name : ℕ → Name
bounces_name n = record { kind = bounces_kind; at = n }

-- one of the files of the bounces of digests
abbrev pub digest_bounces_name : ℕ → Name
digest_bounces_name n = record { kind = digest_bounces_kind; at = n }

-- the file of a queue entry
abbrev pub entry_name : ℕ → Name
entry_name id = record { kind = entry_kind; at = id }

-- the file of the kept replies of a block of numbers
abbrev pub replies_name : ℕ → Name
replies_name block = record { kind = replies_kind; at = block }

-- one of the files of threads
abbrev pub thread_name : ℕ → Name
thread_name n = record { kind = thread_kind; at = n }

-- the file of the floor
abbrev pub floor_name : Name
floor_name = record { kind = floor_kind; at = 0 }

-- the log's file
abbrev pub log_name : Name
log_name = record { kind = log_kind; at = 0 }

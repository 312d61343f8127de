-- How a set of subscribers is spread over 53 files and a count, and what a file that breaks this is.
use Rattle.std.specs.Prelude.{◌≡◌, ◌≢◌, ◌<◌, ◌≤◌, ℕ, Bool, true, false, ◌&&◌, ◌||◌, ◌==◌, nat_lt, List, [], ◌∷◌, ◌++◌, length, map, Option, Some, None, ◌⊎◌, slice_index_or}
use Rattle.std.specs.Fmt.{decimal}
use Rattle.ml_base.specs.Bytes.{Text, line_feed}
use Rattle.ml_base.specs.Dir.{Dir, same_name}
use Rattle.ml_base.specs.Name.{set_kind}
use Rattle.ml_base.specs.declared.names.Name.{Name}
use Rattle.ml_base.specs.declared.names.Set.{Set}
use Rattle.ml_keyed.specs.Buckets.{AreFirst, IsUnion}
use Rattle.ml_subs.specs.declared.lists.Spelling.{Spelling}
use Rattle.ml_subs.specs.declared.member_list.Member.{Member}
use Rattle.ml_subs.specs.Members.{member_key, has_key}
use Rattle.ml_subs.specs.Buckets.{bucket_of, IsBucketFile}
pub use Rattle.ml_base.specs.Kinds.{bucket_name, count_name}

-- a count in decimal, and LF
abbrev pub count_text : ℕ → Text
count_text n = decimal n ++ line_feed ∷ []

-- every one of a set's 53 files has the members of its bucket
abbrev pub AreBuckets : Dir → Set → (ℕ → List Member) → Type 0
AreBuckets dir set buckets = AreFirst IsBucketFile (λ n. dir (bucket_name set n)) 53 buckets

-- together, the buckets of a set have these members: under every key what the key's bucket has
abbrev pub AreJoined : Dir → Set → List Member → Type 0
AreJoined dir set ms = IsUnion member_key IsBucketFile (λ n. dir (bucket_name set n)) ms

-- the members of the bucket that a key belongs to
abbrev pub IsBucketOf : Dir → Set → Text → List Member → Type 0
IsBucketOf dir set k ms = IsBucketFile (bucket_of k) (dir (bucket_name set (bucket_of k))) ms

-- the files of a set stand for these members: the buckets have them, and the count is their number, 100,000 at most
pub record AreSubscribers (dir : Dir) (set : Set) (ms : List Member) : Type 0 where
  pub members : AreJoined dir set ms
  pub few : length ms ≤ 100_000
  pub counted : dir (count_name set) ≡ Some (count_text (length ms))

-- a bucket's file is outside its grammar
abbrev pub IsNoBucket : Dir → Set → ℕ → Type 0
IsNoBucket dir set n = (ms : List Member) → ¬ IsBucketFile n (dir (bucket_name set n)) ms

-- the name of one of a set's 53 buckets
abbrev pub IsBucketName : Set → Name → Type 0
IsBucketName set name = (n : ℕ) × (n < 53) × (name ≡ bucket_name set n)

-- one of a set's 53 buckets, outside its grammar
abbrev pub IsBadBucket : Dir → Set → Name → Type 0
IsBadBucket dir set name = (n : ℕ) × (n < 53) × (name ≡ bucket_name set n) × IsNoBucket dir set n

-- the files of a set's buckets, if these are their bytes, bucket by bucket
abbrev pub file_in : List (Option Text) → Name → Option Text
file_in texts name = slice_index_or texts name.at None

-- the bytes of a set's first buckets
pub record AreFiles (dir : Dir) (set : Set) (count : ℕ) (texts : List (Option Text)) : Type 0 where
  pub each : (n : ℕ) → n < count → slice_index_or texts n None ≡ dir (bucket_name set n)

-- a count's file that spells no number from `least` to 100,000
abbrev pub IsNoCount : Dir → Set → ℕ → Type 0
IsNoCount dir set least = (n : ℕ) → least ≤ n → n ≤ 100_000 → dir (count_name set) ≢ Some (count_text n)

-- a set's 53 files as they read, with the addresses of the members that they spell
pub record IsSpelled (set : Set) (now : Spelling) : Type 0 where
  pub count : length now.texts ≡ 53
  pub members : List Member
  pub union : AreJoined (file_in now.texts) set members
  pub addresses : now.addresses ≡ map (λ m. m.who) members

-- the least number of members of a set that has a key, or that doesn't
abbrev pub least_count : Bool → ℕ
least_count true = 1
least_count false = 0

-- a file that a change of a key can't read: the key's bucket, if it is outside its grammar; or the count, if the bucket
-- has the key or not as the change needs it, and the count spells no number that such a set can have
abbrev pub IsUnread : Dir → Set → Text → Bool → Name → Type 0
IsUnread dir set k has name =
    ((name ≡ bucket_name set (bucket_of k)) × IsNoBucket dir set (bucket_of k))
    ⊎ ((name ≡ count_name set) × ((ms : List Member) × IsBucketOf dir set k ms × (has_key k ms ≡ has)) × IsNoCount dir set (least_count has))

-- a file of a set that no list can have: a bucket outside its grammar, or a count that isn't the number of the members
abbrev pub Breaks : Dir → Set → Name → Type 0
Breaks dir set name =
    IsBadBucket dir set name
    ⊎ ((name ≡ count_name set) × ((buckets : ℕ → List Member) × AreBuckets dir set buckets) × ((ms : List Member) → ¬ AreSubscribers dir set ms))

-- whether a file is the bucket of a key in a set, or the set's count
abbrev pub is_touched : Set → Text → Name → Bool
is_touched set k name = same_name name (bucket_name set (bucket_of k)) || same_name name (count_name set)

-- whether a file belongs to a set: one of its 53 buckets, or its count
abbrev pub is_of_set : Set → Name → Bool
is_of_set set name = ((name.kind == set_kind set) && nat_lt name.at 53) || same_name name (count_name set)

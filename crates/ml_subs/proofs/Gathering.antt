-- What is read bucket by bucket: all members of a set, or how many they are.
use Rattle.std.proofs.Common.{◌≡◌, ℕ, ◌+◌, ◌-◌, ◌^◌, ◌≤◌, true, List, [], ◌++◌, length, min, Option, Some, Result, Ok, Err, IfOk, refl, sym, ◌∙◌, subst, arith, inr}
use Rattle.std.specs.List.Sorted.{IsPermutation, IsSortedByKey}
use Rattle.ml_base.specs.Dir.{Dir}
use Rattle.ml_base.specs.Sorted.{byte_cmp}
use Rattle.ml_base.specs.declared.names.Set.{Set}
use Rattle.ml_base.specs.declared.names.Set.TheVariants as sets
use Rattle.ml_base.specs.declared.names.Name.{Name}
use Rattle.ml_base.specs.declared.part_error.PartError.{PartError}
use Rattle.ml_base.specs.PartErrors.{OnDamaged}
use Rattle.ml_keyed.specs.Buckets.{AreFirst, counted}
use Rattle.ml_keyed.proofs.Files.{Reads, reads_none, reads_more, union_own, union_sorted}
use Rattle.ml_subs.specs.declared.member_list.Member.{Member}
use Rattle.ml_subs.specs.Members.{member_key}
use Rattle.ml_subs.specs.Buckets.{IsBucketFile}
use Rattle.ml_base.specs.Bytes.{Text}
use Rattle.ml_subs.specs.Subscribers.{AreFiles, file_in, AreBuckets, AreJoined, AreSubscribers, Breaks, IsBucketName, IsNoCount, is_of_set, bucket_name, count_name, count_text}
use Rattle.ml_base.proofs.DamagedNames.{on_damaged}
use Rattle.ml_subs.proofs.Counted.{count_one, some_one}
use Rattle.ml_subs.proofs.Represented.{bucket_hashed, bucket_ordered, bucket_own, count_own, broken, made_of, counted_one}

-- the members that the first buckets have
abbrev pub Gathers : Dir → Set → ℕ → List Member → Type 0
Gathers dir set n found = Reads IsBucketFile [] (λ done bucket. done ++ bucket) (λ bucket. bucket) (λ i. dir (bucket_name set i)) n found

-- how many members the first buckets have, at most 2^64 - 1
abbrev pub Counts : Dir → Set → ℕ → ℕ → Type 0
Counts dir set n count = (buckets : ℕ → List Member) × AreFirst IsBucketFile (λ i. dir (bucket_name set i)) n buckets × (count ≡ min (counted buckets n) (2 ^ 64 - 1))

pub gathers_none : (dir : Dir) (set : Set) → Gathers dir set 0 []
gathers_none dir set = reads_none IsBucketFile [] (λ done bucket. done ++ bucket) (λ bucket. bucket) (λ i. dir (bucket_name set i))

pub gathers_more : (dir : Dir) (set : Set) (n : ℕ) (found more : List Member) → Gathers dir set n found → (ms : List Member) × IsBucketFile n (dir (bucket_name set n)) ms × (more ≡ found ++ ms) → Gathers dir set (n + 1) more
gathers_more dir set n found more before next =
    subst (λ (l : List Member). Gathers dir set (n + 1) l) (sym next.2) (reads_more IsBucketFile [] (λ done bucket. done ++ bucket) (λ bucket. bucket) (λ i. dir (bucket_name set i)) n found next.0 before next.1)

pub counts_none : (dir : Dir) (set : Set) → Counts dir set 0 0
counts_none dir set = (λ i. [], λ i less. absurd (omega (arith, less)), refl)

pub counts_more : (dir : Dir) (set : Set) (n count one more : ℕ) → Counts dir set n count → (ms : List Member) × IsBucketFile n (dir (bucket_name set n)) ms × (one ≡ length ms) → more ≡ min (count + one) (2 ^ 64 - 1) → Counts dir set (n + 1) more
counts_more dir set n count one more before next sum =
    let read = reads_more IsBucketFile 0 (λ done bucket. done + length bucket) (λ bucket. bucket) (λ i. dir (bucket_name set i)) n (counted before.0 n) next.0 (before.0, before.1, refl) next.1 in
    (read.0, read.1, omega (arith, sum, before.2, next.2, read.2))

-- the members of all buckets, put in order of key, are those of the set
pub members_joined : (dir : Dir) (set : Set) (found ms : List Member) → Gathers dir set 53 found → IsPermutation found ms → IsSortedByKey member_key byte_cmp ms → AreJoined dir set ms
members_joined dir set found ms all moved up =
    union_sorted member_key IsBucketFile bucket_hashed bucket_ordered (λ i. dir (bucket_name set i)) all.0 ms all.1 (subst (λ (l : List Member). IsPermutation l ms) all.2 moved) up

-- if the count is the number of members in the buckets, the files stand for a list
pub counted_set : (dir : Dir) (set : Set) (found count : ℕ) → Counts dir set 53 found → count ≤ 100_000 → dir (count_name set) ≡ Some (count_text count) → found ≡ count → (ms : List Member) × AreSubscribers dir set ms
counted_set dir set found count all few there e = made_of dir set all.0 count all.1 there (omega (arith, all.2, few, e)) few

-- and if it isn't, they stand for none
pub uncounted_set : (dir : Dir) (set : Set) (found count : ℕ) → Counts dir set 53 found → count ≤ 100_000 → dir (count_name set) ≡ Some (count_text count) → (found ≡ count → ⊥) → (ms : List Member) → AreSubscribers dir set ms → ⊥
uncounted_set dir set found count all few there apart ms is =
    let size = counted_one dir set all.0 ms all.1 is in
    let limit = is.few in
    let same = count_one (length ms) count limit few (some_one _ _ (sym is.counted ∙ there)) in
    apart (omega (arith, all.2, size, same, limit))

-- files with such a count stand for no list
pub no_count : (dir : Dir) (set : Set) (ms : List Member) → ((n : ℕ) → 0 ≤ n → n ≤ 100_000 → dir (count_name set) ≡ Some (count_text n) → ⊥) → AreSubscribers dir set ms → ⊥
no_count dir set ms none is = none (length ms) (omega arith) is.few is.counted

-- a count outside its grammar breaks its set
pub no_count_breaks : (dir : Dir) (set : Set) (buckets : ℕ → List Member) → AreBuckets dir set buckets → (name : Name) → name ≡ count_name set → IsNoCount dir set 0 → Breaks dir set name
no_count_breaks dir set buckets files name named none = inr (named, (buckets, files), λ ms is. no_count dir set ms none is)

-- the buckets and the count of a set are its files
pub bucket_of_set : (set : Set) (name : Name) → IsBucketName set name → is_of_set set name ≡ true
bucket_of_set set name is = subst (λ (n : Name). is_of_set set n ≡ true) (sym is.2) (bucket_own set is.0 is.1)

pub count_of_set : (set : Set) (name : Name) → name ≡ count_name set → is_of_set set name ≡ true
count_of_set set name is = subst (λ (n : Name). is_of_set set n ≡ true) (sym is) (count_own set)

-- if the files of every set stand for a list, no file breaks a set
pub sound_sets : (dir : Dir) → ((set : Set) → (ms : List Member) × AreSubscribers dir set ms) → (e : PartError) → OnDamaged e (λ name. (set : Set) × Breaks dir set name) → OnDamaged e (λ _. ⊥)
sound_sets dir all e bad = on_damaged e (λ name. (set : Set) × Breaks dir set name) (λ _. ⊥) (λ name b. broken dir b.0 name (all b.0).0 b.1 (all b.0).1) bad

-- what holds of each of the five sets holds of every set
pub each_set : (P : Set → Type 0) → P sets.List → P sets.Digest → P sets.Allow → P sets.Deny → P sets.Moderators → (set : Set) → P set
each_set P a b c d e sets.List = a
each_set P a b c d e sets.Digest = b
each_set P a b c d e sets.Allow = c
each_set P a b c d e sets.Deny = d
each_set P a b c d e sets.Moderators = e

-- the members that the files spelled when they were read are those of the set
pub joined_in : (dir : Dir) (set : Set) (texts : List (Option Text)) (ms : List Member) → AreFiles dir set 53 texts → AreJoined (file_in texts) set ms → AreJoined dir set ms
joined_in dir set texts ms same = union_own member_key IsBucketFile (λ n. file_in texts (bucket_name set n)) (λ n. dir (bucket_name set n)) ms (λ n less. sym (same.each n less))

pub ok_from : {T E : Type 0} (r : Result T E) (P Q : T → Type 0) → ((x : T) → P x → Q x) → IfOk r P → IfOk r Q
ok_from (Ok x) P Q f is = f x is
ok_from (Err e) P Q f is = tt

-- What the calls that add and remove answer.
use Rattle.std.specs.Prelude.{◌≡◌, ◌<◌, ◌+◌, ℕ, true, false, List, [], ◌∷◌, length, Option, Some, None}
use Rattle.ml_base.specs.Bytes.{Text}
use Rattle.ml_base.specs.Dir.{Dir, with_puts}
use Rattle.ml_base.specs.declared.names.Set.{Set}
use Rattle.ml_base.specs.declared.puts.Put.{Put}
use Rattle.ml_subs.specs.declared.member_list.Member.{Member}
use Rattle.ml_subs.specs.declared.set_changes.AddAnswer.{AddAnswer}
use Rattle.ml_subs.specs.declared.set_changes.AddAnswer.TheVariants.{Added, Already, Full}
use Rattle.ml_subs.specs.Members.{has_key, with_member, without_member, member_key}
use Rattle.ml_subs.specs.Buckets.{bucket_of, bucket_file}
use Rattle.ml_subs.specs.Subscribers.{AreSubscribers, bucket_name, count_name, count_text}

-- the puts that give a bucket's file and the count their new bytes
abbrev pub changes : Set → ℕ → Option Text → ℕ → List Put
changes set n bytes count =
    record { name = bucket_name set n; bytes = bytes } ∷ record { name = count_name set; bytes = Some (count_text count) } ∷ []

-- what adding a member to a set of these answers: Already if his key is there; Full if it isn't and there are 100,000
-- members; else a txn that makes the files stand for the list with him
abbrev pub IsAddition : Dir → Set → List Member → Member → AddAnswer → Type 0
IsAddition dir set ms m Already = has_key (member_key m) ms ≡ true
IsAddition dir set ms m Full = (has_key (member_key m) ms ≡ false) × (length ms ≡ 100_000)
IsAddition dir set ms m (Added txn) =
    (has_key (member_key m) ms ≡ false) × (length ms < 100_000) × AreSubscribers (with_puts dir txn) set (with_member m ms)

-- what removing a key from a set of these answers: None if it isn't there, else a txn that makes the files stand for
-- the list without it
abbrev pub IsRemoval : Dir → Set → List Member → Text → Option (List Put) → Type 0
IsRemoval dir set ms k None = has_key k ms ≡ false
IsRemoval dir set ms k (Some txn) = (has_key k ms ≡ true) × AreSubscribers (with_puts dir txn) set (without_member k ms)

-- what adding a member answers from the files that it reads, in any directory: the bucket of his key, and the count if
-- the key isn't there
abbrev pub AddsBy : Dir → Set → Member → AddAnswer → List Member → Type 0
AddsBy dir set m Already ms = has_key (member_key m) ms ≡ true
AddsBy dir set m Full ms = (has_key (member_key m) ms ≡ false) × (dir (count_name set) ≡ Some (count_text 100_000))
AddsBy dir set m (Added txn) ms =
    (has_key (member_key m) ms ≡ false)
    × ((n : ℕ) × (n < 100_000) × (dir (count_name set) ≡ Some (count_text n)) × (txn ≡ changes set (bucket_of (member_key m)) (bucket_file (with_member m ms)) (n + 1)))

-- what removing a key answers from the files that it reads, in any directory: the bucket of the key, and the count if
-- the key is there
abbrev pub RemovesBy : Dir → Set → Text → Option (List Put) → List Member → Type 0
RemovesBy dir set k None ms = has_key k ms ≡ false
RemovesBy dir set k (Some txn) ms =
    (has_key k ms ≡ true)
    × ((n : ℕ) × (n < 100_000) × (dir (count_name set) ≡ Some (count_text (n + 1))) × (txn ≡ changes set (bucket_of k) (bucket_file (without_member k ms)) n))

-- the puts of an answer
abbrev pub puts_of : AddAnswer → List Put
puts_of (Added txn) = txn
puts_of Already = []
puts_of Full = []

-- the puts of a removal: none if there is nothing to remove
abbrev pub puts_if : Option (List Put) → List Put
puts_if None = []
puts_if (Some txn) = txn

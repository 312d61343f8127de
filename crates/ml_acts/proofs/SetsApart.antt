-- What a call does on a set or a ledger is the same on every directory that has the files that it reads.
use Rattle.std.proofs.Common.{◌≡◌, ◌∙◌, inl, inr, Bool, true, false, ◌<◌, List, Option, Some, None, sym, subst, arith}
use Rattle.std.proofs.lemmas.Bool.{and_from, or_left, or_right}
use Rattle.std.proofs.lemmas.Nat.{mod_below}
use Rattle.ml_base.specs.Address.{IsAddress, key}
use Rattle.ml_base.specs.Bytes.{Text}
use Rattle.ml_base.specs.Dir.{Dir, same_name}
use Rattle.ml_base.specs.Hash.{hash_of}
use Rattle.ml_base.specs.Ranges.{IsMoment}
use Rattle.ml_base.specs.declared.names.Name.{Name}
use Rattle.ml_base.specs.declared.names.Set.{Set}
use Rattle.ml_base.specs.declared.names.Set.TheVariants as sets
use Rattle.ml_base.specs.declared.puts.Put.{Put}
use Rattle.ml_subs.specs.Answers.{AddsBy, IsAddition, IsRemoval, RemovesBy}
use Rattle.ml_subs.specs.Buckets.{IsBucketFile, bucket_of}
use Rattle.ml_subs.specs.Members.{member_key}
use Rattle.ml_subs.specs.Subscribers.{AreSubscribers, IsBucketOf, IsUnread, bucket_name, count_name, is_touched}
use Rattle.ml_subs.specs.declared.set_changes.AddAnswer.{AddAnswer}
use Rattle.ml_subs.specs.declared.set_changes.AddAnswer.TheVariants.{Added, Already, Full}
use Rattle.ml_subs.specs.declared.member_list.Member.{Member}
use Rattle.ml_subs.proofs.Answering.{addition, removal}
use Rattle.ml_bounce.specs.Answers.{IsNoFile, has_ledger, key_file, ledger_kind}
use Rattle.ml_bounce.specs.Files.{IsLedger, IsLedgerFile}
use Rattle.ml_bounce.specs.Ledger.{Ledger}
use Rattle.ml_plain.specs.Directory.{IsList}
use Rattle.ml_plain.specs.Plain.{Plain}
use Rattle.ml_acts.specs.Doing.{Alike, is_entry_of, is_left_by}
use Rattle.ml_acts.proofs.Damages.{same_self}

module _ (old dir : Dir) (set : Set) (k : Text) (alike : Alike (is_touched set k) old dir) where
  same_bucket : dir (bucket_name set (bucket_of k)) ≡ old (bucket_name set (bucket_of k))
  same_bucket = alike (bucket_name set (bucket_of k)) (or_left _ _ (same_self (bucket_name set (bucket_of k))))

  same_count : dir (count_name set) ≡ old (count_name set)
  same_count = alike (count_name set) (or_right _ _ (same_self (count_name set)))

  -- the bucket that was read is the other's
  pub bucket_there : (ms : List Member) → IsBucketOf old set k ms → IsBucketOf dir set k ms
  bucket_there ms is = subst (λ (f : Option Text). IsBucketFile (bucket_of k) f ms) (sym same_bucket) is

  adds_there : (m : Member) (answer : AddAnswer) (ms : List Member) → AddsBy old set m answer ms → AddsBy dir set m answer ms
  adds_there m Already ms by = by
  adds_there m Full ms by = (by.0, same_count ∙ by.1)
  adds_there m (Added txn) ms by = let more = by.1 in (by.0, (more.0, more.1, same_count ∙ more.2, more.3))

  removes_there : (answer : Option (List Put)) (ms : List Member) → RemovesBy old set k answer ms → RemovesBy dir set k answer ms
  removes_there None ms by = by
  removes_there (Some txn) ms by = let more = by.1 in (by.0, (more.0, more.1, same_count ∙ more.2, more.3))

  -- a file that couldn't be read there can't be read here
  pub unread_there : (has : Bool) (name : Name) → IsUnread old set k has name → IsUnread dir set k has name
  unread_there has name (inl bad) = inl (bad.0, λ ms is. bad.1 ms (subst (λ (f : Option Text). IsBucketFile (bucket_of k) f ms) same_bucket is))
  unread_there has name (inr bad) = inr (bad.0, ((bad.1).0, bucket_there (bad.1).0 (bad.1).1, (bad.1).2), λ n least few e. bad.2 n least few (sym same_count ∙ e))

-- what is added by the files that were read is added to the set
pub added_there : (old dir : Dir) (set : Set) (m : Member) (answer : AddAnswer) (bucket ms : List Member) → Alike (is_touched set (member_key m)) old dir → IsAddress m.who → IsMoment m.since
    → IsBucketOf old set (member_key m) bucket → AddsBy old set m answer bucket → AreSubscribers dir set ms → IsAddition dir set ms m answer
added_there old dir set m answer bucket ms alike address moment file by is =
    let k = member_key m in
    addition dir set m answer bucket ms address moment (bucket_there old dir set k alike bucket file) (adds_there old dir set k alike m answer bucket by) is

-- and what is removed is removed from it
pub removed_there : (old dir : Dir) (set : Set) (k : Text) (answer : Option (List Put)) (bucket ms : List Member) → Alike (is_touched set k) old dir
    → IsBucketOf old set k bucket → RemovesBy old set k answer bucket → AreSubscribers dir set ms → IsRemoval dir set ms k answer
removed_there old dir set k answer bucket ms alike file by is = removal dir set k answer bucket ms (bucket_there old dir set k alike bucket file) (removes_there old dir set k alike answer bucket by) is

-- the files of an address that leaves are those of its set and of its ledger
pub left_touched : (set : Set) (who : Text) (old dir : Dir) → Alike (is_left_by set who) old dir → Alike (is_touched set (key who)) old dir
left_touched set who old dir alike name e = alike name (or_left (is_touched set (key who) name) (is_entry_of set who name) e)

pub left_entry : (set : Set) (who : Text) (old dir : Dir) → Alike (is_left_by set who) old dir → Alike (is_entry_of set who) old dir
left_entry set who old dir alike name e = alike name (or_right (is_touched set (key who) name) (is_entry_of set who name) e)

-- the file of its ledger is the same
pub entry_there : (set : Set) (who : Text) (old dir : Dir) → has_ledger set ≡ true → Alike (is_entry_of set who) old dir → dir (key_file set (key who)) ≡ old (key_file set (key who))
entry_there set who old dir has alike = alike (key_file set (key who)) (and_from (has_ledger set) (same_name (key_file set (key who)) (key_file set (key who))) has (same_self (key_file set (key who))))

-- and in a list it isn't damaged
pub entry_spared : (set : Set) (who : Text) (old dir : Dir) (p : Plain) → has_ledger set ≡ true → Alike (is_entry_of set who) old dir → IsList dir p → IsNoFile old set (bucket_of (key who)) → ⊥
entry_spared set who old dir p has alike is none = go set has (entry_there set who old dir has alike) none
  where
    low : bucket_of (key who) < 53
    low = mod_below (hash_of (key who)) 53 (omega arith)

    there : (set : Set) (ledger : Ledger) → dir (key_file set (key who)) ≡ old (key_file set (key who)) → IsLedger dir (ledger_kind set) ledger → IsNoFile old set (bucket_of (key who)) → ⊥
    there set ledger same are none =
        none (are.buckets (bucket_of (key who))) (subst (λ (f : Option Text). IsLedgerFile (bucket_of (key who)) f (are.buckets (bucket_of (key who)))) same (are.files (bucket_of (key who)) low))

    go : (set : Set) → has_ledger set ≡ true → dir (key_file set (key who)) ≡ old (key_file set (key who)) → IsNoFile old set (bucket_of (key who)) → ⊥
    go sets.List has same none = there sets.List p.list_ledger same is.list_ledger none
    go sets.Digest has same none = there sets.Digest p.digest_ledger same is.digest_ledger none
    go sets.Allow has same none = absurd (let bad : false ≡ true = has in cc)
    go sets.Deny has same none = absurd (let bad : false ≡ true = has in cc)
    go sets.Moderators has same none = absurd (let bad : false ≡ true = has in cc)

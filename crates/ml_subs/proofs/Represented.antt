-- What the files of a set stand for: one list at most, and how a change of two files changes it.
use Rattle.std.proofs.Common.{◌≡◌, ◌≢◌, ℕ, zero, suc, ◌+◌, ◌<◌, ◌≤◌, Bool, true, false, not, cond, ◌==◌, ◌&&◌, ◌||◌, nat_lt, List, [], ◌∷◌, ◌++◌, length, get_or, Option, Some, None, is_some, refl, sym, ap, ap₂, ◌∙◌, subst, arith, inl, inr}
use Rattle.std.proofs.lemmas.Bool.Decides.{nat_tests}
use Rattle.std.proofs.lemmas.Bool.{and_parts, and_from, or_parts, or_left, or_from, eqb-true, eq-eqb, ne_eqb, lt-ltb}
use Rattle.std.specs.List.{AllByRecursion}
use Rattle.ml_base.specs.Bytes.{Text}
use Rattle.ml_base.specs.Address.{IsAddress}
use Rattle.ml_base.specs.Dir.{Dir, with_puts, same_name, touches_only}
use Rattle.ml_base.specs.Name.{set_kind, set_number, is_file}
use Rattle.ml_base.specs.Sorted.{byte_cmp}
use Rattle.ml_base.specs.declared.names.Name.{Name}
use Rattle.ml_base.specs.declared.names.Set.{Set}
use Rattle.ml_base.specs.declared.names.Set.TheVariants as sets
use Rattle.ml_base.specs.declared.puts.Put.{Put}
use Rattle.ml_base.proofs.Laid.{left_alone}
use Rattle.ml_base.proofs.SortedLaws.{same_bytes, bytes_total, sorted_with, sorted_without, length_with, length_left, each_with, each_without, found_is}
use Rattle.ml_keyed.specs.Buckets.{counted}
pub use Rattle.ml_keyed.proofs.Keys.{bucket_below as below_53}
use Rattle.ml_keyed.proofs.Keys.{each_found}
use Rattle.ml_keyed.proofs.Union.{merged}
use Rattle.ml_keyed.proofs.Files.{union_own, union_nothing, union_one, union_of, length_of, found_there, put_there, taken_there}
use Rattle.ml_subs.specs.declared.member_list.Member.{Member}
use Rattle.ml_subs.specs.declared.records.Layout.{Layout}
use Rattle.ml_subs.specs.declared.records.Layout.TheVariants.{Undated, Dated}
use Rattle.ml_base.specs.Ranges.{IsMoment}
use Rattle.ml_base.proofs.Bools.{name_itself}
use Rattle.ml_subs.specs.Members.{member_key, member_of, has_key, with_member, without_member, IsOrdered}
use Rattle.ml_subs.specs.Buckets.{bucket_of, bucket_file, bucket_text, layout_line, records, IsBucket, IsBucketFile, IsMember}
use Rattle.ml_subs.specs.Subscribers.{AreBuckets, AreJoined, AreSubscribers, IsBucketOf, Breaks, bucket_name, count_name, count_text, is_of_set, is_touched}
use Rattle.ml_subs.specs.Answers.{changes}
use Rattle.ml_subs.specs.Reading.{IsFront}
use Rattle.ml_subs.proofs.Spelled.{record_parts}
use Rattle.ml_subs.proofs.Layouts.{body_one, layout_only}

-- a bucket's text has one layout only
own_front : (n : ℕ) (text : Text) (ms : List Member) (is : IsBucket n text ms) → IsFront text is.layout (records is.layout ms)
own_front n text [] is = absurd (let some = is.some in omega arith)
own_front n text (m ∷ ms) is = go is.layout is.spelled
  where
    go : (l : Layout) → text ≡ bucket_text l (m ∷ ms) → IsFront text l (records l (m ∷ ms))
    go Dated e = e
    go Undated e = (sym e, λ rest f. let bad : 84 ∷ _ ≡ layout_line Dated ++ rest = sym (record_parts Undated m (records Undated ms)) ∙ sym e ∙ f in let first = ap (λ t. get_or t 0 0) bad in omega (arith, first))

pub bucket_one : (n : ℕ) (file : Option Text) (ms others : List Member) → IsBucketFile n file ms → IsBucketFile n file others → ms ≡ others
bucket_one n None ms others is other = is ∙ sym other
bucket_one n (Some text) ms others is other =
    let front = own_front n text ms is in
    body_one is.layout n (records is.layout ms) ms others (layout_only text is.layout (records is.layout ms) front n ms is) (layout_only text is.layout (records is.layout ms) front n others other)

pub bucket_ordered : (n : ℕ) (file : Option Text) (ms : List Member) → IsBucketFile n file ms → IsOrdered ms
bucket_ordered n None ms is = subst IsOrdered (sym is) refl
bucket_ordered n (Some text) ms is = is.ordered

-- every member of a bucket can be spelled in layout 2
dated : (layout : Layout) (n : ℕ) (ms : List Member) → AllByRecursion (IsMember layout n) ms → AllByRecursion (IsMember Dated n) ms
dated layout n [] all = tt
dated layout n (m ∷ ms) all = (one layout all.0, dated layout n ms all.1)
  where
    one : (layout : Layout) → IsMember layout n m → IsMember Dated n m
    one Dated is = is
    one Undated is = let since : m.since ≡ 0 = is.since in record { address = is.address; since = omega (arith, since); hashed = is.hashed }

pub bucket_each : (n : ℕ) (file : Option Text) (ms : List Member) → IsBucketFile n file ms → AllByRecursion (IsMember Dated n) ms
bucket_each n None ms is = subst (AllByRecursion (IsMember Dated n)) (sym is) tt
bucket_each n (Some text) ms is = dated is.layout n ms is.each

pub bucket_hashed : (n : ℕ) (file : Option Text) (ms : List Member) → IsBucketFile n file ms → AllByRecursion (λ m. bucket_of (member_key m) ≡ n) ms
bucket_hashed n file ms is = go ms (bucket_each n file ms is)
  where
    go : (ms : List Member) → AllByRecursion (IsMember Dated n) ms → AllByRecursion (λ m. bucket_of (member_key m) ≡ n) ms
    go [] all = tt
    go (m ∷ ms) all = let first : IsMember Dated n m = all.0 in (first.hashed, go ms all.1)

-- the file that a change leaves is in the bucket's grammar
pub bucket_made : (n : ℕ) (ms : List Member) → IsOrdered ms → AllByRecursion (IsMember Dated n) ms → IsBucketFile n (bucket_file ms) ms
bucket_made n [] ordered all = refl
bucket_made n (m ∷ ms) ordered all = record { some = omega arith; ordered = ordered; layout = Dated; each = all; spelled = refl }

pub joined_one : (dir : Dir) (set : Set) (ms others : List Member) → AreJoined dir set ms → AreJoined dir set others → ms ≡ others
joined_one dir set = union_one member_key IsBucketFile bucket_one (λ n. dir (bucket_name set n))

pub subscribers_one : (dir : Dir) (set : Set) (ms others : List Member) → AreSubscribers dir set ms → AreSubscribers dir set others → ms ≡ others
subscribers_one dir set ms others is other = joined_one dir set ms others is.members other.members

-- what a set has under a key is what its bucket has
pub found_in_bucket : (dir : Dir) (set : Set) (ms bucket : List Member) (k : Text) → AreJoined dir set ms → IsBucketOf dir set k bucket → member_of k ms ≡ member_of k bucket
found_in_bucket dir set = found_there member_key IsBucketFile bucket_one (λ n. dir (bucket_name set n))

-- names

abbrev name_of : ℕ → ℕ → Name
name_of k a = record { kind = k; at = a }

kind_apart : (set : Set) → (set_kind set == 8) ≡ false
kind_apart sets.List = refl
kind_apart sets.Digest = refl
kind_apart sets.Allow = refl
kind_apart sets.Deny = refl
kind_apart sets.Moderators = refl

pub bucket_own : (set : Set) (n : ℕ) → n < 53 → is_of_set set (bucket_name set n) ≡ true
bucket_own set n less = or_left _ _ (and_from _ _ (eq-eqb (set_kind set) (set_kind set) refl) (lt-ltb n 53 less))

pub count_own : (set : Set) → is_of_set set (count_name set) ≡ true
count_own set = ap (λ b. ((8 == set_kind set) && nat_lt (set_number set) 53) || b) (name_itself (count_name set)) ∙ or_true _
  where
    or_true : (b : Bool) → (b || true) ≡ true
    or_true true = refl
    or_true false = refl

bucket_file_name : (set : Set) (at : ℕ) → nat_lt at 53 ≡ true → is_file (bucket_name set at) ≡ true
bucket_file_name sets.List at less = grind (arith, nat_tests)
bucket_file_name sets.Digest at less = grind (arith, nat_tests)
bucket_file_name sets.Allow at less = grind (arith, nat_tests)
bucket_file_name sets.Deny at less = grind (arith, nat_tests)
bucket_file_name sets.Moderators at less = grind (arith, nat_tests)

count_file_name : (set : Set) → is_file (count_name set) ≡ true
count_file_name sets.List = refl
count_file_name sets.Digest = refl
count_file_name sets.Allow = refl
count_file_name sets.Deny = refl
count_file_name sets.Moderators = refl

same_names : (k a l b : ℕ) → k ≡ l → a ≡ b → name_of k a ≡ name_of l b
same_names k a l b e f = ap₂ name_of e f

-- the files of a set are files of the table
pub own_table : (set : Set) (name : Name) → is_of_set set name ≡ true → is_file name ≡ true
own_table set name own = go ((name.kind == set_kind set) && nat_lt name.at 53) refl
  where
    go : (t : Bool) → ((name.kind == set_kind set) && nat_lt name.at 53) ≡ t → is_file name ≡ true
    go true e =
        let parts = and_parts (name.kind == set_kind set) (nat_lt name.at 53) e in
        subst (λ (k : ℕ). is_file (record { kind = k; at = name.at }) ≡ true) (sym (eqb-true name.kind (set_kind set) parts.0)) (bucket_file_name set name.at parts.1)
    go false e =
        let count : same_name name (count_name set) ≡ true = sym (ap (λ t. t || same_name name (count_name set)) e) ∙ own in
        let parts = and_parts (name.kind == 8) (name.at == set_number set) count in
        subst (λ (n : Name). is_file n ≡ true) (sym (same_names name.kind name.at 8 (set_number set) (eqb-true name.kind 8 parts.0) (eqb-true name.at (set_number set) parts.1))) (count_file_name set)

-- the relation depends on the set's own files
pub own_files : (dir other : Dir) (set : Set) (ms : List Member) → ((name : Name) → is_of_set set name ≡ true → other name ≡ dir name) → AreSubscribers dir set ms → AreSubscribers other set ms
own_files dir other set ms same is = record {
  members = union_own member_key IsBucketFile (λ n. dir (bucket_name set n)) (λ n. other (bucket_name set n)) ms (λ n less. same (bucket_name set n) (bucket_own set n less)) is.members;
  few = is.few;
  counted = same (count_name set) (count_own set) ∙ is.counted;
}

pub broken : (dir : Dir) (set : Set) (name : Name) (ms : List Member) → Breaks dir set name → AreSubscribers dir set ms → ⊥
broken dir set name ms (inl b) is = b.3 (is.members.buckets b.0) (is.members.files b.0 b.1)
broken dir set name ms (inr b) is = b.2 ms is

pub nobody_there : (dir : Dir) (set : Set) → ((n : ℕ) → n < 53 → dir (bucket_name set n) ≡ None) → dir (count_name set) ≡ Some (count_text 0) → AreSubscribers dir set []
nobody_there dir set none zero_there = record {
  members = union_nothing member_key IsBucketFile (λ n. dir (bucket_name set n)) (λ n less. subst (λ (f : Option Text). IsBucketFile n f []) (sym (none n less)) refl);
  few = omega arith;
  counted = zero_there;
}

pub subscribers_each : (dir : Dir) (set : Set) (ms : List Member) → AreSubscribers dir set ms → AllByRecursion (λ m. IsAddress m.who × IsMoment m.since) ms
subscribers_each dir set ms is = each_found member_key (λ m. IsAddress m.who × IsMoment m.since) ms is.members.sorted
    (λ k m e.
    let bucket = is.members.buckets (bucket_of k) in
    let file = is.members.files (bucket_of k) (below_53 k) in
    let there = found_is byte_cmp member_key (IsMember Dated (bucket_of k)) k m bucket (bucket_each (bucket_of k) (dir (bucket_name set (bucket_of k))) bucket file) (sym (is.members.by_key k) ∙ e) in
    (there.0.address, there.0.since))

-- a bucket and a count that are written anew
module _ (dir : Dir) (set : Set) (b : ℕ) (bytes : Option Text) (count : ℕ) where
  abbrev after : Dir
  after = with_puts dir (changes set b bytes count)

  file_at : (n : ℕ) → after (bucket_name set n) ≡ cond (n == b) bytes (dir (bucket_name set n))
  file_at n = rw (kind_apart set, eq-eqb (set_kind set) (set_kind set) refl) refl

  count_at : after (count_name set) ≡ Some (count_text count)
  count_at = rw (eq-eqb (set_number set) (set_number set) refl) refl

-- the bucket of a member's key with the member added
pub bucket_with : (m : Member) (file : Option Text) (bucket : List Member) → IsAddress m.who → IsMoment m.since → IsBucketFile (bucket_of (member_key m)) file bucket
    → IsBucketFile (bucket_of (member_key m)) (bucket_file (with_member m bucket)) (with_member m bucket)
bucket_with m file bucket address moment is =
    let n = bucket_of (member_key m) in
    bucket_made n (with_member m bucket) (sorted_with byte_cmp member_key same_bytes bytes_total m bucket (bucket_ordered n file bucket is))
    (each_with byte_cmp member_key (IsMember Dated n) m bucket (record { address = address; since = moment; hashed = refl }) (bucket_each n file bucket is))

-- the bucket of a key with its member removed
pub bucket_without : (n : ℕ) (k : Text) (file : Option Text) (bucket : List Member) → IsBucketFile n file bucket → IsBucketFile n (bucket_file (without_member k bucket)) (without_member k bucket)
bucket_without n k file bucket is =
    bucket_made n (without_member k bucket) (sorted_without byte_cmp member_key same_bytes bytes_total k bucket (bucket_ordered n file bucket is))
    (each_without byte_cmp member_key (IsMember Dated n) k bucket (bucket_each n file bucket is))

pub added : (dir : Dir) (set : Set) (ms bucket : List Member) (m : Member) → AreSubscribers dir set ms → IsAddress m.who → IsMoment m.since → has_key (member_key m) ms ≡ false → length ms < 100_000
    → IsBucketOf dir set (member_key m) bucket
    → AreSubscribers (with_puts dir (changes set (bucket_of (member_key m)) (bucket_file (with_member m bucket)) (length ms + 1))) set (with_member m ms)
added dir set ms bucket m is address moment absent room file =
    let n = bucket_of (member_key m) in
    let bytes = bucket_file (with_member m bucket) in
    let size : length (with_member m ms) ≡ length ms + 1 =
    length_with byte_cmp member_key same_bytes bytes_total m ms is.members.sorted ∙ ap (λ t. cond t (length ms) (length ms + 1)) absent in
    record {
      members =
          put_there member_key IsBucketFile bucket_one (λ i. dir (bucket_name set i)) (λ i. after dir set n bytes (length ms + 1) (bucket_name set i)) ms bucket (member_key m) bytes (file_at dir set n bytes (length ms + 1)) is.members file m refl
          (bucket_with m (dir (bucket_name set n)) bucket address moment file);
      few = omega (arith, room, size);
      counted = count_at dir set n bytes (length ms + 1) ∙ ap (λ n. Some (count_text n)) (sym size);
    }

abbrev ones : Bool → ℕ
ones t = cond t 1 0

pub removed : (dir : Dir) (set : Set) (ms bucket : List Member) (k : Text) (n : ℕ) → AreSubscribers dir set ms → has_key k ms ≡ true → length ms ≡ n + 1
    → IsBucketOf dir set k bucket
    → AreSubscribers (with_puts dir (changes set (bucket_of k) (bucket_file (without_member k bucket)) n)) set (without_member k ms)
removed dir set ms bucket k count is there one file =
    let n = bucket_of k in
    let bytes = bucket_file (without_member k bucket) in
    let parts : cond (is_some (member_of k ms)) 1 0 + length (without_member k ms) ≡ length ms = length_left byte_cmp member_key same_bytes bytes_total k ms is.members.sorted in
    let first : ◌≡◌ {A = ℕ} (cond (is_some (member_of k ms)) 1 0) 1 = ap (λ (t : Bool). ones t) there in
    let few = is.few in
    let size : length (without_member k ms) ≡ count = omega (arith, parts, first, one) in
    record {
      members =
          taken_there member_key IsBucketFile bucket_one (λ i. dir (bucket_name set i)) (λ i. after dir set n bytes count (bucket_name set i)) ms bucket k bytes (file_at dir set n bytes count) is.members file
          (bucket_without n k (dir (bucket_name set n)) bucket file);
      few = omega (arith, few, one, size);
      counted = count_at dir set n bytes count ∙ ap (λ n. Some (count_text n)) (sym size);
    }

-- the set whose number is given
abbrev set_at : ℕ → Set
set_at zero = sets.List
set_at (suc zero) = sets.Digest
set_at (suc (suc zero)) = sets.Allow
set_at (suc (suc (suc zero))) = sets.Deny
set_at (suc (suc (suc (suc n)))) = sets.Moderators

own_number : (set : Set) → set_at (set_number set) ≡ set
own_number sets.List = refl
own_number sets.Digest = refl
own_number sets.Allow = refl
own_number sets.Deny = refl
own_number sets.Moderators = refl

numbers_apart : (set other : Set) → other ≢ set → set_number other ≡ set_number set → ⊥
numbers_apart set other apart e = apart (sym (own_number other) ∙ ap set_at e ∙ own_number set)

pub few_sets : (set : Set) → set_number set < 5
few_sets sets.List = omega arith
few_sets sets.Digest = omega arith
few_sets sets.Allow = omega arith
few_sets sets.Deny = omega arith
few_sets sets.Moderators = omega arith

and_false : (a b : Bool) → a ≡ false → (a && b) ≡ false
and_false a b e = ap (λ t. t && b) e

false_and : (a b : Bool) → b ≡ false → (a && b) ≡ false
false_and true b e = e
false_and false b e = refl

-- a change of one set touches no file of another
other_files : (set other : Set) (k : Text) (name : Name) → other ≢ set → is_of_set other name ≡ true → is_touched set k name ≡ false
other_files set other k name apart own = go (name.kind == set_kind other) refl
  where
    numbers : set_number other ≡ set_number set → ⊥
    numbers = numbers_apart set other apart

    one : set_number set < 5
    one = few_sets set

    two : set_number other < 5
    two = few_sets other

    go : (t : Bool) → (name.kind == set_kind other) ≡ t → is_touched set k name ≡ false
    go true e =
        let kind = eqb-true name.kind (set_kind other) e in
        or_from _ _ (and_false _ _ (ne_eqb name.kind (set_kind set) (λ f. numbers (omega (arith, f, kind))))) (and_false _ _ (ne_eqb name.kind 8 (λ f. omega (arith, f, kind, two))))
    go false e =
        let count : same_name name (count_name other) ≡ true = sym (ap (λ t. (t && nat_lt name.at 53) || same_name name (count_name other)) e) ∙ own in
        let parts = and_parts (name.kind == 8) (name.at == set_number other) count in
        let kind = eqb-true name.kind 8 parts.0 in
        let at = eqb-true name.at (set_number other) parts.1 in
        or_from _ _ (and_false _ _ (ne_eqb name.kind (set_kind set) (λ f. omega (arith, f, kind, one)))) (false_and (name.kind == 8) _ (ne_eqb name.at (set_number set) (λ f. numbers (omega (arith, f, at)))))

-- a file that a change touches belongs to its set
touched_own : (set : Set) (k : Text) (name : Name) → is_of_set set name ≡ false → is_touched set k name ≡ false
touched_own set k name not =
    let parts = or_parts ((name.kind == set_kind set) && nat_lt name.at 53) (same_name name (count_name set)) not in
    or_from _ _ (go (name.kind == set_kind set) refl parts.0) parts.1
  where
    go : (t : Bool) → (name.kind == set_kind set) ≡ t → ((name.kind == set_kind set) && nat_lt name.at 53) ≡ false → same_name name (bucket_name set (bucket_of k)) ≡ false
    go false e none = and_false _ _ e
    go true e none =
        let high : nat_lt name.at 53 ≡ false = sym (ap (λ t. t && nat_lt name.at 53) e) ∙ none in
        let low = below_53 k in
        false_and (name.kind == set_kind set) _
        (ne_eqb name.at (bucket_of k)
        (λ f. let less : nat_lt name.at 53 ≡ true = lt-ltb name.at 53 (omega (arith, f, low)) in let bad : true ≡ false = sym less ∙ high in cc))

pub kept_elsewhere : (dir : Dir) (set : Set) (k : Text) (puts : List Put) (name : Name) → touches_only (is_touched set k) puts ≡ true → is_of_set set name ≡ false → with_puts dir puts name ≡ dir name
kept_elsewhere dir set k puts name only not = left_alone (is_touched set k) dir puts name only (touched_own set k name not)

pub others_kept : (dir : Dir) (set other : Set) (k : Text) (puts : List Put) (ms : List Member) → other ≢ set → touches_only (is_touched set k) puts ≡ true → AreSubscribers dir other ms → AreSubscribers (with_puts dir puts) other ms
others_kept dir set other k puts ms apart only is = own_files dir (with_puts dir puts) other ms (λ name own. left_alone (is_touched set k) dir puts name only (other_files set other k name apart own)) is

-- if the buckets are in their grammar and the count agrees, the files stand for a list
pub made_of : (dir : Dir) (set : Set) (buckets : ℕ → List Member) (n : ℕ) → AreBuckets dir set buckets → dir (count_name set) ≡ Some (count_text n) → n ≡ counted buckets 53 → n ≤ 100_000 → (ms : List Member) × AreSubscribers dir set ms
made_of dir set buckets n files there size few =
    let long = length_of member_key IsBucketFile bucket_hashed bucket_ordered (λ i. dir (bucket_name set i)) buckets files in (
      merged member_key buckets 53,
      record {
        members = union_of member_key IsBucketFile bucket_hashed bucket_ordered (λ i. dir (bucket_name set i)) buckets files;
        few = omega (arith, long, size, few);
        counted = there ∙ ap (λ m. Some (count_text m)) (size ∙ sym long);
      },
    )

-- and that list has as many members as any that the files stand for
pub counted_one : (dir : Dir) (set : Set) (buckets : ℕ → List Member) (ms : List Member) → AreBuckets dir set buckets → AreSubscribers dir set ms → length ms ≡ counted buckets 53
counted_one dir set buckets ms files is =
    ap length (joined_one dir set ms (merged member_key buckets 53) is.members (union_of member_key IsBucketFile bucket_hashed bucket_ordered (λ i. dir (bucket_name set i)) buckets files))
    ∙ length_of member_key IsBucketFile bucket_hashed bucket_ordered (λ i. dir (bucket_name set i)) buckets files

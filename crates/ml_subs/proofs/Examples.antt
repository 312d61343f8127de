-- Worked examples: hashes, files, lists and names.
use Rattle.std.proofs.Common.{◌≡◌, true, false, List, [], ◌∷◌, ◌++◌, Some, None, refl, codes}
use Rattle.std.specs.Fmt.{digits}
use Rattle.ml_base.specs.Address.{key}
use Rattle.ml_base.specs.Bytes.{Text}
use Rattle.ml_base.specs.declared.names.Set.TheVariants as sets
use Rattle.ml_subs.specs.declared.member_list.Member.{Member}
use Rattle.ml_subs.specs.declared.records.Layout.TheVariants.{Undated}
use Rattle.ml_subs.specs.Members.{member_of, has_key, with_member, without_member}
use Rattle.ml_base.specs.Hash.{hash_after}
use Rattle.ml_subs.specs.Buckets.{bucket_of, bucket_file, bucket_text}
use Rattle.ml_subs.specs.Subscribers.{count_name, count_text, is_touched, is_of_set}
use Rattle.ml_subs.specs.Reading.{member_by}

-- hashes and buckets

hash_ab : hash_after 5381 (codes "a@b") ≡ 193_408_742
hash_ab = refl

hash_cd : hash_after 5381 (codes "c@d") ≡ 193_415_138
hash_cd = refl

hash_a5 : hash_after 5381 (codes "a@5") ≡ 193_408_689
hash_a5 = refl

bucket_ab : bucket_of (key (codes "A@b")) ≡ 29
bucket_ab = refl

bucket_cd : bucket_of (codes "c@d") ≡ 12
bucket_cd = refl

bucket_ef : bucket_of (codes "e@f") ≡ 23
bucket_ef = refl

bucket_a5 : bucket_of (codes "a@5") ≡ 29
bucket_a5 = refl

-- files

abbrev nul : Text
nul = 0 ∷ []

one : bucket_file (member_by (codes "a@b") 1_000_000_000 ∷ []) ≡ Some (codes "layout 2" ++ 10 ∷ codes "Ta@b" ++ 0 ∷ codes "1000000000" ++ nul)
unfolding digits
one = refl

first_layout : bucket_text Undated (member_by (codes "a@b") 0 ∷ []) ≡ codes "Ta@b" ++ nul
first_layout = refl

nobody : bucket_file [] ≡ None
nobody = refl

two : bucket_file (with_member (member_by (codes "a@5") 1_000_000_400) (member_by (codes "a@b") 0 ∷ [])) ≡ Some (codes "layout 2" ++ 10 ∷ codes "Ta@5" ++ 0 ∷ codes "1000000400" ++ 0 ∷ codes "Ta@b" ++ 0 ∷ codes "0" ++ nul)
unfolding digits
two = refl

count : count_text 100_000 ≡ codes "100000" ++ 10 ∷ []
unfolding digits
count = refl

-- lists

abbrev pair : List Member
pair = member_by (codes "A@b") 7 ∷ member_by (codes "c@d") 8 ∷ []

found : member_of (key (codes "a@B")) pair ≡ Some (member_by (codes "A@b") 7)
found = refl

absent : has_key (codes "b@b") pair ≡ false
absent = refl

between : with_member (member_by (codes "B@b") 9) pair ≡ member_by (codes "A@b") 7 ∷ member_by (codes "B@b") 9 ∷ member_by (codes "c@d") 8 ∷ []
between = refl

without : without_member (codes "a@b") pair ≡ member_by (codes "c@d") 8 ∷ []
without = refl

-- names

bucket : is_touched sets.List (codes "a@b") (record { kind = 3; at = 29 }) ≡ true
bucket = refl

other_bucket : is_touched sets.List (codes "a@b") (record { kind = 3; at = 12 }) ≡ false
other_bucket = refl

other_count : is_touched sets.List (codes "a@b") (record { kind = 8; at = 1 }) ≡ false
other_count = refl

moderators : is_of_set sets.Moderators (record { kind = 8; at = 4 }) ≡ true
moderators = refl

counts : count_name sets.Deny ≡ record { kind = 8; at = 3 }
counts = refl

-- The members of a set as a list in order of key, and what adding and removing make of it.
use Rattle.std.specs.Prelude.{Bool, List, Option, is_some}
use Rattle.ml_base.specs.Bytes.{Text}
use Rattle.ml_base.specs.Address.{key}
use Rattle.ml_base.specs.Sorted.{byte_cmp, with_entry, without_key}
use Rattle.ml_keyed.specs.Buckets.{found}
use Rattle.ml_keyed.specs.Buckets as keyed
use Rattle.ml_subs.specs.declared.member_list.Member.{Member}

-- the key of a member is that of his address
abbrev pub member_key : Member → Text
member_key m = key m.who

-- a list of members in ascending order of key, without a key twice
abbrev pub IsOrdered : List Member → Type 0
IsOrdered ms = keyed.IsOrdered member_key ms

-- the member of a key, as the list has him, or None if there is none
abbrev pub member_of : Text → List Member → Option Member
member_of k ms = found member_key k ms

-- whether a list has a member of this key
abbrev pub has_key : Text → List Member → Bool
has_key k ms = is_some (member_of k ms)

-- the list with one more member in his place
abbrev pub with_member : Member → List Member → List Member
with_member m ms = with_entry byte_cmp member_key m ms

-- the list without the member of this key
abbrev pub without_member : Text → List Member → List Member
without_member k ms = without_key byte_cmp member_key k ms

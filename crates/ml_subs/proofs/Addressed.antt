-- If members are in order of key, so are their addresses.
use Rattle.std.proofs.Common.{◌≡◌, true, List, [], ◌∷◌, map, ◌&&◌, refl, ap, ap₂, ◌∙◌}
use Rattle.std.specs.Ordering.{is_lt}
use Rattle.std.proofs.lemmas.List.Folds.{list_all-map}
use Rattle.ml_base.specs.Address.{key}
use Rattle.ml_base.specs.Sorted.{byte_cmp, is_sorted}
use Rattle.ml_subs.specs.declared.member_list.Member.{Member}
use Rattle.ml_base.specs.Dir.{Dir}
use Rattle.ml_base.specs.declared.names.Set.{Set}
use Rattle.ml_subs.specs.declared.lists.Spelling.{Spelling}
use Rattle.ml_subs.specs.Members.{member_key}
use Rattle.ml_subs.specs.Subscribers.{AreFiles, AreSubscribers, IsSpelled}
use Rattle.ml_subs.proofs.Gathering.{joined_in}
use Rattle.ml_subs.proofs.Represented.{joined_one}

pub sorted_addresses : (ms : List Member) → is_sorted byte_cmp key (map (λ m. m.who) ms) ≡ is_sorted byte_cmp member_key ms
sorted_addresses [] = refl
sorted_addresses (m ∷ ms) =
    ap₂ (λ a b. a && b) (list_all-map (λ f. is_lt (byte_cmp (key m.who) (key f))) (λ (n : Member). n.who) ms) (sorted_addresses ms)

-- the members that files spell are in order
pub spelled_sorted : (set : Set) (now : Spelling) → IsSpelled set now → is_sorted byte_cmp key now.addresses ≡ true
spelled_sorted set now is = ap (is_sorted byte_cmp key) is.addresses ∙ (sorted_addresses is.members ∙ is.union.sorted)

-- the addresses that the files of a set spell are those of its members
pub spelled_only : (dir : Dir) (set : Set) (now : Spelling) (ms : List Member) → AreFiles dir set 53 now.texts → IsSpelled set now → AreSubscribers dir set ms → now.addresses ≡ map (λ m. m.who) ms
spelled_only dir set now ms files is stands =
    is.addresses ∙ ap (map (λ (m : Member). m.who)) (joined_one dir set is.members ms (joined_in dir set now.texts is.members files is.union) stands.members)

-- Lists in the order of their keys, without a key twice: the form of sets, held posts, ledgers and the queue.
use Rattle.std.specs.Prelude.{Bool, true, not, ◌&&◌, List, [], ◌∷◌, Option, Some, None, if◌then◌else◌}
use Rattle.std.specs.declared.cmp.Ordering.{Ordering}
use Rattle.std.specs.Ordering.{nat_cmp, is_lt, eq_by_cmp}
use Rattle.std.specs.Cmp.Lexicographic.{slice_cmp}
use Rattle.std.specs.FinMap.Entries.{by_order}
use Rattle.std.specs.List.{list_all, filter}
use Rattle.ml_base.specs.Bytes.{Text}

-- the order of bytes
abbrev pub byte_cmp : Text → Text → Ordering
byte_cmp a b = slice_cmp nat_cmp a b

module _ {K E : Type 0} (order : K → K → Ordering) (key : E → K) where
  -- the first entry of this key, or None if there is none
  abbrev pub entry_of : K → List E → Option E
  entry_of k [] = None
  entry_of k (e ∷ es) = if eq_by_cmp order k (key e) then Some e else entry_of k es

  -- whether the keys rise strictly
  abbrev pub is_sorted : List E → Bool
  is_sorted [] = true
  is_sorted (e ∷ es) = list_all (λ f. is_lt (order (key e) (key f))) es && is_sorted es

  -- the list with an entry in its place, instead of the one of its key
  abbrev pub with_entry : E → List E → List E
  with_entry e [] = e ∷ []
  with_entry e (f ∷ fs) = by_order (order (key e) (key f)) (e ∷ f ∷ fs) (e ∷ fs) (f ∷ with_entry e fs)

  -- the list without the entries of this key
  abbrev pub without_key : K → List E → List E
  without_key k es = filter (λ e. not (eq_by_cmp order k (key e))) es

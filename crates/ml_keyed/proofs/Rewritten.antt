-- How a file of records is written anew, with one record more or changed, or without a key.
use Rattle.std.proofs.Common.{◌≡◌, Bool, true, false, cond, not, ◌||◌, List, [], ◌∷◌, ◌++◌, Some, refl, sym, ap, ◌∙◌, append_assoc}
use Rattle.std.specs.Prelude.{unwrap_or}
use Rattle.std.proofs.lemmas.Bool.{false≢true}
use Rattle.std.proofs.lemmas.Slice.Eq.{bytes_eq-Decides}
use Rattle.std.specs.List.{flat_map}
use Rattle.std.specs.Ordering.{is_lt, ordering_reverse}
use Rattle.std.specs.Str.{bytes_eq}
use Rattle.std.specs.declared.cmp.Ordering.{Ordering}
use Rattle.std.specs.declared.cmp.Ordering.TheVariants.{Less, Equal, Greater}
use Rattle.std.specs.FinMap.Entries.{by_order}
use Rattle.ml_base.specs.Bytes.{Text, is_empty}
use Rattle.ml_base.specs.Sorted.{byte_cmp, entry_of, with_entry, without_key}
use Rattle.ml_base.proofs.BelowLemmas.{less, same_key, not_lt}
use Rattle.ml_base.proofs.SortedLaws.{bytes_total, same_bytes}
use Rattle.ml_keyed.specs.Records.{file_of, is_from, past_key}

module _ {R : Type 0} (spelling : R → Text) where
  -- a row of records has a file with their spellings, if it has any records
  pub file_some : (rs : List R) → is_empty rs ≡ false → file_of spelling rs ≡ Some (flat_map spelling rs)
  file_some [] some = absurd (false≢true (sym some))
  file_some (r ∷ rs) some = refl

  pub file_spelled : (rs : List R) → unwrap_or (file_of spelling rs) [] ≡ flat_map spelling rs
  file_spelled [] = refl
  file_spelled (r ∷ rs) = refl

  -- of some records the first were written after a start, if there were any, and the rest is left
  pub record IsWritten (start out : Text) (has_records : Bool) (rest whole : List R) : Type 0 where
    pub spelled : out ++ flat_map spelling rest ≡ start ++ flat_map spelling whole
    pub some : (has_records || not (is_empty rest)) ≡ not (is_empty whole)

module _ {R : Type 0} (key_of : R → Text) where
  abbrev with_record : R → List R → List R
  with_record r rs = with_entry byte_cmp key_of r rs

  abbrev without : Text → List R → List R
  without k rs = without_key byte_cmp key_of k rs

  -- a record goes after those whose keys are below its own
  with_below : (r s : R) (ss : List R) → is_lt (byte_cmp (key_of s) (key_of r)) ≡ true → with_record r (s ∷ ss) ≡ s ∷ with_record r ss
  with_below r s ss lt = ap (λ (o : Ordering). by_order o (r ∷ s ∷ ss) (r ∷ ss) (s ∷ with_record r ss)) (bytes_total.antisymm (key_of r) (key_of s) ∙ ap ordering_reverse (less _ lt))

  -- and before the others, in place of the one with its key
  with_from : (r : R) (rs : List R) → is_from key_of (key_of r) rs ≡ true → with_record r rs ≡ r ∷ past_key key_of (key_of r) rs
  with_from r [] from = refl
  with_from r (s ∷ ss) from = go (byte_cmp (key_of r) (key_of s)) refl (bytes_eq (key_of s) (key_of r)) refl
    where
      go : (o : Ordering) → byte_cmp (key_of r) (key_of s) ≡ o → (t : Bool) → bytes_eq (key_of s) (key_of r) ≡ t → by_order o (r ∷ s ∷ ss) (r ∷ ss) (s ∷ with_record r ss) ≡ r ∷ cond t ss (s ∷ ss)
      go Less is true eq = let bad : Equal ≡ Less = sym (not_lt (key_of r) (key_of s) eq) ∙ is in cc
      go Less is false eq = refl
      go Equal is true eq = refl
      go Equal is false eq = absurd (false≢true (sym eq ∙ (bytes_eq-Decides (key_of s) (key_of r)).1 (sym (same_bytes (key_of r) (key_of s) is))))
      go Greater is t eq = let bad : not true ≡ true = sym (ap (λ o. not (is_lt o)) (bytes_total.antisymm (key_of s) (key_of r) ∙ ap ordering_reverse is)) ∙ from in cc

  -- a record that is found in a row is the first, or is found after the first
  found_first : (k : Text) (r : R) (rs : List R) (t : Bool) → bytes_eq k (key_of r) ≡ t → entry_of byte_cmp key_of k (r ∷ rs) ≡ cond t (Some r) (entry_of byte_cmp key_of k rs)
  found_first k r rs t is = ap (λ u. cond u (Some r) (entry_of byte_cmp key_of k rs)) (same_key k (key_of r) ∙ is)

  pub find_here : (t : Bool) (k a : Text) (rest more : List R) (r : R) → rest ≡ r ∷ more → t ≡ bytes_eq k a → a ≡ key_of r → t ≡ true → entry_of byte_cmp key_of k rest ≡ Some r
  find_here t k a rest more r is test own h = ap (entry_of byte_cmp key_of k) is ∙ found_first k r more true (ap (bytes_eq k) (sym own) ∙ sym test ∙ h)

  pub find_after : (t : Bool) (k a : Text) (rest more : List R) (r : R) → rest ≡ r ∷ more → t ≡ bytes_eq k a → a ≡ key_of r → t ≡ false → entry_of byte_cmp key_of k rest ≡ entry_of byte_cmp key_of k more
  find_after t k a rest more r is test own h = ap (entry_of byte_cmp key_of k) is ∙ found_first k r more false (ap (bytes_eq k) (sym own) ∙ sym test ∙ h)

  module _ (spelling : R → Text) where
    abbrev texts : List R → Text
    texts rs = flat_map spelling rs

    -- one turn: a record with a lower key was written
    pub with_turn : (out new : Text) (r s : R) (rest more : List R) (whole : Text) → rest ≡ s ∷ more → is_lt (byte_cmp (key_of s) (key_of r)) ≡ true → new ≡ out ++ spelling s
        → out ++ texts (with_record r rest) ≡ whole → new ++ texts (with_record r more) ≡ whole
    with_turn out new r s rest more whole is lt made before =
        ap (λ t. t ++ texts (with_record r more)) made ∙ append_assoc out (spelling s) (texts (with_record r more))
        ∙ ap (λ rs. out ++ texts rs) (sym (with_below r s more lt) ∙ ap (with_record r) (sym is)) ∙ before

    -- the end: the record and those after it were written
    pub with_end : (out front all whole : Text) (r : R) (rest tail : List R) → is_from key_of (key_of r) rest ≡ true → tail ≡ past_key key_of (key_of r) rest → front ≡ out ++ spelling r → all ≡ front ++ texts tail
        → out ++ texts (with_record r rest) ≡ whole → all ≡ whole
    with_end out front all whole r rest tail from is first then before =
        then ∙ ap (λ t. t ++ texts tail) first ∙ append_assoc out (spelling r) (texts tail)
        ∙ ap (λ rs. out ++ texts (r ∷ rs)) is ∙ ap (λ rs. out ++ texts rs) (sym (with_from r rest from)) ∙ before

    -- one turn: a record with another key was written, or the one with this key was left out
    left_first : (k : Text) (r : R) (rs : List R) (t : Bool) → bytes_eq k (key_of r) ≡ t → without k (r ∷ rs) ≡ cond (not t) (r ∷ without k rs) (without k rs)
    left_first k r rs t is = ap (λ u. cond (not u) (r ∷ without k rs) (without k rs)) (same_key k (key_of r) ∙ is)

    pub kept_turn : (k start out new : Text) (has_records : Bool) (r : R) (rest more whole : List R) → rest ≡ r ∷ more → bytes_eq k (key_of r) ≡ false → new ≡ out ++ spelling r
        → IsWritten spelling start out has_records (without k rest) whole → IsWritten spelling start new true (without k more) whole
    kept_turn k start out new has_records r rest more whole is other made before =
        let here : without k rest ≡ r ∷ without k more = ap (without k) is ∙ left_first k r more false other in
        record {
          spelled = ap (λ t. t ++ texts (without k more)) made ∙ append_assoc out (spelling r) (texts (without k more)) ∙ ap (λ rs. out ++ texts rs) (sym here) ∙ before.spelled;
          some = go has_records ∙ ap (λ (rs : List R). has_records || not (is_empty rs)) (sym here) ∙ before.some;
        }
      where
        go : (t : Bool) → true ≡ (t || true)
        go true = refl
        go false = refl

    pub gone_turn : (k start out : Text) (has_records : Bool) (r : R) (rest more whole : List R) → rest ≡ r ∷ more → bytes_eq k (key_of r) ≡ true
        → IsWritten spelling start out has_records (without k rest) whole → IsWritten spelling start out has_records (without k more) whole
    gone_turn k start out has_records r rest more whole is own before =
        let here : without k rest ≡ without k more = ap (without k) is ∙ left_first k r more true own in
        record {
          spelled = ap (λ rs. out ++ texts rs) (sym here) ∙ before.spelled;
          some = ap (λ (rs : List R). has_records || not (is_empty rs)) (sym here) ∙ before.some;
        }

    -- a row with a record added isn't empty
    with_some : (r : R) (rs : List R) → is_empty (with_record r rs) ≡ false
    with_some r [] = refl
    with_some r (s ∷ ss) = go (byte_cmp (key_of r) (key_of s))
      where
        go : (o : Ordering) → is_empty (by_order o (r ∷ s ∷ ss) (r ∷ ss) (s ∷ with_record r ss)) ≡ false
        go Less = refl
        go Equal = refl
        go Greater = refl

    -- so it has a file
    pub file_with : (r : R) (rs : List R) → file_of spelling (with_record r rs) ≡ Some (texts (with_record r rs))
    file_with r rs = file_some spelling (with_record r rs) (with_some r rs)

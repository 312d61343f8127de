-- Laws of lists in the order of their keys, from what std proves of entries in order.
use Rattle.std.proofs.Common.{◌≡◌, ℕ, suc, ◌+◌, Bool, true, false, not, ◌&&◌, T, cond, List, [], ◌∷◌, map, length, Option, Some, None, is_some, refl, sym, ap, ap₂, ◌∙◌, subst}
use Rattle.std.specs.declared.cmp.Ordering.{Ordering}
use Rattle.std.specs.declared.cmp.Ordering.TheVariants.{Less, Equal, Greater}
use Rattle.std.specs.Ordering.{nat_cmp, is_lt, is_eq, eq_by_cmp}
use Rattle.std.specs.Cmp.{IsTotalOrder, nat_cmp_total, eq_by_cmp_equiv}
use Rattle.std.specs.Cmp.Lexicographic.{nat_list_cmp_total}
use Rattle.std.specs.FinMap.{slice_cmp-IsAntisymmetric, nat_cmp-IsAntisymmetric}
use Rattle.std.specs.FinMap.Entries.{by_order, find, put, where_key, below_all, is_sorted-put, is_sorted-where_key, find-put, find-where_key, length-put, length_without, same_entries}
use Rattle.std.specs.FinMap.Entries as entries
use Rattle.std.specs.List.{list_all, AllByRecursion}
use Rattle.ml_base.specs.Bytes.{Text}
use Rattle.ml_base.specs.Sorted.{byte_cmp, entry_of, is_sorted, with_entry, without_key}

T_of : {b : Bool} → b ≡ true → T b
T_of e = subst T (sym e) tt

true_of : (b : Bool) → T b → b ≡ true
true_of true h = refl
true_of false h = absurd h

flipped : {A : Type 0} (b : Bool) (o : Option A) → cond (not b) o None ≡ cond b None o
flipped true o = refl
flipped false o = refl

module _ {K E : Type 0} (order : K → K → Ordering) (key : E → K) where
  -- every entry with its key before it
  abbrev keyed : List E → List (K × E)
  keyed es = map (λ e. (key e, e)) es

  found : (k : K) (es : List E) → find order k (keyed es) ≡ entry_of order key k es
  found k [] = refl
  found k (e ∷ es) = ap (cond (eq_by_cmp order k (key e)) (Some e)) (found k es)

  below : (k : K) (es : List E) → below_all order k (keyed es) ≡ list_all (λ f. is_lt (order k (key f))) es
  below k [] = refl
  below k (e ∷ es) = ap (λ b. is_lt (order k (key e)) && b) (below k es)

  in_order : (es : List E) → entries.is_sorted order (keyed es) ≡ is_sorted order key es
  in_order [] = refl
  in_order (e ∷ es) = ap₂ (λ a b. a && b) (below (key e) es) (in_order es)

  length_keyed : (es : List E) → length (keyed es) ≡ length es
  length_keyed [] = refl
  length_keyed (e ∷ es) = ap suc (length_keyed es)

  unkeyed : (es : List E) → map (λ (p : K × E). p.1) (keyed es) ≡ es
  unkeyed [] = refl
  unkeyed (e ∷ es) = ap (λ t. e ∷ t) (unkeyed es)

  -- what is left without a key
  left : (k : K) (es : List E) → keyed (without_key order key k es) ≡ where_key order (λ x. not (eq_by_cmp order k x)) (keyed es)
  left k [] = refl
  left k (e ∷ es) = go (not (eq_by_cmp order k (key e))) (left k es)
    where
      go : (t : Bool) → keyed (without_key order key k es) ≡ where_key order (λ x. not (eq_by_cmp order k x)) (keyed es)
          → keyed (cond t (e ∷ without_key order key k es) (without_key order key k es)) ≡ cond t ((key e, e) ∷ where_key order (λ x. not (eq_by_cmp order k x)) (keyed es)) (where_key order (λ x. not (eq_by_cmp order k x)) (keyed es))
      go true more = ap (λ t. (key e, e) ∷ t) more
      go false more = more

  -- what holds of an entry and of every entry of a list holds of every entry of the list with that entry put in
  pub each_with : (P : E → Type 0) (e : E) (es : List E) → P e → AllByRecursion P es → AllByRecursion P (with_entry order key e es)
  each_with P e [] is all = (is, tt)
  each_with P e (f ∷ fs) is all = go (order (key e) (key f)) (each_with P e fs is all.1)
    where
      go : (r : Ordering) → AllByRecursion P (with_entry order key e fs) → AllByRecursion P (by_order r (e ∷ f ∷ fs) (e ∷ fs) (f ∷ with_entry order key e fs))
      go Less more = (is, all)
      go Equal more = (is, all.1)
      go Greater more = (all.0, more)

  -- what holds of every entry of a list holds of every entry that is left without a key
  pub each_without : (P : E → Type 0) (k : K) (es : List E) → AllByRecursion P es → AllByRecursion P (without_key order key k es)
  each_without P k [] all = tt
  each_without P k (e ∷ es) all = go (not (eq_by_cmp order k (key e))) (each_without P k es all.1)
    where
      go : (t : Bool) → AllByRecursion P (without_key order key k es) → AllByRecursion P (cond t (e ∷ without_key order key k es) (without_key order key k es))
      go true more = (all.0, more)
      go false more = more

  -- what is found in a list is one of its entries, and has the key that was sought
  pub found_is : (P : E → Type 0) (k : K) (e : E) (es : List E) → AllByRecursion P es → entry_of order key k es ≡ Some e → P e × (order k (key e) ≡ Equal)
  found_is P k e [] all is = absurd (let bad : None ≡ Some e = is in cc)
  found_is P k e (f ∷ fs) all is = go (order k (key f)) refl (found_is P k e fs all.1)
    where
      go : (r : Ordering) → order k (key f) ≡ r → (entry_of order key k fs ≡ Some e → P e × (order k (key e) ≡ Equal)) → P e × (order k (key e) ≡ Equal)
      go Less r more = more (sym (ap (λ r. cond (is_eq r) (Some f) (entry_of order key k fs)) r) ∙ is)
      go Greater r more = more (sym (ap (λ r. cond (is_eq r) (Some f) (entry_of order key k fs)) r) ∙ is)
      go Equal r more =
          let one : Some f ≡ Some e = sym (ap (λ r. cond (is_eq r) (Some f) (entry_of order key k fs)) r) ∙ is in
          let f_is : f ≡ e = cc in
          subst (λ (x : E). P x × (order k (key x) ≡ Equal)) f_is (all.0, r)

  module _ (same : (a b : K) → order a b ≡ Equal → a ≡ b) where
    placed : (e : E) (es : List E) → keyed (with_entry order key e es) ≡ put order (key e) e (keyed es)
    placed e [] = refl
    placed e (f ∷ fs) = go (order (key e) (key f)) refl (placed e fs)
      where
        go : (r : Ordering) → order (key e) (key f) ≡ r → keyed (with_entry order key e fs) ≡ put order (key e) e (keyed fs)
            → keyed (by_order (order (key e) (key f)) (e ∷ f ∷ fs) (e ∷ fs) (f ∷ with_entry order key e fs)) ≡ put order (key e) e (keyed (f ∷ fs))
        go Less is more = rw is
        go Equal is more = rw is (ap (λ k. (k, e) ∷ keyed fs) (same (key e) (key f) is))
        go Greater is more = rw is (ap (λ t. (key f, f) ∷ t) more)

    module _ (total : IsTotalOrder order) where
      pub found_with : (k : K) (e : E) (es : List E) → entry_of order key k (with_entry order key e es) ≡ cond (eq_by_cmp order k (key e)) (Some e) (entry_of order key k es)
      found_with k e es =
          sym (found k (with_entry order key e es)) ∙ ap (find order k) (placed e es) ∙ find-put order total k (key e) e (keyed es)
          ∙ ap (cond (eq_by_cmp order k (key e)) (Some e)) (found k es)

      pub found_without : (q k : K) (es : List E) → entry_of order key q (without_key order key k es) ≡ cond (eq_by_cmp order q k) None (entry_of order key q es)
      found_without q k es =
          sym (found q (without_key order key k es)) ∙ ap (find order q) (left k es)
          ∙ find-where_key order (λ x. not (eq_by_cmp order k x)) q (λ x tied. ap (λ y. not (eq_by_cmp order k y)) (sym (same q x tied))) (keyed es)
          ∙ flipped (eq_by_cmp order k q) (find order q (keyed es)) ∙ ap₂ (λ b o. cond b None o) ((eq_by_cmp_equiv total).symm k q) (found q es)

      pub sorted_with : (e : E) (es : List E) → is_sorted order key es ≡ true → is_sorted order key (with_entry order key e es) ≡ true
      sorted_with e es is = sym (in_order (with_entry order key e es)) ∙ true_of _ (subst (λ ps. T (entries.is_sorted order ps)) (sym (placed e es)) (is_sorted-put order total (key e) e (keyed es) (T_of (in_order es ∙ is))))

      pub sorted_without : (k : K) (es : List E) → is_sorted order key es ≡ true → is_sorted order key (without_key order key k es) ≡ true
      sorted_without k es is =
          sym (in_order (without_key order key k es)) ∙ true_of _ (subst (λ ps. T (entries.is_sorted order ps)) (sym (left k es)) (is_sorted-where_key order (λ x. not (eq_by_cmp order k x)) (keyed es) (T_of (in_order es ∙ is))))

      pub length_with : (e : E) (es : List E) → is_sorted order key es ≡ true → length (with_entry order key e es) ≡ cond (is_some (entry_of order key (key e) es)) (length es) (length es + 1)
      length_with e es is =
          sym (length_keyed (with_entry order key e es)) ∙ ap length (placed e es) ∙ length-put order total (key e) e (keyed es) (T_of (in_order es ∙ is))
          ∙ ap₂ (λ (o : Option E) (n : ℕ). cond (is_some o) n (n + 1)) (found (key e) es) (length_keyed es)

      pub length_left : (k : K) (es : List E) → is_sorted order key es ≡ true → cond (is_some (entry_of order key k es)) 1 0 + length (without_key order key k es) ≡ length es
      length_left k es is =
          ap₂ (λ (o : Option E) (n : ℕ). cond (is_some o) 1 0 + n) (sym (found k es)) (sym (length_keyed (without_key order key k es)) ∙ ap length (left k es))
          ∙ length_without order total k (keyed es) (T_of (in_order es ∙ is)) ∙ length_keyed es

      pub same_lists : (es fs : List E) → is_sorted order key es ≡ true → is_sorted order key fs ≡ true → ((k : K) → entry_of order key k es ≡ entry_of order key k fs) → es ≡ fs
      same_lists es fs one two is =
          sym (unkeyed es) ∙ ap (map (λ (p : K × E). p.1)) (same_entries order total same (keyed es) (keyed fs) (T_of (in_order es ∙ one)) (T_of (in_order fs ∙ two)) (λ q. found q es ∙ is q ∙ sym (found q fs))) ∙ unkeyed fs

-- keys that are bytes
pub same_bytes : (a b : Text) → byte_cmp a b ≡ Equal → a ≡ b
same_bytes = slice_cmp-IsAntisymmetric nat_cmp-IsAntisymmetric

pub same_numbers : (a b : ℕ) → nat_cmp a b ≡ Equal → a ≡ b
same_numbers = nat_cmp-IsAntisymmetric

pub bytes_total : IsTotalOrder byte_cmp
bytes_total = nat_list_cmp_total

pub numbers_total : IsTotalOrder nat_cmp
numbers_total = nat_cmp_total

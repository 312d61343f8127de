-- How the numbers of posts are collected under the keys of their subjects, group after group.
use Rattle.std.proofs.Common.{◌≡◌, ◌≤◌, ◌+◌, ℕ, Bool, true, false, cond, List, [], ◌∷◌, ◌++◌, length, Option, Some, None, refl, sym, ap, ap₂, ◌∙◌, subst, arith, append-nil}
use Rattle.std.specs.Prelude.{unwrap_or, Vec}
use Rattle.std.specs.BTreeMap.{insert_entry}
use Rattle.std.specs.Map.{lookup, remove_entry}
use Rattle.std.specs.Ordering.{is_eq, match_ordering}
use Rattle.std.specs.declared.cmp.Ordering.{Ordering}
use Rattle.std.specs.declared.cmp.Ordering.TheVariants.{Less, Equal, Greater}
use Rattle.std.specs.Str.{bytes_eq}
use Rattle.std.proofs.lemmas.Map.Text.{is_eq-slice_cmp}
use Rattle.std.proofs.lemmas.Slice.Eq.{bytes_eq-Decides}
use Rattle.std.specs.declared.alloc.Global.{Global}
use Rattle.ml_base.specs.Bytes.{Text}
use Rattle.ml_base.specs.Dir.{Dir}
use Rattle.ml_base.specs.Sorted.{byte_cmp}
use Rattle.ml_base.proofs.SortedLaws.{same_bytes}
use Rattle.ml_filing.specs.Subjects.{subject_key}
use Rattle.ml_filing.specs.declared.posts.Entry.{Entry}
use Rattle.ml_archive.specs.Counted.{first_of}
use Rattle.ml_archive.specs.Found.{AreKeyedBelow, HasPlace, IsWhole, Keys, with_numbers, key_numbers, numbers_at}
use Rattle.ml_archive.specs.declared.keys.Places.{Places}
use Rattle.ml_archive.proofs.Sized.{begins, more_entries}
use Rattle.ml_archive.proofs.Placing.{Pairs}

abbrev order : Vec ℕ Global → Vec ℕ Global → Ordering
order x y = byte_cmp x.items y.items

abbrev at : Text → Pairs → Option (List ℕ)
at k ps = lookup (λ (q : Vec ℕ Global). is_eq (byte_cmp k q.items)) ps

abbrev without : Text → Pairs → Pairs
without k ps = remove_entry (λ (q : Vec ℕ Global). is_eq (byte_cmp k q.items)) ps

tested : (a b : Text) (t : Bool) → bytes_eq a b ≡ t → is_eq (byte_cmp b a) ≡ t
tested a b true e = is_eq-slice_cmp b a ∙ (bytes_eq-Decides b a).1 (sym ((bytes_eq-Decides a b).0 e))
tested a b false e = is_eq-slice_cmp b a ∙ other (bytes_eq b a) refl
  where
    other : (u : Bool) → bytes_eq b a ≡ u → bytes_eq b a ≡ false
    other false is = is
    other true is = absurd (let bad : true ≡ false = sym ((bytes_eq-Decides a b).1 (sym ((bytes_eq-Decides b a).0 is))) ∙ e in cc)

-- taking a key out leaves the others as they are
left_at : (a k : Text) (ps : Pairs) → bytes_eq a k ≡ false → at k (without a ps) ≡ at k ps
left_at a k [] apart = refl
left_at a k (p ∷ ps) apart = go (is_eq (byte_cmp a p.0.items)) refl (left_at a k ps apart)
  where
    here : is_eq (byte_cmp a p.0.items) ≡ true → is_eq (byte_cmp k p.0.items) ≡ false
    here e =
        let same : a ≡ p.0.items = (bytes_eq-Decides a p.0.items).0 (sym (is_eq-slice_cmp a p.0.items) ∙ e) in
        ap (λ (t : Text). is_eq (byte_cmp k t)) (sym same) ∙ tested a k false apart

    go : (t : Bool) → is_eq (byte_cmp a p.0.items) ≡ t → at k (without a ps) ≡ at k ps → at k (cond t ps (p ∷ without a ps)) ≡ cond (is_eq (byte_cmp k p.0.items)) (Some p.1) (at k ps)
    go true e later = sym (ap (λ t. cond t (Some p.1) (at k ps)) (here e))
    go false e later = ap (λ (o : Option (List ℕ)). cond (is_eq (byte_cmp k p.0.items)) (Some p.1) o) later

-- a key that was put in is found, and so are the others
put_at : (k : Text) (q : Vec ℕ Global) (v : List ℕ) (ps : Pairs) → at k (insert_entry order ps q v) ≡ cond (is_eq (byte_cmp k q.items)) (Some v) (at k ps)
put_at k q v [] = refl
put_at k q v (p ∷ ps) = go (byte_cmp q.items p.0.items) refl (put_at k q v ps)
  where
    both : (s t : Bool) → (s ≡ true → t ≡ true → ⊥) → cond t (Some p.1) (cond s (Some v) (at k ps)) ≡ cond s (Some v) (cond t (Some p.1) (at k ps))
    both true true never = absurd (never refl refl)
    both true false never = refl
    both false true never = refl
    both false false never = refl

    twice : (t : Bool) → cond t (Some v) (at k ps) ≡ cond t (Some v) (cond t (Some p.1) (at k ps))
    twice true = refl
    twice false = refl

    found : (t : Text) → is_eq (byte_cmp k t) ≡ true → k ≡ t
    found t e = (bytes_eq-Decides k t).0 (sym (is_eq-slice_cmp k t) ∙ e)

    go : (o : Ordering) → byte_cmp q.items p.0.items ≡ o → at k (insert_entry order ps q v) ≡ cond (is_eq (byte_cmp k q.items)) (Some v) (at k ps)
        → at k (match_ordering o ((q, v) ∷ p ∷ ps) ((p.0, v) ∷ ps) (p ∷ insert_entry order ps q v)) ≡ cond (is_eq (byte_cmp k q.items)) (Some v) (cond (is_eq (byte_cmp k p.0.items)) (Some p.1) (at k ps))
    go Less e later = refl
    go Equal e later =
        let same = same_bytes q.items p.0.items e in
        twice (is_eq (byte_cmp k p.0.items)) ∙ ap (λ (t : Text). cond (is_eq (byte_cmp k t)) (Some v) (cond (is_eq (byte_cmp k p.0.items)) (Some p.1) (at k ps))) (sym same)
    go Greater e later =
        ap (λ (o : Option (List ℕ)). cond (is_eq (byte_cmp k p.0.items)) (Some p.1) o) later
        ∙ both (is_eq (byte_cmp k q.items)) (is_eq (byte_cmp k p.0.items))
        (λ s t. let same : q.items ≡ p.0.items = sym (found q.items s) ∙ found p.0.items t in
        let equal = (bytes_eq-Decides q.items p.0.items).1 same in
        let bad : is_eq Greater ≡ true = sym (ap is_eq e) ∙ is_eq-slice_cmp q.items p.0.items ∙ equal in
        absurd (cc))

pub added : (old mid new : Pairs) (key k : Text) (q : Vec ℕ Global) (v ns : List ℕ) (n : ℕ) (o : Option (List ℕ)) → q.items ≡ key → mid ≡ without key old → new ≡ insert_entry order mid q v → o ≡ at key old → ns ≡ unwrap_or o [] → v ≡ ns ++ n ∷ []
    → at k new ≡ cond (bytes_eq key k) (with_numbers (at k old) (n ∷ [])) (at k old)
added old mid new key k q v ns n o is gone put was before more = go (bytes_eq key k) refl
  where
    there : at k new ≡ cond (is_eq (byte_cmp k key)) (Some v) (at k mid)
    there = ap (at k) put ∙ put_at k q v mid ∙ ap (λ (t : Text). cond (is_eq (byte_cmp k t)) (Some v) (at k mid)) is

    go : (t : Bool) → bytes_eq key k ≡ t → at k new ≡ cond t (with_numbers (at k old) (n ∷ [])) (at k old)
    go true e =
        let same : key ≡ k = (bytes_eq-Decides key k).0 e in
        there ∙ ap (λ t. cond t (Some v) (at k mid)) (tested key k true e)
        ∙ ap Some (more ∙ ap (λ (t : List ℕ). t ++ n ∷ []) (before ∙ ap (λ (o : Option (List ℕ)). unwrap_or o []) (was ∙ ap (λ (t : Text). at t old) same)))
    go false e = there ∙ ap (λ t. cond t (Some v) (at k mid)) (tested key k false e) ∙ ap (at k) gone ∙ left_at key k old e

pub took_some : (o : Option (List ℕ)) (ns found : List ℕ) → o ≡ Some found → ns ≡ found → ns ≡ unwrap_or o []
took_some o ns found is same = same ∙ sym (ap (λ (o : Option (List ℕ)). unwrap_or o []) is)

pub took_none : (o : Option (List ℕ)) (ns new : List ℕ) → o ≡ None → ns ≡ new → new ≡ [] → ns ≡ unwrap_or o []
took_none o ns new is same none = same ∙ none ∙ sym (ap (λ (o : Option (List ℕ)). unwrap_or o []) is)

-- the numbers with the entries of one more group
numbers_on : (prefix k : Text) (n m : ℕ) (xs ys : List Entry) → m ≡ n + length xs → key_numbers prefix k n (xs ++ ys) ≡ key_numbers prefix k n xs ++ key_numbers prefix k m ys
numbers_on prefix k n m [] ys e = let same : n ≡ m = omega (arith, e) in ap (λ (j : ℕ). key_numbers prefix k j ys) same
numbers_on prefix k n m (x ∷ xs) ys e = go (bytes_eq (subject_key prefix x.subject) k) (numbers_on prefix k (n + 1) m xs ys (omega (arith, e)))
  where
    go : (t : Bool) → key_numbers prefix k (n + 1) (xs ++ ys) ≡ key_numbers prefix k (n + 1) xs ++ key_numbers prefix k m ys
        → cond t (n ∷ key_numbers prefix k (n + 1) (xs ++ ys)) (key_numbers prefix k (n + 1) (xs ++ ys)) ≡ cond t (n ∷ key_numbers prefix k (n + 1) xs) (key_numbers prefix k (n + 1) xs) ++ key_numbers prefix k m ys
    go true later = ap (λ (t : List ℕ). n ∷ t) later
    go false later = later

joined_twice : (xs ys : List ℕ) → with_numbers (with_numbers None xs) ys ≡ with_numbers None (xs ++ ys)
joined_twice [] ys = refl
joined_twice (x ∷ xs) [] = ap (λ (t : List ℕ). Some (x ∷ t)) (sym (append-nil xs))
joined_twice (x ∷ xs) (y ∷ ys) = refl

-- if one key's file is among these and another's isn't, the keys differ
pub apart : (places : Places) (key k : Text) → ¬ HasPlace places key → HasPlace places k → bytes_eq key k ≡ false
apart places key k out inside = go (bytes_eq key k) refl
  where
    go : (t : Bool) → bytes_eq key k ≡ t → bytes_eq key k ≡ false
    go false e = e
    go true e = absurd (out (subst (λ (t : Text). HasPlace places t) (sym ((bytes_eq-Decides key k).0 e)) inside))

pub keyed_more : (dir : Dir) (prefix : Text) (places : Places) (count g first : ℕ) (keys new : Keys) (entries slice : List Entry) → first_of g ≤ count → AreKeyedBelow dir prefix places count g keys → IsWhole dir count g entries → slice ≡ entries → first ≡ first_of g
    → ((k : Text) → HasPlace places k → numbers_at k new ≡ with_numbers (numbers_at k keys) (key_numbers prefix k first slice)) → AreKeyedBelow dir prefix places count (g + 1) new
keyed_more dir prefix places count g first keys new entries slice there (es, are, keyed) whole same begun more = (
  es ++ entries,
  more_entries dir count g es entries there are whole,
  λ k inside. more k inside ∙ ap₂ (λ (o : Option (List ℕ)) (ns : List ℕ). with_numbers o ns) (keyed k inside) (ap₂ (λ (n : ℕ) (xs : List Entry). key_numbers prefix k n xs) begun same)
      ∙ joined_twice (key_numbers prefix k 1 es) (key_numbers prefix k (first_of g) entries) ∙ ap (with_numbers None) (sym (numbers_on prefix k 1 (first_of g) es entries (begins dir count g es entries there are whole))),
)

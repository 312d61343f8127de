-- The threads that the collected keys and numbers make.
use Rattle.std.proofs.Common.{◌≡◌, ◌≢◌, ◌<◌, ◌≤◌, ◌+◌, ◌^◌, ℕ, Bool, true, false, cond, ◌==◌, ◌&&◌, List, [], ◌∷◌, length, map, filter, Option, Some, None, refl, sym, ap, ◌∙◌, subst, arith}
use Rattle.std.specs.Prelude.{unwrap_or, Vec}
use Rattle.std.specs.List.{AllByRecursion, flat_map, list_all}
use Rattle.std.specs.List.Sorted.{IsStrictlySortedBy}
use Rattle.std.specs.Map.{lookup}
use Rattle.std.specs.Option.{option_map}
use Rattle.std.specs.Ordering.{is_lt, is_eq}
use Rattle.std.specs.declared.cmp.Ordering.{Ordering}
use Rattle.std.specs.declared.cmp.Ordering.TheVariants.{Less, Equal, Greater}
use Rattle.std.specs.Str.{bytes_eq}
use Rattle.std.proofs.lemmas.Bool.{eqb-true, eq-eqb, and_from, and_parts}
use Rattle.std.proofs.lemmas.Slice.Eq.{bytes_eq-Decides}
use Rattle.std.specs.declared.alloc.Global.{Global}
use Rattle.ml_base.specs.Bytes.{Text}
use Rattle.ml_base.specs.Dir.{Dir}
use Rattle.ml_base.specs.Sorted.{byte_cmp, entry_of}
use Rattle.ml_base.proofs.SortedLaws.{found_is, same_bytes, bytes_total, same_lists}
use Rattle.ml_filing.specs.Subjects.{subject_key}
use Rattle.ml_filing.specs.Threads.{IsThread, IsThreadFile, numbers_under, thread_place, thread_text}
use Rattle.ml_filing.specs.declared.posts.Entry.{Entry}
use Rattle.ml_filing.specs.declared.posts.Thread.{Thread}
use Rattle.ml_filing.proofs.FoundThreads.{InOrder, find, all_found, under_found}
use Rattle.ml_filing.proofs.KeyLengths.{key_short}
use Rattle.ml_archive.specs.Breaks.{AreThreadsOf}
use Rattle.ml_archive.specs.declared.keys.Places.{Places}
use Rattle.ml_archive.specs.Found.{AreKeyed, AreNumbered, AreOrdered, IsPlace, Keys, with_numbers, key_numbers, text_at, threads_at, threads_of}
use Rattle.ml_archive.proofs.Posted.{keys_made, posts_of}
use Rattle.ml_filing.proofs.Filed.{Rising, rising_lower, rising_sorted, rising_posts}
use Rattle.ml_archive.proofs.Placing.{Pairs}

numbers_rise : (prefix k : Text) (n high : ℕ) (es : List Entry) → n + length es ≤ high → Rising n high (key_numbers prefix k n es)
numbers_rise prefix k n high [] le = tt
numbers_rise prefix k n high (e ∷ es) le = go (bytes_eq (subject_key prefix e.subject) k) (numbers_rise prefix k (n + 1) high es (omega (arith, le)))
  where
    go : (t : Bool) → Rising (n + 1) high (key_numbers prefix k (n + 1) es) → Rising n high (cond t (n ∷ key_numbers prefix k (n + 1) es) (key_numbers prefix k (n + 1) es))
    go true more = (omega arith, omega (arith, le), more)
    go false more = rising_lower (n + 1) n high (key_numbers prefix k (n + 1) es) (omega arith) more

-- a key that has numbers is the key of a subject, so it is short
key_is_short : (prefix k : Text) (n : ℕ) (es : List Entry) → AreNumbered n es → 0 < length (key_numbers prefix k n es) → length k < 10 ^ 18
key_is_short prefix k n [] is some = absurd (omega (arith, some))
key_is_short prefix k n (e ∷ es) is some = go (bytes_eq (subject_key prefix e.subject) k) refl some (key_is_short prefix k (n + 1) es is.2)
  where
    go : (t : Bool) → bytes_eq (subject_key prefix e.subject) k ≡ t → 0 < length (cond t (n ∷ key_numbers prefix k (n + 1) es) (key_numbers prefix k (n + 1) es))
        → (0 < length (key_numbers prefix k (n + 1) es) → length k < 10 ^ 18) → length k < 10 ^ 18
    go true same more later =
        let short = key_short prefix e.subject in
        let entry = (is.1).short in
        let size = ap length ((bytes_eq-Decides (subject_key prefix e.subject) k).0 same) in
        omega (arith, short, entry, size)
    go false other more later = later more

-- the numbers under a key are found among the threads
found : (k : Text) (ps : Pairs) → option_map (λ (t : Thread). t.numbers) (entry_of byte_cmp (λ (t : Thread). t.key) k (threads_of ps)) ≡ lookup (λ (q : Vec ℕ Global). is_eq (byte_cmp k q.items)) ps
found k [] = refl
found k (p ∷ ps) = go (is_eq (byte_cmp k p.0.items)) (found k ps)
  where
    go : (t : Bool) → option_map (λ (t : Thread). t.numbers) (entry_of byte_cmp (λ (t : Thread). t.key) k (threads_of ps)) ≡ lookup (λ (q : Vec ℕ Global). is_eq (byte_cmp k q.items)) ps
        → option_map (λ (t : Thread). t.numbers) (cond t (Some (record { key = p.0.items; numbers = p.1 })) (entry_of byte_cmp (λ (t : Thread). t.key) k (threads_of ps)))
        ≡ cond t (Some p.1) (lookup (λ (q : Vec ℕ Global). is_eq (byte_cmp k q.items)) ps)
    go true e = refl
    go false e = e

-- and among those of the key's file
found_at : (n : ℕ) (k : Text) (ts : List Thread) → thread_place k ≡ n → entry_of byte_cmp (λ (t : Thread). t.key) k (filter (λ (t : Thread). thread_place t.key == n) ts) ≡ entry_of byte_cmp (λ (t : Thread). t.key) k ts
found_at n k [] place = refl
found_at n k (t ∷ ts) place = go (byte_cmp k t.key) refl (thread_place t.key == n) refl (found_at n k ts place)
  where
    away : (o : Ordering) → byte_cmp k t.key ≡ o → is_eq o ≡ false → (b : Bool) → entry_of byte_cmp (λ (t : Thread). t.key) k (filter (λ (t : Thread). thread_place t.key == n) ts) ≡ entry_of byte_cmp (λ (t : Thread). t.key) k ts
        → entry_of byte_cmp (λ (t : Thread). t.key) k (cond b (t ∷ filter (λ (t : Thread). thread_place t.key == n) ts) (filter (λ (t : Thread). thread_place t.key == n) ts))
        ≡ cond (is_eq (byte_cmp k t.key)) (Some t) (entry_of byte_cmp (λ (t : Thread). t.key) k ts)
    away o is other true e = ap (λ b. cond b (Some t) (entry_of byte_cmp (λ (t : Thread). t.key) k (filter (λ (t : Thread). thread_place t.key == n) ts))) (ap is_eq is ∙ other) ∙ e ∙ sym (ap (λ b. cond b (Some t) (entry_of byte_cmp (λ (t : Thread). t.key) k ts)) (ap is_eq is ∙ other))
    away o is other false e = e ∙ sym (ap (λ b. cond b (Some t) (entry_of byte_cmp (λ (t : Thread). t.key) k ts)) (ap is_eq is ∙ other))

    go : (o : Ordering) → byte_cmp k t.key ≡ o → (b : Bool) → (thread_place t.key == n) ≡ b → entry_of byte_cmp (λ (t : Thread). t.key) k (filter (λ (t : Thread). thread_place t.key == n) ts) ≡ entry_of byte_cmp (λ (t : Thread). t.key) k ts
        → entry_of byte_cmp (λ (t : Thread). t.key) k (cond (thread_place t.key == n) (t ∷ filter (λ (t : Thread). thread_place t.key == n) ts) (filter (λ (t : Thread). thread_place t.key == n) ts))
        ≡ cond (is_eq (byte_cmp k t.key)) (Some t) (entry_of byte_cmp (λ (t : Thread). t.key) k ts)
    go Less is b here e = away Less is refl (thread_place t.key == n) e
    go Greater is b here e = away Greater is refl (thread_place t.key == n) e
    go Equal is b here e =
        let same : thread_place t.key ≡ n = ap thread_place (sym (same_bytes k t.key is)) ∙ place in
        ap (λ b. entry_of byte_cmp (λ (t : Thread). t.key) k (cond b (t ∷ filter (λ (t : Thread). thread_place t.key == n) ts) (filter (λ (t : Thread). thread_place t.key == n) ts))) (eq-eqb (thread_place t.key) n same)
        ∙ ap (λ b. cond b (Some t) (entry_of byte_cmp (λ (t : Thread). t.key) k (filter (λ (t : Thread). thread_place t.key == n) ts))) (ap is_eq is)
        ∙ sym (ap (λ b. cond b (Some t) (entry_of byte_cmp (λ (t : Thread). t.key) k ts)) (ap is_eq is))

-- threads in order
left_is : (a b : Bool) → (a && b) ≡ true → a ≡ true
left_is a b is = (and_parts a b is).0

right_is : (a b : Bool) → (a && b) ≡ true → b ≡ true
right_is a b is = (and_parts a b is).1

all_left : (f p : Thread → Bool) (ts : List Thread) → list_all f ts ≡ true → list_all f (filter p ts) ≡ true
all_left f p [] is = refl
all_left f p (t ∷ ts) is = go (p t) (all_left f p ts (right_is (f t) (list_all f ts) is))
  where
    go : (b : Bool) → list_all f (filter p ts) ≡ true → list_all f (cond b (t ∷ filter p ts) (filter p ts)) ≡ true
    go true more = and_from _ _ (left_is (f t) (list_all f ts) is) more
    go false more = more

order_left : (p : Thread → Bool) (ts : List Thread) → InOrder ts → InOrder (filter p ts)
order_left p [] is = refl
order_left p (t ∷ ts) is = go (p t) (order_left p ts (right_is _ _ is))
  where
    go : (b : Bool) → InOrder (filter p ts) → InOrder (cond b (t ∷ filter p ts) (filter p ts))
    go true more = and_from _ _ (all_left (λ (u : Thread). is_lt (byte_cmp t.key u.key)) p ts (left_is _ _ is)) more
    go false more = more

key_above : (p : Vec ℕ Global × List ℕ) (ps : Pairs) → AllByRecursion (λ (y : Vec ℕ Global). byte_cmp p.0.items y.items ≡ Less) (map (λ (p : Vec ℕ Global × List ℕ). p.0) ps) → list_all (λ (t : Thread). is_lt (byte_cmp p.0.items t.key)) (threads_of ps) ≡ true
key_above p [] is = refl
key_above p (q ∷ qs) is = and_from _ _ (ap is_lt is.0) (key_above p qs is.1)

in_order : (ps : Pairs) → IsStrictlySortedBy (λ (x y : Vec ℕ Global). byte_cmp x.items y.items) (map (λ (p : Vec ℕ Global × List ℕ). p.0) ps) → InOrder (threads_of ps)
unfolding IsStrictlySortedBy
in_order [] is = refl
in_order (p ∷ ps) is = and_from _ _ (key_above p ps is.0) (in_order ps is.1)

-- threads of one file are the same if they have the same numbers under every key of the file
same_threads : (n : ℕ) (ts us : List Thread) → InOrder ts → InOrder us → AllByRecursion (IsThread n) ts → AllByRecursion (IsThread n) us → ((k : Text) → thread_place k ≡ n → numbers_under k ts ≡ numbers_under k us) → ts ≡ us
same_threads n ts us one two all each same = same_lists byte_cmp (λ (t : Thread). t.key) same_bytes bytes_total ts us one two (λ k. go k (find k ts) (find k us) refl refl)
  where
    place : (k : Text) (t : Thread) (vs : List Thread) → AllByRecursion (IsThread n) vs → find k vs ≡ Some t → IsThread n t × (k ≡ t.key)
    place k t vs is there = let own = found_is byte_cmp (λ (t : Thread). t.key) (IsThread n) k t vs is there in (own.0, same_bytes k t.key own.1)

    go : (k : Text) (a b : Option Thread) → find k ts ≡ a → find k us ≡ b → find k ts ≡ find k us
    go k None None p q = p ∙ sym q
    go k (Some t) None p q =
        let own = place k t ts all p in
        let some = (own.0).some in
        let numbers : t.numbers ≡ [] = sym (under_found k ts (Some t) p) ∙ same k (ap thread_place own.1 ∙ (own.0).hashed) ∙ under_found k us None q in
        absurd (let size : length t.numbers ≡ 0 = ap length numbers in omega (arith, size, some))
    go k None (Some u) p q =
        let own = place k u us each q in
        let some = (own.0).some in
        let numbers : u.numbers ≡ [] = sym (under_found k us (Some u) q) ∙ sym (same k (ap thread_place own.1 ∙ (own.0).hashed)) ∙ under_found k ts None p in
        absurd (let size : length u.numbers ≡ 0 = ap length numbers in omega (arith, size, some))
    go k (Some t) (Some u) p q =
        let own = place k t ts all p in
        let other = place k u us each q in
        let keys : t.key ≡ u.key = sym own.1 ∙ other.1 in
        let numbers : t.numbers ≡ u.numbers = sym (under_found k ts (Some t) p) ∙ same k (ap thread_place own.1 ∙ (own.0).hashed) ∙ under_found k us (Some u) q in
        let thread : t ≡ u = λ i. record { key = keys i; numbers = numbers i } in
        p ∙ ap Some thread ∙ sym q

joined_none : (ns : List ℕ) → unwrap_or (with_numbers None ns) [] ≡ ns
joined_none [] = refl
joined_none (n ∷ ns) = refl

joined_some : (ns ms : List ℕ) → Some ms ≡ with_numbers None ns → (ms ≡ ns) × (0 < length ns)
joined_some [] ms is = absurd (cc)
joined_some (n ∷ ns) ms is = ((cc), omega arith)

placed : (n : ℕ) (ts : List Thread) → AllByRecursion (λ (t : Thread). thread_place t.key ≡ n) (filter (λ (t : Thread). thread_place t.key == n) ts)
placed n [] = tt
placed n (t ∷ ts) = go (thread_place t.key == n) refl (placed n ts)
  where
    go : (b : Bool) → (thread_place t.key == n) ≡ b → AllByRecursion (λ (t : Thread). thread_place t.key ≡ n) (filter (λ (t : Thread). thread_place t.key == n) ts)
        → AllByRecursion (λ (t : Thread). thread_place t.key ≡ n) (cond b (t ∷ filter (λ (t : Thread). thread_place t.key == n) ts) (filter (λ (t : Thread). thread_place t.key == n) ts))
    go true e more = (eqb-true (thread_place t.key) n e, more)
    go false e more = more

module _ (prefix : Text) (es : List Entry) (places : Places) (keys : Keys) (numbered : AreNumbered 1 es) (few : length es ≤ 99_999_999) (keyed : AreKeyed prefix places es keys) (ordered : AreOrdered keys) where
  order_at : (n : ℕ) → InOrder (threads_at n keys.entries)
  order_at n = order_left (λ (t : Thread). thread_place t.key == n) (threads_of keys.entries) (in_order keys.entries ordered)

  numbers_found : (n : ℕ) (k : Text) → IsPlace places n → thread_place k ≡ n → option_map (λ (t : Thread). t.numbers) (find k (threads_at n keys.entries)) ≡ with_numbers None (key_numbers prefix k 1 es)
  numbers_found n k inside place = ap (option_map (λ (t : Thread). t.numbers)) (found_at n k (threads_of keys.entries) place) ∙ found k keys.entries ∙ keyed k (subst (λ (m : ℕ). IsPlace places m) (sym place) inside)

  pub under_keys : (n : ℕ) (k : Text) → IsPlace places n → thread_place k ≡ n → numbers_under k (threads_at n keys.entries) ≡ key_numbers prefix k 1 es
  under_keys n k inside place = ap (λ (o : Option (List ℕ)). unwrap_or o []) (numbers_found n k inside place) ∙ joined_none (key_numbers prefix k 1 es)

  each_at : (n : ℕ) → IsPlace places n → AllByRecursion (IsThread n) (threads_at n keys.entries)
  each_at n inside = all_found (IsThread n) (threads_at n keys.entries) (order_at n) (λ k t there. go k t there (found_is byte_cmp (λ (t : Thread). t.key) (λ (t : Thread). thread_place t.key ≡ n) k t (threads_at n keys.entries) (placed n (threads_of keys.entries)) there))
    where
      go : (k : Text) (t : Thread) → find k (threads_at n keys.entries) ≡ Some t → (thread_place t.key ≡ n) × (byte_cmp k t.key ≡ Equal) → IsThread n t
      go k t there (place, tied) =
          let same = same_bytes k t.key tied in
          let own = joined_some (key_numbers prefix k 1 es) t.numbers (sym (ap (option_map (λ (t : Thread). t.numbers)) there) ∙ numbers_found n k inside (ap thread_place same ∙ place)) in
          let rise = subst (λ (ns : List ℕ). Rising 1 (length es + 1) ns) (sym own.0) (numbers_rise prefix k 1 (length es + 1) es (omega arith)) in
          let short = key_is_short prefix k 1 es numbered own.1 in
          let size = ap length own.0 in
          let some = own.1 in
          record {
            hashed = place;
            short = subst (λ (q : Text). length q < 10 ^ 18) same short;
            some = omega (arith, size, some);
            each = rising_posts 1 (length es + 1) t.numbers (omega arith) (omega (arith, few)) rise;
            ascending = rising_sorted 1 (length es + 1) t.numbers rise;
          }

  pub thread_file : (n : ℕ) (file : Option Text) → IsPlace places n → unwrap_or file [] ≡ text_at n keys.entries → IsThreadFile n file (threads_at n keys.entries)
  thread_file n file inside is = record { each = each_at n inside; sorted = order_at n; spelled = is }

  pub no_other : (dir : Dir) (n : ℕ) (file : Option Text) → IsPlace places n → unwrap_or file [] ≢ text_at n keys.entries → (threads : List Thread) → IsThreadFile n file threads → AreThreadsOf prefix n (posts_of dir 1 es) threads → ⊥
  no_other dir n file inside other threads is are =
      let same : threads ≡ threads_at n keys.entries =
      same_threads n threads (threads_at n keys.entries) is.sorted (order_at n) is.each (each_at n inside) (λ k place. are k place ∙ sym (keys_made dir prefix k 1 es) ∙ sym (under_keys n k inside place)) in
      other (is.spelled ∙ ap (flat_map thread_text) same)

-- Every file of the archive is read as exactly what it spells.
use Rattle.std.proofs.Common.{◌≡◌, ◌↔◌, ◌<◌, ◌≤◌, ◌^◌, ◌+◌, ◌*◌, ◌/◌, max, ℕ, Bool, true, false, cond, ◌==◌, List, [], ◌∷◌, ◌++◌, length, map, drop, get_or, Option, Some, None, ◌⊎◌, inl, inr, refl, sym, ap, ap₂, ◌∙◌, subst, arith, append_assoc, append-nil, length-append, option_map}
use Rattle.std.specs.Prelude.{unwrap_or, IsTrue}
use Rattle.std.specs.Fmt.{decimal}
use Rattle.std.specs.List.{AllByRecursion, range_with_len, list_all}
use Rattle.std.specs.Option.{option_and_then}
use Rattle.std.specs.Cmp.{nat_cmp_is}
use Rattle.std.specs.Ordering.{nat_cmp, is_lt}
use Rattle.std.specs.declared.cmp.Ordering.TheVariants.{Equal, Greater}
use Rattle.std.proofs.lemmas.Bool.{cases_lt, eqb-false, eqb-true, eq-eqb, ltb-true, lt-ltb, leb-true, and_parts, and_from}
use Rattle.std.proofs.lemmas.Fmt.{length-decimal-le}
use Rattle.ml_base.specs.Address.{IsAddress}
use Rattle.ml_base.specs.Bytes.{Text}
use Rattle.ml_base.specs.Dir.{Dir}
use Rattle.ml_base.specs.declared.names.Name.{Name}
use Rattle.ml_base.specs.Netstrings.{ns}
use Rattle.ml_base.specs.Numbers.{moment_in, number_within}
use Rattle.ml_base.specs.Ranges.{is_post_number}
use Rattle.ml_base.specs.Sorted.{is_sorted}
use Rattle.ml_base.specs.Splits.{ns_row, AreShort}
use Rattle.ml_base.proofs.Addresses.{address_short}
use Rattle.ml_base.proofs.NumberLaws.{number_spelled, number_read}
use Rattle.ml_rows.specs.Rows.{onto, both_of, row_of, EachFrom, netstrings_at}
use Rattle.ml_rows.specs.Values.{address_in, comma_text, comma_numbers}
use Rattle.ml_rows.proofs.RowLaws.{one_some, none_some, only_read, only_there, made_read, both_read, both_there, netstrings_read, netstrings_written, row_read, row_written, row_goes_on, four}
use Rattle.ml_keyed.proofs.Exact.{file_read, file_written, file_exact, file_one, there_read, there_unread}
use Rattle.ml_rows.proofs.ValueLaws.{moment_read, moment_written, address_is, address_there, line_read, line_written, commas_read, commas_written, comma_length}
use Rattle.ml_filing.specs.Archive.{IsIndexFile, IsNumberFile, IsEntry, entry_text}
use Rattle.ml_filing.specs.Reading.{count_in, entry_with, entry_of_fields, after_lf, entry_in_place, index_in, thread_with, fits, thread_of_fields, thread_at, threads_in}
use Rattle.ml_filing.specs.Threads.{Thread, IsThread, IsThreadFile, thread_name, thread_place, thread_text}
use Rattle.ml_filing.specs.declared.posts.Entry.{Entry}

-- the number of posts is read as it is spelled
pub count_read : (text : Text) (n : ℕ) → count_in text ≡ Some n → IsNumberFile (Some text) n
count_read text n e = let is = line_read 99_999_999 text n (omega arith) e in record { few = is.0; spelled = ap (λ t. Some t) is.1 }

pub count_written : (file : Option Text) (n : ℕ) → IsNumberFile file n → count_in (unwrap_or file []) ≡ Some n
count_written file n is = ap (λ (f : Option Text). count_in (unwrap_or f [])) is.spelled ∙ line_written 99_999_999 n (omega arith) is.few

pub count_exact : (count : ℕ) (text : Text) → (count_in text ≡ Some count) ↔ IsNumberFile (Some text) count
count_exact count text = (count_read text count, count_written (Some text) count)

pub count_one : (file : Option Text) (count other : ℕ) → IsNumberFile file count → IsNumberFile file other → count ≡ other
count_one file m n is other = one_some m n (sym (count_written file m is) ∙ count_written file n other)

-- the four texts of an entry
abbrev fields : Entry → List Text
fields e = decimal e.moment ∷ e.sender ∷ decimal e.size ∷ e.subject ∷ []

abbrev Values : Type 0
Values = Text × (ℕ × (ℕ × Text))

-- an entry at place k of the index of group g
pub record IsPlaced (g k : ℕ) (e : Entry) : Type 0 where
  pub is : IsEntry e
  pub number : e.number ≡ k
  pub here : k / 100 ≡ g

abbrev IsRead : ℕ → List Text → Entry → Type 0
IsRead k texts e = IsEntry e × (e.number ≡ k) × (texts ≡ fields e)

fields_read : (k : ℕ) (texts : List Text) (e : Entry) → AreShort texts → entry_of_fields k texts ≡ Some e → IsEntry e × (e.number ≡ k) × (texts ≡ fields e)
fields_read k [] e short h = absurd (none_some e h)
fields_read k (a ∷ []) e short h = absurd (none_some e h)
fields_read k (a ∷ b ∷ []) e short h = absurd (none_some e h)
fields_read k (a ∷ b ∷ c ∷ []) e short h = absurd (none_some e h)
fields_read k (a ∷ b ∷ c ∷ d ∷ x ∷ xs) e short h = absurd (none_some e h)
fields_read k (moment ∷ sender ∷ size ∷ subject ∷ []) e short h =
    let made = made_read (entry_with k) (both_of (address_in sender) (both_of (moment_in moment) (both_of (number_within 4_294_967_295 size) (Some subject)))) e h in
    let v : Values = made.0 in
    let p = both_read (address_in sender) (both_of (moment_in moment) (both_of (number_within 4_294_967_295 size) (Some subject))) v.0 v.1 made.1 in
    let q = both_read (moment_in moment) (both_of (number_within 4_294_967_295 size) (Some subject)) (v.1).0 (v.1).1 p.1 in
    let r = both_read (number_within 4_294_967_295 size) (Some subject) ((v.1).1).0 ((v.1).1).1 q.1 in
    subst (λ x. IsRead k (moment ∷ sender ∷ size ∷ subject ∷ []) x) made.2 (whole v p.0 q.0 r.0 (one_some subject ((v.1).1).1 r.1))
  where
    whole : (v : Values) → address_in sender ≡ Some v.0 → moment_in moment ≡ Some (v.1).0 → number_within 4_294_967_295 size ≡ Some ((v.1).1).0 → subject ≡ ((v.1).1).1
        → IsRead k (moment ∷ sender ∷ size ∷ subject ∷ []) (entry_with k v)
    whole v p q r s =
        let a = address_is sender v.0 p in
        let m = moment_read moment (v.1).0 q in
        let n = number_spelled 4_294_967_295 size ((v.1).1).0 (omega arith) r in
        let below = n.0 in
        let size_is = m.0 in
        let entry : IsEntry (entry_with k v) = record {
          moment = lt-ltb (v.1).0 253_402_300_800 m.0;
          sender = subst (λ (t : Text). IsAddress t) (sym a.0) a.1;
          size = omega (arith, below);
          short = subst (λ (t : Text). length t < 10 ^ 18) s (((short.1).1).1).0;
        } in
        (entry, refl, four moment sender size subject (decimal (v.1).0) v.0 (decimal ((v.1).1).0) ((v.1).1).1 m.1 (sym a.0) n.1 s)

fields_written : (k : ℕ) (e : Entry) → IsEntry e → e.number ≡ k → entry_of_fields k (fields e) ≡ Some e
fields_written k e is same =
    let size = is.size in
    let values : both_of (address_in e.sender) (both_of (moment_in (decimal e.moment)) (both_of (number_within 4_294_967_295 (decimal e.size)) (Some e.subject))) ≡ Some (e.sender, (e.moment, (e.size, e.subject))) =
    both_there _ _ e.sender (e.moment, (e.size, e.subject)) (address_there e.sender is.sender)
    (both_there _ _ e.moment (e.size, e.subject) (moment_written e.moment (ltb-true e.moment 253_402_300_800 is.moment))
    (both_there _ _ e.size e.subject (number_read 4_294_967_295 e.size (omega arith) (omega (arith, size))) refl)) in
    ap (option_map (entry_with k)) values ∙ ap (λ n. Some (record { number = n; moment = e.moment; sender = e.sender; size = e.size; subject = e.subject })) (sym same)

fields_short : (e : Entry) → IsEntry e → AreShort (fields e)
fields_short e is =
    let m = ltb-true e.moment 253_402_300_800 is.moment in
    let digits = length-decimal-le 12 e.moment (omega arith) (omega (arith, m)) (omega (arith, m)) in
    let a = address_short e.sender is.sender in
    let s = is.size in
    let size = length-decimal-le 10 e.size (omega arith) (omega (arith, s)) (omega (arith, s)) in
    (omega (arith, digits), (omega (arith, a), (omega (arith, size), (is.short, tt))))

-- the text of an entry is the row of these four texts, and an LF
text_row : (e : Entry) (rest : Text) → entry_text e ++ rest ≡ ns_row (fields e) ++ 10 ∷ rest
unfolding entry_text
text_row e rest =
    let a = ns (decimal e.moment) in let b = ns e.sender in let c = ns (decimal e.size) in let d = ns e.subject in
    append_assoc (((a ++ b) ++ c) ++ d) (10 ∷ []) rest
    ∙ ap (λ t. t ++ 10 ∷ rest) (append_assoc (a ++ b) c d ∙ append_assoc a b (c ++ d) ∙ ap (λ t. a ++ (b ++ (c ++ t))) (sym (append-nil d)))

abbrev ended : ℕ → List Text × Text → Option (Entry × Text)
ended k found = both_of (entry_of_fields k found.0) (after_lf found.1)

abbrev if_here : ℕ → Text → Bool → Option (Entry × Text)
if_here k text is = cond is (option_and_then (ended k) (netstrings_at 4 text)) None

entry_written : (g k : ℕ) (e : Entry) (rest : Text) → IsPlaced g k e → entry_in_place g k (entry_text e ++ rest) ≡ Some (e, rest)
entry_written g k e rest is =
    ap (if_here k (entry_text e ++ rest)) (eq-eqb (k / 100) g is.here)
    ∙ ap (λ t. option_and_then (ended k) (netstrings_at 4 t)) (text_row e rest)
    ∙ ap (option_and_then (ended k)) (netstrings_written (fields e) (10 ∷ rest) (fields_short e is.is))
    ∙ both_there (entry_of_fields k (fields e)) (Some rest) e rest (fields_written k e is.is is.number) refl

lf_read : (text rest : Text) → after_lf text ≡ Some rest → text ≡ 10 ∷ rest
lf_read [] rest e = absurd (none_some rest e)
lf_read (b ∷ bs) rest e = go (b == 10) refl
  where
    go : (t : Bool) → (b == 10) ≡ t → b ∷ bs ≡ 10 ∷ rest
    go true is = ap₂ (λ (x : ℕ) (xs : Text). x ∷ xs) (eqb-true b 10 is) (one_some bs rest (sym (ap (λ t. cond t (Some bs) None) is) ∙ e))
    go false is = absurd (none_some rest (sym (ap (λ t. cond t (Some bs) None) is) ∙ e))

abbrev found_entry : Entry → Text → Entry × Text
found_entry e rest = (e, rest)

entry_read : (g k : ℕ) (text : Text) (e : Entry) (rest : Text) → entry_in_place g k text ≡ Some (e, rest) → IsPlaced g k e × (text ≡ entry_text e ++ rest)
entry_read g k text e rest h = go ((k / 100) == g) refl
  where
    beyond : k / 100 ≡ g → (texts : List Text) (after : Text) → netstrings_at 4 text ≡ Some (texts, after) → ended k (texts, after) ≡ Some (e, rest) → IsPlaced g k e × (text ≡ entry_text e ++ rest)
    beyond here texts after found is =
        let parts = both_read (entry_of_fields k texts) (after_lf after) e rest is in
        let whole = netstrings_read 4 text texts after found in
        let entry = fields_read k texts e whole.1 parts.0 in
        (record { is = entry.0; number = entry.1; here = here }, whole.2 ∙ ap₂ (λ (ts : List Text) (t : Text). ns_row ts ++ t) entry.2 (lf_read after rest parts.1) ∙ sym (text_row e rest))

    in_group : k / 100 ≡ g → (o : Option (List Text × Text)) → netstrings_at 4 text ≡ o → option_and_then (ended k) (netstrings_at 4 text) ≡ Some (e, rest) → IsPlaced g k e × (text ≡ entry_text e ++ rest)
    in_group here None found is = absurd (none_some (found_entry e rest) (sym (ap (option_and_then (ended k)) found) ∙ is))
    in_group here (Some p) found is = beyond here p.0 p.1 found (sym (ap (option_and_then (ended k)) found) ∙ is)

    go : (t : Bool) → ((k / 100) == g) ≡ t → IsPlaced g k e × (text ≡ entry_text e ++ rest)
    go true is = in_group (eqb-true (k / 100) g is) (netstrings_at 4 text) refl (sym (ap (if_here k text) is) ∙ h)
    go false is = absurd (none_some (found_entry e rest) (sym (ap (if_here k text) is) ∙ h))

pub entry_some : (e : Entry) → 0 < length (entry_text e)
unfolding entry_text
entry_some e = let d = ((ns (decimal e.moment) ++ ns e.sender) ++ ns (decimal e.size)) ++ ns e.subject in omega (arith, length-append d (10 ∷ []))

abbrev entry_numbers : List Entry → List ℕ
entry_numbers es = map (λ (e : Entry). e.number) es

-- entries at their places: their numbers follow each other from k on, and none is beyond the group
record Placed (g k : ℕ) (es : List Entry) : Type 0 where
  pub each : AllByRecursion IsEntry es
  pub numbered : entry_numbers es ≡ range_with_len k (length es)
  pub last : k ≤ 100 * g + 100 → k + length es ≤ 100 * g + 100

placed : (g k : ℕ) (es : List Entry) → EachFrom (IsPlaced g) k es → Placed g k es
placed g k [] all = record { each = tt; numbered = refl; last = λ le. omega (arith, le) }
placed g k (e ∷ es) all =
    let first = all.0 in
    let rest = placed g (k + 1) es all.1 in
    let here = first.here in
    record {
      each = (first.is, rest.each);
      numbered = ap₂ (λ (n : ℕ) (ns : List ℕ). n ∷ ns) first.number rest.numbered;
      last = λ le. let more = rest.last (omega (arith, here)) in omega (arith, more);
    }

in_places : (g k : ℕ) (es : List Entry) → AllByRecursion IsEntry es → entry_numbers es ≡ range_with_len k (length es) → 100 * g ≤ k → k + length es ≤ 100 * g + 100 → EachFrom (IsPlaced g) k es
in_places g k [] all numbers low high = tt
in_places g k (e ∷ es) all numbers low high =
    let number : e.number ≡ k = ap (λ (ns : List ℕ). get_or ns 0 0) numbers in
    let rest : entry_numbers es ≡ range_with_len (k + 1) (length es) = ap (λ (ns : List ℕ). drop 1 ns) numbers in
    (record { is = all.0; number = number; here = omega (arith, low, high) }, in_places g (k + 1) es all.1 rest (omega (arith, low)) (omega (arith, high)))

pub index_read : (g : ℕ) (file : Option Text) (es : List Entry) → index_in g (unwrap_or file []) ≡ Some es → IsIndexFile g file es
index_read g file es h =
    let r = row_read (entry_in_place g) entry_text (IsPlaced g) (entry_written g) (entry_read g) (λ k e is. entry_some e) (max 1 (100 * g)) (unwrap_or file []) es h in
    let is = placed g (max 1 (100 * g)) es r.0 in
    let last = is.last (omega arith) in
    record { each = is.each; numbered = is.numbered; few = omega (arith, last); spelled = r.1 }

-- an index goes on after its first entry, or ends there
pub index_more : (g k : ℕ) (text : Text) (e : Entry) (rest : Text) → entry_in_place g k text ≡ Some (e, rest) → row_of (entry_in_place g) k text ≡ onto e (row_of (entry_in_place g) (k + 1) rest)
index_more g k text e rest found = row_goes_on (entry_in_place g) entry_text (IsPlaced g) (entry_written g) (entry_read g) (λ k e is. entry_some e) k text e rest found

pub index_written : (g : ℕ) (file : Option Text) (es : List Entry) → IsIndexFile g file es → index_in g (unwrap_or file []) ≡ Some es
index_written g file es is =
    let few = is.few in
    ap (index_in g) is.spelled
    ∙ row_written (entry_in_place g) entry_text (IsPlaced g) (entry_written g) (entry_read g) (λ k e is. entry_some e) (max 1 (100 * g)) es
    (in_places g (max 1 (100 * g)) es is.each is.numbered (omega arith) (omega (arith, few)))

pub index_exact : (g : ℕ) (file : Option Text) (es : List Entry) → (index_in g (unwrap_or file []) ≡ Some es) ↔ IsIndexFile g file es
index_exact g file es = (index_read g file es, index_written g file es)

pub index_one : (g : ℕ) (file : Option Text) (es fs : List Entry) → IsIndexFile g file es → IsIndexFile g file fs → es ≡ fs
index_one g file es fs is other = one_some es fs (sym (index_written g file es is) ∙ index_written g file fs other)

-- the two texts of a thread
abbrev thread_fields : Thread → List Text
thread_fields t = t.key ∷ comma_text t.numbers ∷ []

abbrev in_order : List ℕ → Bool
in_order numbers = is_sorted nat_cmp (λ m. m) numbers

numbers_at_most : (numbers : List ℕ) → list_all is_post_number numbers ≡ true → AllByRecursion (λ m. m ≤ 99_999_999) numbers
numbers_at_most [] e = tt
numbers_at_most (n ∷ ns) e =
    let parts = and_parts (is_post_number n) (list_all is_post_number ns) e in
    let range = and_parts _ _ parts.0 in
    (leb-true n 99_999_999 range.1, numbers_at_most ns parts.1)

numbers_each : (numbers : List ℕ) → list_all is_post_number numbers ≡ true → AllByRecursion (λ m. IsTrue (is_post_number m)) numbers
numbers_each [] e = tt
numbers_each (n ∷ ns) e = let parts = and_parts (is_post_number n) (list_all is_post_number ns) e in (parts.0, numbers_each ns parts.1)

each_numbers : (numbers : List ℕ) → AllByRecursion (λ m. IsTrue (is_post_number m)) numbers → list_all is_post_number numbers ≡ true
each_numbers [] all = refl
each_numbers (n ∷ ns) all = and_from _ _ all.0 (each_numbers ns all.1)

pub less_than : (a b : ℕ) → is_lt (nat_cmp a b) ≡ true → a < b
less_than a b e = go (cases_lt a b)
  where
    go : ((a < b) ⊎ (b ≤ a)) → a < b
    go (inl less) = less
    go (inr high) = tested (a == b) refl
      where
        tested : (t : Bool) → (a == b) ≡ t → a < b
        tested true same = absurd (let bad : false ≡ true = ap is_lt (nat_cmp_is a b Equal (eqb-true a b same)) ∙ e in cc)
        tested false same = absurd (let other = eqb-false a b same in let bad : false ≡ true = ap is_lt (nat_cmp_is a b Greater (omega (arith, other, high))) ∙ e in cc)

-- rising numbers are at most as many as the largest number allowed
risen : (low : ℕ) (numbers : List ℕ) → list_all (λ m. is_lt (nat_cmp low m)) numbers ≡ true → in_order numbers ≡ true → AllByRecursion (λ m. m ≤ 99_999_999) numbers → low ≤ 99_999_999 → low + length numbers ≤ 99_999_999
risen low [] above sorted all le = omega (arith, le)
risen low (n ∷ ns) above sorted all le =
    let first = and_parts (is_lt (nat_cmp low n)) (list_all (λ m. is_lt (nat_cmp low m)) ns) above in
    let parts = and_parts (list_all (λ m. is_lt (nat_cmp n m)) ns) (in_order ns) sorted in
    let more = risen n ns parts.0 parts.1 all.1 all.0 in
    let less = less_than low n first.0 in
    omega (arith, more, less)

few_numbers : (numbers : List ℕ) → in_order numbers ≡ true → AllByRecursion (λ m. m ≤ 99_999_999) numbers → length numbers ≤ 100_000_000
few_numbers [] sorted all = omega arith
few_numbers (n ∷ ns) sorted all =
    let parts = and_parts (list_all (λ m. is_lt (nat_cmp n m)) ns) (in_order ns) sorted in
    let more = risen n ns parts.0 parts.1 all.1 all.0 in omega (arith, more)

abbrev IsReadThread : ℕ → List Text → Thread → Type 0
IsReadThread n texts t = IsThread n t × (texts ≡ thread_fields t)

two : (a b x y : Text) → a ≡ x → b ≡ y → a ∷ b ∷ [] ≡ x ∷ y ∷ []
two a b x y p q = λ i. p i ∷ q i ∷ []

thread_fields_read : (n : ℕ) (texts : List Text) (t : Thread) → AreShort texts → thread_of_fields n texts ≡ Some t → IsThread n t × (texts ≡ thread_fields t)
thread_fields_read n [] t short h = absurd (none_some t h)
thread_fields_read n (a ∷ []) t short h = absurd (none_some t h)
thread_fields_read n (a ∷ b ∷ x ∷ xs) t short h = absurd (none_some t h)
thread_fields_read n (key ∷ numbers ∷ []) t short h =
    let o = only_read (fits n) (option_map (thread_with key) (comma_numbers 99_999_999 numbers)) t h in
    let made = made_read (thread_with key) (comma_numbers 99_999_999 numbers) t o.0 in
    let c = commas_read 99_999_999 numbers made.0 (omega arith) made.1 in
    let a = and_parts _ _ (ap (fits n) made.2 ∙ o.1) in
    let b = and_parts _ _ a.0 in
    let d = and_parts _ _ b.0 in
    let is : IsThread n (thread_with key made.0) = record {
      hashed = eqb-true (thread_place key) n d.0;
      short = short.0;
      some = ltb-true 0 (length made.0) d.1;
      each = numbers_each made.0 b.1;
      ascending = a.1;
    } in
    subst (λ x. IsReadThread n (key ∷ numbers ∷ []) x) made.2 (is, two key numbers key (comma_text made.0) refl c.1)

fits_told : (n : ℕ) (t : Thread) → IsThread n t → fits n t ≡ true
fits_told n t is =
    and_from _ _ (and_from _ _ (and_from _ _ (eq-eqb (thread_place t.key) n is.hashed) (lt-ltb 0 (length t.numbers) is.some)) (each_numbers t.numbers is.each)) is.ascending

pub at_most : (n : ℕ) (t : Thread) → IsThread n t → AllByRecursion (λ m. m ≤ 99_999_999) t.numbers
at_most n t is = numbers_at_most t.numbers (each_numbers t.numbers is.each)

thread_fields_written : (n : ℕ) (t : Thread) → IsThread n t → thread_of_fields n (thread_fields t) ≡ Some t
thread_fields_written n t is =
    only_there (fits n) (option_map (thread_with t.key) (comma_numbers 99_999_999 (comma_text t.numbers))) t
    (ap (option_map (thread_with t.key)) (commas_written 99_999_999 t.numbers (omega arith) (at_most n t is))) (fits_told n t is)

thread_short : (n : ℕ) (t : Thread) → IsThread n t → AreShort (thread_fields t)
thread_short n t is =
    let few = few_numbers t.numbers is.ascending (at_most n t is) in
    let size = comma_length t.numbers (at_most n t is) in
    (is.short, (omega (arith, few, size), tt))

thread_row : (t : Thread) (rest : Text) → thread_text t ++ rest ≡ ns_row (thread_fields t) ++ rest
thread_row t rest = ap (λ x. (ns t.key ++ x) ++ rest) (sym (append-nil (ns (comma_text t.numbers))))

abbrev with_rest : ℕ → List Text × Text → Option (Thread × Text)
with_rest n found = option_map (λ (t : Thread). (t, found.1)) (thread_of_fields n found.0)

abbrev found_thread : Thread → Text → Thread × Text
found_thread t rest = (t, rest)

thread_written : (n place : ℕ) (t : Thread) (rest : Text) → IsThread n t → thread_at n place (thread_text t ++ rest) ≡ Some (t, rest)
thread_written n place t rest is =
    ap (λ x. option_and_then (with_rest n) (netstrings_at 2 x)) (thread_row t rest)
    ∙ ap (option_and_then (with_rest n)) (netstrings_written (thread_fields t) rest (thread_short n t is)) ∙ ap (option_map (λ t. found_thread t rest)) (thread_fields_written n t is)

thread_read : (n place : ℕ) (text : Text) (t : Thread) (rest : Text) → thread_at n place text ≡ Some (t, rest) → IsThread n t × (text ≡ thread_text t ++ rest)
thread_read n place text t rest h = go (netstrings_at 2 text) refl
  where
    beyond : (texts : List Text) (after : Text) → netstrings_at 2 text ≡ Some (texts, after) → with_rest n (texts, after) ≡ Some (t, rest) → IsThread n t × (text ≡ thread_text t ++ rest)
    beyond texts after found is =
        let made = made_read (λ t. found_thread t after) (thread_of_fields n texts) (t, rest) is in
        let whole = netstrings_read 2 text texts after found in
        let same : made.0 ≡ t = ap (λ (p : Thread × Text). p.0) made.2 in
        let thread = thread_fields_read n texts made.0 whole.1 made.1 in
        (subst (λ (x : Thread). IsThread n x) same thread.0, whole.2 ∙ ap₂ (λ (ts : List Text) (p : Thread × Text). ns_row ts ++ p.1) (thread.1 ∙ ap thread_fields same) made.2 ∙ sym (thread_row t rest))

    go : (o : Option (List Text × Text)) → netstrings_at 2 text ≡ o → IsThread n t × (text ≡ thread_text t ++ rest)
    go None found = absurd (none_some (found_thread t rest) (sym (ap (option_and_then (with_rest n)) found) ∙ h))
    go (Some p) found = beyond p.0 p.1 found (sym (ap (option_and_then (with_rest n)) found) ∙ h)

pub thread_some : (t : Thread) → 0 < length (thread_text t)
thread_some t =
    let a = length-append (ns t.key) (ns (comma_text t.numbers)) in
    let b = length-append (decimal (length t.key) ++ (58 ∷ t.key)) (44 ∷ []) in omega (arith, a, b)

pub threads_read : (n : ℕ) (file : Option Text) (ts : List Thread) → threads_in n (unwrap_or file []) ≡ Some ts → IsThreadFile n file ts
threads_read = file_read IsThread (λ (t : Thread). t.key) thread_text thread_at thread_written thread_read thread_some

pub threads_written : (n : ℕ) (file : Option Text) (ts : List Thread) → IsThreadFile n file ts → threads_in n (unwrap_or file []) ≡ Some ts
threads_written = file_written IsThread (λ (t : Thread). t.key) thread_text thread_at thread_written thread_read thread_some

pub threads_exact : (n : ℕ) (file : Option Text) (ts : List Thread) → (threads_in n (unwrap_or file []) ≡ Some ts) ↔ IsThreadFile n file ts
threads_exact = file_exact IsThread (λ (t : Thread). t.key) thread_text thread_at thread_written thread_read thread_some

pub threads_one : (n : ℕ) (file : Option Text) (ts us : List Thread) → IsThreadFile n file ts → IsThreadFile n file us → ts ≡ us
threads_one = file_one IsThread (λ (t : Thread). t.key) thread_text thread_at thread_written thread_read thread_some

-- a thread file that was read has these threads, and one that wasn't read has none
pub threads_found : (dir : Dir) (n : ℕ) (name : Name) (file : Option Text) (text : Text) (o : Option (List Thread)) (ts : List Thread) → name ≡ thread_name n → file ≡ dir name → text ≡ unwrap_or file [] → o ≡ threads_in n text → o ≡ Some ts
    → IsThreadFile n (dir (thread_name n)) ts
threads_found dir n name = there_read IsThread (λ (t : Thread). t.key) thread_text thread_at thread_written thread_read thread_some dir name (thread_name n) n

pub threads_lost : (dir : Dir) (n : ℕ) (name : Name) (file : Option Text) (text : Text) (o : Option (List Thread)) → name ≡ thread_name n → file ≡ dir name → text ≡ unwrap_or file [] → o ≡ threads_in n text → o ≡ None
    → (ts : List Thread) → ¬ IsThreadFile n (dir (thread_name n)) ts
threads_lost dir n name = there_unread IsThread (λ (t : Thread). t.key) thread_text thread_at thread_written thread_read thread_some dir name (thread_name n) n

-- Records are read as they are written, and what is read is written the same.
use Rattle.std.proofs.Common.{◌≡◌, ◌<◌, ◌≤◌, ◌^◌, ℕ, zero, suc, ◌+◌, Bool, true, false, cond, List, [], ◌∷◌, ◌++◌, length, Option, Some, None, refl, sym, ◌∙◌, ap, subst, arith, append_assoc, length-append}
use Rattle.std.specs.Option.{option_and_then}
use Rattle.std.specs.Prelude.{option_map, ◌&&◌, ◌||◌, ◌==◌}
use Rattle.std.specs.Fmt.{decimal}
use Rattle.std.proofs.lemmas.Fmt.{length-decimal-le}
use Rattle.std.proofs.lemmas.Bool.{leb-true, eqb-true}
use Rattle.ml_base.specs.Bytes.{Text}
use Rattle.ml_base.specs.Dir.{are_files}
use Rattle.ml_base.specs.Name.{is_file, file_named, is_in_table, is_bucket_kind, last_place}
use Rattle.ml_base.specs.Netstrings.{netstring_at, ns}
use Rattle.ml_base.specs.Numbers.{number_of}
use Rattle.ml_base.specs.declared.names.Name.{Name}
use Rattle.ml_base.specs.declared.puts.Put.{Put}
use Rattle.ml_base.proofs.Bools.{both}
use Rattle.ml_base.proofs.Netstrings.{netstring_written, netstring_read}
use Rattle.ml_base.proofs.NumberLaws.{number_read, number_spelled}
use Rattle.ml_journal.specs.Records.{spelled_name, spelled_as, spelled_put, spelled_puts, spelled_record, number_at, name_at, write_at, removal_at, put_at, with_first, first_and_more, puts_within, puts_of, record_at}

-- if a next step has a value, the step before it has one
went_on : {A B : Type 0} (found : Option A) (next : A → Option B) (b : B) → option_and_then next found ≡ Some b → (a : A) × (found ≡ Some a) × (next a ≡ Some b)
went_on None next b e = cc
went_on (Some a) next b e = (a, refl, e)

some_is : {A : Type 0} (x y : A) → Some x ≡ Some y → x ≡ y
some_is x y e = cc

was_mapped : {A B : Type 0} (found : Option A) (f : A → B) (b : B) → option_map f found ≡ Some b → (a : A) × (found ≡ Some a) × (f a ≡ b)
was_mapped None f b e = cc
was_mapped (Some a) f b e = (a, refl, some_is (f a) b e)

number_written : (n : ℕ) (rest : Text) → n < 10 ^ 18 → number_at (ns (decimal n) ++ rest) ≡ Some (n, rest)
number_written n rest small =
    ap (option_and_then (λ (found : Text × Text). option_map (λ (k : ℕ). (k, found.1)) (number_of found.0)))
    (netstring_written (decimal n) rest (omega (arith, length-decimal-le 18 n (omega arith) small (omega (arith, small)))))
    ∙ ap (option_map (λ (k : ℕ). (k, rest))) (number_read 999_999_999_999_999_999 n (omega arith) (omega (arith, small)))

number_found : (text : Text) (n : ℕ) (rest : Text) → number_at text ≡ Some (n, rest) → (n < 10 ^ 18) × (text ≡ ns (decimal n) ++ rest)
number_found text n rest e =
    let first = went_on (netstring_at text) _ (n, rest) e in
    let number = was_mapped (number_of first.0.0) _ (n, rest) first.2 in
    let split = netstring_read text first.0.0 first.0.1 first.1 in
    let spelled = number_spelled 999_999_999_999_999_999 first.0.0 number.0 (omega arith) number.1 in
    let same : number.0 ≡ n = ap (λ (p : ℕ × Text). p.0) number.2 in (
      omega (arith, spelled.0, same),
      split.1 ∙ ap (λ (digits : Text). ns digits ++ first.0.1) spelled.1 ∙ ap (λ (p : ℕ × Text). ns (decimal p.0) ++ p.1) number.2,
    )

-- a bound of both branches is a bound of the choice
pick : (b : Bool) (x y most : ℕ) → x ≤ most → y ≤ most → cond b x y ≤ most
pick true x y most first second = first
pick false x y most first second = second

last_place_small : (kind : ℕ) → last_place kind ≤ 1_000_000_000_000_000
last_place_small kind =
    let threads = pick (kind == 20) 255 0 1_000_000_000_000_000 (omega arith) (omega arith) in
    let replies = pick (kind == 19) 1_953_124_999 _ 1_000_000_000_000_000 (omega arith) threads in
    let tickets = pick (kind == 13 || kind == 17) 1_000_000_000_000_000 _ 1_000_000_000_000_000 (omega arith) replies in
    let groups = pick (kind == 10) 999_999 _ 1_000_000_000_000_000 (omega arith) tickets in
    let posts = pick (kind == 9) 99_999_999 _ 1_000_000_000_000_000 (omega arith) groups in
    let counts = pick (kind == 8) 4 _ 1_000_000_000_000_000 (omega arith) posts in
    pick (is_bucket_kind kind) 52 _ 1_000_000_000_000_000 (omega arith) counts

places_small : (name : Name) → is_file name ≡ true → (name.kind < 10 ^ 18) × (name.at < 10 ^ 18)
places_small name is =
    let in_table = both (is_in_table name) _ is in
    let parts = both _ _ in_table.0 in
    let kinds = both _ _ parts.0 in (
      omega (arith, leb-true name.kind 21 kinds.0),
      omega (arith, leb-true name.at (last_place name.kind) parts.1, last_place_small name.kind),
    )

named : (kind at : ℕ) (name : Name) → file_named kind at ≡ Some name → (is_file name ≡ true) × (kind ≡ name.kind) × (at ≡ name.at)
named kind at name e = go (is_file (record { kind = kind; at = at })) refl
  where
    go : (b : Bool) → is_file (record { kind = kind; at = at }) ≡ b → (is_file name ≡ true) × (kind ≡ name.kind) × (at ≡ name.at)
    go false is = let bad : None ≡ Some name = ap (λ (t : Bool). cond t (Some (record { kind = kind; at = at })) None) (sym is) ∙ e in cc
    go true is =
        let found : Some (record { kind = kind; at = at }) ≡ Some name = ap (λ (t : Bool). cond t (Some (record { kind = kind; at = at })) None) (sym is) ∙ e in
        let same : record { kind = kind; at = at } ≡ name = some_is _ _ found in
        (ap is_file (sym same) ∙ is, ap (λ (k : Name). k.kind) same, ap (λ (k : Name). k.at) same)

name_written : (name : Name) (rest : Text) → is_file name ≡ true → name_at (spelled_name name ++ rest) ≡ Some (name, rest)
name_written name rest is =
    let small = places_small name is in
    ap name_at (append_assoc (ns (decimal name.kind)) (ns (decimal name.at)) rest)
    ∙ ap (option_and_then (λ (kind : ℕ × Text). option_and_then (λ (at : ℕ × Text). option_map (λ (k : Name). (k, at.1)) (file_named kind.0 at.0)) (number_at kind.1)))
    (number_written name.kind (ns (decimal name.at) ++ rest) small.0)
    ∙ ap (option_and_then (λ (at : ℕ × Text). option_map (λ (k : Name). (k, at.1)) (file_named name.kind at.0))) (number_written name.at rest small.1)
    ∙ ap (λ (b : Bool). option_map (λ (k : Name). (k, rest)) (cond b (Some name) None)) is

name_found : (text : Text) (name : Name) (rest : Text) → name_at text ≡ Some (name, rest) → (is_file name ≡ true) × (text ≡ spelled_name name ++ rest)
name_found text name rest e =
    let kind = went_on (number_at text) _ (name, rest) e in
    let at = went_on (number_at kind.0.1) _ (name, rest) kind.2 in
    let found = was_mapped (file_named kind.0.0 at.0.0) _ (name, rest) at.2 in
    let is = named kind.0.0 at.0.0 found.0 found.1 in
    let first = number_found text kind.0.0 kind.0.1 kind.1 in
    let second = number_found kind.0.1 at.0.0 at.0.1 at.1 in (
      ap is_file (sym (ap (λ (p : Name × Text). p.0) found.2)) ∙ is.0,
      first.1 ∙ ap (λ (l : Text). ns (decimal kind.0.0) ++ l) second.1
          ∙ (λ i. ns (decimal (is.1 i)) ++ (ns (decimal (is.2 i)) ++ at.0.1))
          ∙ sym (append_assoc (ns (decimal found.0.kind)) (ns (decimal found.0.at)) at.0.1)
          ∙ ap (λ (p : Name × Text). spelled_name p.0 ++ p.1) found.2,
    )

write_written : (name : Name) (bytes rest : Text) → is_file name ≡ true → length bytes < 10 ^ 18 → write_at ((spelled_name name ++ ns bytes) ++ rest) ≡ Some (record { name = name; bytes = Some bytes }, rest)
write_written name bytes rest is small =
    ap write_at (append_assoc (spelled_name name) (ns bytes) rest)
    ∙ ap (option_and_then (λ (p : Name × Text). option_map (λ (found : Text × Text). (record { name = p.0; bytes = Some found.0 }, found.1)) (netstring_at p.1))) (name_written name (ns bytes ++ rest) is)
    ∙ ap (option_map (λ (found : Text × Text). (record { name = name; bytes = Some found.0 }, found.1))) (netstring_written bytes rest small)

write_found : (text : Text) (put : Put) (rest : Text) → write_at text ≡ Some (put, rest) → (is_file put.name ≡ true) × (87 ∷ text ≡ spelled_put put ++ rest)
write_found text put rest e =
    let name = went_on (name_at text) _ (put, rest) e in
    let bytes = was_mapped (netstring_at name.0.1) _ (put, rest) name.2 in
    let first = name_found text name.0.0 name.0.1 name.1 in
    let second = netstring_read name.0.1 bytes.0.0 bytes.0.1 bytes.1 in (
      ap (λ (p : Put × Text). is_file p.0.name) (sym bytes.2) ∙ first.0,
      ap (λ (l : Text). 87 ∷ l) (first.1 ∙ ap (λ (l : Text). spelled_name name.0.0 ++ l) second.1 ∙ sym (append_assoc (spelled_name name.0.0) (ns bytes.0.0) bytes.0.1))
          ∙ ap (λ (p : Put × Text). spelled_put p.0 ++ p.1) bytes.2,
    )

removal_found : (text : Text) (put : Put) (rest : Text) → removal_at text ≡ Some (put, rest) → (is_file put.name ≡ true) × (88 ∷ text ≡ spelled_put put ++ rest)
removal_found text put rest e =
    let name = was_mapped (name_at text) _ (put, rest) e in
    let first = name_found text name.0.0 name.0.1 name.1 in (
      ap (λ (p : Put × Text). is_file p.0.name) (sym name.2) ∙ first.0,
      ap (λ (l : Text). 88 ∷ l) first.1 ∙ ap (λ (p : Put × Text). spelled_put p.0 ++ p.1) name.2,
    )

-- a put is read as it is written, whatever follows it
put_written : (name : Name) (bytes : Option Text) (rest : Text) → is_file name ≡ true → length (spelled_as name bytes) < 10 ^ 18 → put_at (spelled_as name bytes ++ rest) ≡ Some (record { name = name; bytes = bytes }, rest)
put_written name (Some bytes) rest is small =
    let size : length bytes < 10 ^ 18 = omega (arith, small, length-append (87 ∷ spelled_name name) (ns bytes), length-append (decimal (length bytes) ++ 58 ∷ bytes) (44 ∷ []), length-append (decimal (length bytes)) (58 ∷ bytes)) in
    write_written name bytes rest is size
put_written name None rest is small = ap (option_map (λ (p : Name × Text). (record { name = p.0; bytes = None }, p.1))) (name_written name rest is)

-- what is read as a put is spelled so
put_found : (text : Text) (put : Put) (rest : Text) → put_at text ≡ Some (put, rest) → (is_file put.name ≡ true) × (text ≡ spelled_put put ++ rest)
put_found [] put rest e = cc
put_found (letter ∷ text) put rest e = first (letter == 87) refl
  where
    second : (b : Bool) → (letter == 88) ≡ b → cond (letter == 88) (removal_at text) None ≡ Some (put, rest) → (is_file put.name ≡ true) × (letter ∷ text ≡ spelled_put put ++ rest)
    second true is e' =
        let found = removal_found text put rest (ap (λ (t : Bool). cond t (removal_at text) None) (sym is) ∙ e') in
        (found.0, ap (λ (l : ℕ). l ∷ text) (eqb-true letter 88 is) ∙ found.1)
    second false is e' = let bad : None ≡ Some (put, rest) = ap (λ (t : Bool). cond t (removal_at text) None) (sym is) ∙ e' in cc

    first : (b : Bool) → (letter == 87) ≡ b → (is_file put.name ≡ true) × (letter ∷ text ≡ spelled_put put ++ rest)
    first true is =
        let found = write_found text put rest (ap (λ (t : Bool). cond t (write_at text) (cond (letter == 88) (removal_at text) None)) (sym is) ∙ e) in
        (found.0, ap (λ (l : ℕ). l ∷ text) (eqb-true letter 87 is) ∙ found.1)
    first false is = second (letter == 88) refl (ap (λ (t : Bool). cond t (write_at text) (cond (letter == 88) (removal_at text) None)) (sym is) ∙ e)

-- a put has at least one byte, so what follows it is shorter
put_some : (name : Name) (bytes : Option Text) → 0 < length (spelled_as name bytes)
put_some name (Some bytes) = omega arith
put_some name None = omega arith

pub put_shorter : (text : Text) (put : Put) (rest : Text) → put_at text ≡ Some (put, rest) → length rest < length text
put_shorter text put rest e =
    let found = put_found text put rest e in
    omega (arith, ap length found.1, length-append (spelled_put put) rest, put_some put.name put.bytes)

-- a text that begins with a put is that put and what follows it
one_more : (n : ℕ) (text : Text) (found : Option (Put × Text)) → put_at text ≡ found → 0 < length text → puts_within (suc n) text ≡ first_and_more (puts_within n) found
one_more n [] found e some = absurd (omega (arith, some))
one_more n (letter ∷ text) found e some = ap (first_and_more (puts_within n)) e

-- how many puts may be looked at doesn't matter
puts_enough : (n m : ℕ) (text : Text) → length text ≤ n → length text ≤ m → puts_within n text ≡ puts_within m text
puts_enough zero zero text le le' = refl
puts_enough zero (suc m) [] le le' = refl
puts_enough zero (suc m) (b ∷ text) le le' = absurd (omega (arith, le))
puts_enough (suc n) zero [] le le' = refl
puts_enough (suc n) zero (b ∷ text) le le' = absurd (omega (arith, le'))
puts_enough (suc n) (suc m) [] le le' = refl
puts_enough (suc n) (suc m) (b ∷ text) le le' = go (put_at (b ∷ text)) refl (puts_enough n m)
  where
    go : (found : Option (Put × Text)) → put_at (b ∷ text) ≡ found → ((rest : Text) → length rest ≤ n → length rest ≤ m → puts_within n rest ≡ puts_within m rest)
        → first_and_more (puts_within n) found ≡ first_and_more (puts_within m) found
    go None is more = refl
    go (Some found) is more =
        let shorter = put_shorter (b ∷ text) found.0 found.1 is in
        ap (with_first found.0) (more found.1 (omega (arith, shorter, le)) (omega (arith, shorter, le')))

-- the puts of a text that begins with one
pub puts_next : (text : Text) (put : Put) (rest : Text) → put_at text ≡ Some (put, rest) → puts_of text ≡ with_first put (puts_of rest)
puts_next [] put rest e = cc
puts_next (b ∷ text) put rest e =
    let shorter = put_shorter (b ∷ text) put rest e in
    ap (first_and_more (puts_within (length text))) e
    ∙ ap (with_first put) (puts_enough (length text) (length rest) rest (omega (arith, shorter)) (omega arith))

-- a row of puts is read as it is written
puts_written : (puts : List Put) (n : ℕ) → are_files puts ≡ true → length (spelled_puts puts) < 10 ^ 18 → length (spelled_puts puts) ≤ n → puts_within n (spelled_puts puts) ≡ Some puts
puts_written [] zero files small le = refl
puts_written [] (suc n) files small le = refl
puts_written (put ∷ puts) n files small le =
    let parts = both (is_file put.name) (are_files puts) files in
    let size = length-append (spelled_put put) (spelled_puts puts) in
    let some = put_some put.name put.bytes in
    let first : put_at (spelled_put put ++ spelled_puts puts) ≡ Some (put, spelled_puts puts) = put_written put.name put.bytes (spelled_puts puts) parts.0 (omega (arith, size, small)) in
    turn n (omega (arith, size, some, le)) le first (λ m fits. puts_written puts m parts.1 (omega (arith, size, small)) fits) size some
  where
    turn : (k : ℕ) → 0 < k → length (spelled_put put ++ spelled_puts puts) ≤ k → put_at (spelled_put put ++ spelled_puts puts) ≡ Some (put, spelled_puts puts)
        → ((m : ℕ) → length (spelled_puts puts) ≤ m → puts_within m (spelled_puts puts) ≡ Some puts)
        → length (spelled_put put ++ spelled_puts puts) ≡ length (spelled_put put) + length (spelled_puts puts) → 0 < length (spelled_put put) → puts_within k (spelled_put put ++ spelled_puts puts) ≡ Some (put ∷ puts)
    turn zero some le first more size one = absurd (omega (arith, some))
    turn (suc m) some le first more size one =
        one_more m (spelled_put put ++ spelled_puts puts) (Some (put, spelled_puts puts)) first (omega (arith, size, one))
        ∙ ap (with_first put) (more m (omega (arith, size, one, le)))

-- what is read as a row of puts is spelled so
puts_found : (n : ℕ) (text : Text) (puts : List Put) → puts_within n text ≡ Some puts → (are_files puts ≡ true) × (text ≡ spelled_puts puts)
puts_found zero [] puts e = let same : [] ≡ puts = some_is [] puts e in (ap are_files (sym same), ap spelled_puts same)
puts_found zero (b ∷ text) puts e = cc
puts_found (suc n) [] puts e = let same : [] ≡ puts = some_is [] puts e in (ap are_files (sym same), ap spelled_puts same)
puts_found (suc n) (b ∷ text) puts e = go (put_at (b ∷ text)) refl e (puts_found n)
  where
    go : (found : Option (Put × Text)) → put_at (b ∷ text) ≡ found → first_and_more (puts_within n) found ≡ Some puts
        → ((rest : Text) (more : List Put) → puts_within n rest ≡ Some more → (are_files more ≡ true) × (rest ≡ spelled_puts more)) → (are_files puts ≡ true) × (b ∷ text ≡ spelled_puts puts)
    go None is e' later = cc
    go (Some found) is e' later =
        let more = was_mapped (puts_within n found.1) (λ (ps : List Put). found.0 ∷ ps) puts e' in
        let rest = later found.1 more.0 more.1 in
        let first = put_found (b ∷ text) found.0 found.1 is in (
          ap are_files (sym more.2) ∙ ap (λ (t : Bool). t && are_files more.0) first.0 ∙ rest.0,
          first.1 ∙ ap (λ (l : Text). spelled_put found.0 ++ l) rest.1 ∙ ap spelled_puts more.2,
        )

-- a record is read as it is written, whatever follows it
pub record_written : (puts : List Put) (rest : Text) → are_files puts ≡ true → length (spelled_puts puts) < 10 ^ 18 → record_at (spelled_record puts ++ rest) ≡ Some (puts, rest)
record_written puts rest files small =
    ap (option_and_then (λ (found : Text × Text). option_map (λ (ps : List Put). (ps, found.1)) (puts_of found.0))) (netstring_written (spelled_puts puts) rest small)
    ∙ ap (option_map (λ (ps : List Put). (ps, rest))) (puts_written puts (length (spelled_puts puts)) files small (omega arith))

-- what is read as a record is spelled so
pub record_found : (text : Text) (puts : List Put) (rest : Text) → record_at text ≡ Some (puts, rest) → ((are_files puts ≡ true) × (length (spelled_puts puts) < 10 ^ 18)) × (text ≡ spelled_record puts ++ rest)
record_found text puts rest e =
    let row = went_on (netstring_at text) _ (puts, rest) e in
    let read = was_mapped (puts_of row.0.0) _ (puts, rest) row.2 in
    let split = netstring_read text row.0.0 row.0.1 row.1 in
    let found = puts_found (length row.0.0) row.0.0 read.0 read.1 in (
      (
        ap (λ (p : List Put × Text). are_files p.0) (sym read.2) ∙ found.0,
        subst (λ (l : Text). length l < 10 ^ 18) (found.1 ∙ ap (λ (p : List Put × Text). spelled_puts p.0) read.2) split.0,
      ),
      split.1 ∙ ap (λ (l : Text). ns l ++ row.0.1) found.1 ∙ ap (λ (p : List Put × Text). spelled_record p.0 ++ p.1) read.2,
    )

-- A row is read as exactly the records that it spells, if this holds for every single record.
use Rattle.std.proofs.Common.{◌≡◌, ◌↔◌, Bool, true, false, cond, ℕ, zero, suc, ◌+◌, ◌<◌, ◌≤◌, List, [], ◌∷◌, ◌++◌, length, Option, Some, None, refl, sym, ap, ap₂, ◌∙◌, arith, length-append, append_assoc, option_map, subst, take, get_or, append-nil, drop, ◌-◌}
use Rattle.std.specs.List.{flat_map}
use Rattle.std.specs.Option.{option_and_then}
use Rattle.ml_base.specs.Bytes.{Text}
use Rattle.ml_base.specs.Netstrings.{ns, netstring_at}
use Rattle.ml_base.specs.Splits.{ns_row, AreShort}
use Rattle.ml_base.proofs.Netstrings.{netstring_written, netstring_read}
use Rattle.ml_rows.specs.Rows.{onto, only_if, both_of, first_and_more, row_within, row_of, EachFrom, netstrings_at}
use Rattle.std.proofs.lemmas.Grind.{flat_map-append}
use Rattle.std.proofs.Math.Seq.{take-suc}
use Rattle.std.proofs.lemmas.List.{take_all}

module _ {A : Type 0} where
  pub one_some : (a b : A) → Some a ≡ Some b → a ≡ b
  one_some a b e = cc

  pub none_some : (a : A) → None ≡ Some a → ⊥
  none_some a e = cc

-- a thing that passes a test is there
module _ {A : Type 0} (test : A → Bool) where
  pub only_read : (o : Option A) (a : A) → only_if test o ≡ Some a → (o ≡ Some a) × (test a ≡ true)
  only_read None a e = absurd (none_some a e)
  only_read (Some x) a e = go (test x) refl
    where
      go : (t : Bool) → test x ≡ t → (Some x ≡ Some a) × (test a ≡ true)
      go true is = let same : Some x ≡ Some a = sym (ap (λ b. cond b (Some x) None) is) ∙ e in (same, ap test (sym (one_some x a same)) ∙ is)
      go false is = absurd (none_some a (sym (ap (λ b. cond b (Some x) None) is) ∙ e))

  pub only_there : (o : Option A) (a : A) → o ≡ Some a → test a ≡ true → only_if test o ≡ Some a
  only_there o a is passes = ap (only_if test) is ∙ ap (λ b. cond b (Some a) None) passes

-- a list after one more
module _ {A : Type 0} where
  pub onto_some : (a : A) (more : Option (List A)) (all : List A) → onto a more ≡ Some all → (es : List A) × (more ≡ Some es) × (all ≡ a ∷ es)
  onto_some a None all e = absurd (none_some all e)
  onto_some a (Some es) all e = (es, refl, sym (one_some (a ∷ es) all e))

abbrev pair_of : {A B : Type 0} → A → B → A × B
pair_of a b = (a, b)

-- both of two things are there exactly if each of them is
module _ {A B : Type 0} where
  pub both_read : (x : Option A) (y : Option B) (a : A) (b : B) → both_of x y ≡ Some (a, b) → (x ≡ Some a) × (y ≡ Some b)
  both_read None y a b e = absurd (none_some (pair_of a b) e)
  both_read (Some p) None a b e = absurd (none_some (pair_of a b) e)
  both_read (Some p) (Some q) a b e =
      let same = one_some (pair_of p q) (pair_of a b) e in (ap (λ (r : A × B). Some r.0) same, ap (λ (r : A × B). Some r.1) same)

  pub both_there : (x : Option A) (y : Option B) (a : A) (b : B) → x ≡ Some a → y ≡ Some b → both_of x y ≡ Some (a, b)
  both_there x y a b p q = ap₂ both_of p q

module _
    {A : Type 0} (record_at : ℕ → Text → Option (A × Text)) (spell : A → Text) (Is : ℕ → A → Type 0)
    (written : (k : ℕ) (a : A) (rest : Text) → Is k a → record_at k (spell a ++ rest) ≡ Some (a, rest))
    (read : (k : ℕ) (text : Text) (a : A) (rest : Text) → record_at k text ≡ Some (a, rest) → Is k a × (text ≡ spell a ++ rest))
    (some : (k : ℕ) (a : A) → Is k a → 0 < length (spell a)) where
  abbrev Found : Type 0
  Found = Option (A × Text)

  abbrev within : ℕ → ℕ → Text → Option (List A)
  within most k text = row_within record_at most k text

  -- a row that isn't empty begins with a record
  pub begins : (most k : ℕ) (text : Text) → 0 < length text → within (suc most) k text ≡ first_and_more record_at (within most (k + 1)) (record_at k text)
  begins most k [] lt = absurd (omega arith)
  begins most k (b ∷ bs) lt = refl

  -- what is read as a row is spelled so
  pub within_read : (most k : ℕ) (text : Text) (es : List A) → within most k text ≡ Some es → EachFrom Is k es × (text ≡ flat_map spell es)
  within_read most k [] [] e = (tt, refl)
  within_read most k [] (a ∷ es) e = absurd (let one = ap length (one_some [] (a ∷ es) e) in omega (arith, one))
  within_read zero k (b ∷ bs) es e = absurd (none_some es e)
  within_read (suc most) k (b ∷ bs) es e = go (record_at k (b ∷ bs)) refl (λ text more. within_read most (k + 1) text more)
    where
      go : (o : Found) → record_at k (b ∷ bs) ≡ o → ((text : Text) (more : List A) → within most (k + 1) text ≡ Some more → EachFrom Is (k + 1) more × (text ≡ flat_map spell more))
          → EachFrom Is k es × (b ∷ bs ≡ flat_map spell es)
      go None found later = absurd (none_some es (sym (ap (first_and_more record_at (within most (k + 1))) found) ∙ e))
      go (Some p) found later =
          let parts = onto_some p.0 (within most (k + 1) p.1) es (sym (ap (first_and_more record_at (within most (k + 1))) found) ∙ e) in
          let rest = later p.1 parts.0 parts.1 in
          let first = read k (b ∷ bs) p.0 p.1 found in
          let each : EachFrom Is k (p.0 ∷ parts.0) = (first.0, rest.0) in
          (subst (λ all. EachFrom Is k all) (sym parts.2) each, first.1 ∙ ap (λ t. spell p.0 ++ t) rest.1 ∙ sym (ap (flat_map spell) parts.2))

  -- what is spelled as a row is read so
  pub within_written : (most k : ℕ) (es : List A) → EachFrom Is k es → length (flat_map spell es) ≤ most → within most k (flat_map spell es) ≡ Some es
  within_written zero k [] each le = refl
  within_written (suc most) k [] each le = refl
  within_written zero k (a ∷ es) each le = absurd (let one = some k a each.0 in omega (arith, one, le, length-append (spell a) (flat_map spell es)))
  within_written (suc most) k (a ∷ es) each le =
      let one = some k a each.0 in
      let size = length-append (spell a) (flat_map spell es) in
      begins most k (spell a ++ flat_map spell es) (omega (arith, one, size))
      ∙ ap (first_and_more record_at (within most (k + 1))) (written k a (flat_map spell es) each.0)
      ∙ ap (onto a) (within_written most (k + 1) es each.1 (omega (arith, one, size, le)))

  pub row_read : (k : ℕ) (text : Text) (es : List A) → row_of record_at k text ≡ Some es → EachFrom Is k es × (text ≡ flat_map spell es)
  row_read k text es e = within_read (length text) k text es e

  pub row_written : (k : ℕ) (es : List A) → EachFrom Is k es → row_of record_at k (flat_map spell es) ≡ Some es
  row_written k es each = within_written (length (flat_map spell es)) k es each (omega arith)

  -- how many records are allowed doesn't matter if it is at least the number of bytes
  enough : (most other k : ℕ) (text : Text) → length text ≤ most → length text ≤ other → within most k text ≡ within other k text
  enough zero zero k text p q = refl
  enough (suc most) zero k [] p q = refl
  enough (suc most) zero k (b ∷ bs) p q = absurd (omega (arith, q))
  enough zero (suc other) k [] p q = refl
  enough zero (suc other) k (b ∷ bs) p q = absurd (omega (arith, p))
  enough (suc most) (suc other) k [] p q = refl
  enough (suc most) (suc other) k (b ∷ bs) p q = go (record_at k (b ∷ bs)) refl (λ text r s. enough most other (k + 1) text r s)
    where
      go : (o : Found) → record_at k (b ∷ bs) ≡ o → ((text : Text) → length text ≤ most → length text ≤ other → within most (k + 1) text ≡ within other (k + 1) text)
          → first_and_more record_at (within most (k + 1)) (record_at k (b ∷ bs)) ≡ first_and_more record_at (within other (k + 1)) (record_at k (b ∷ bs))
      go None found later = ap (first_and_more record_at (within most (k + 1))) found ∙ sym (ap (first_and_more record_at (within other (k + 1))) found)
      go (Some f) found later =
          let first = read k (b ∷ bs) f.0 f.1 found in
          let one = some k f.0 first.0 in
          let size = ap length first.1 ∙ length-append (spell f.0) f.1 in
          ap (first_and_more record_at (within most (k + 1))) found ∙ ap (onto f.0) (later f.1 (omega (arith, one, size, p)) (omega (arith, one, size, q)))
          ∙ sym (ap (first_and_more record_at (within other (k + 1))) found)

  -- a row goes on after its first record
  pub row_goes_on : (k : ℕ) (text : Text) (a : A) (rest : Text) → record_at k text ≡ Some (a, rest) → row_of record_at k text ≡ onto a (row_of record_at (k + 1) rest)
  row_goes_on k text a rest found =
      let first = read k text a rest found in
      let one = some k a first.0 in
      let size = ap length first.1 ∙ length-append (spell a) rest in
      enough (length text) (suc (length rest + length (spell a))) k text (omega arith) (omega (arith, size))
      ∙ begins (length rest + length (spell a)) k text (omega (arith, one, size))
      ∙ ap (first_and_more record_at (within (length rest + length (spell a)) (k + 1))) found
      ∙ ap (onto a) (enough (length rest + length (spell a)) (length rest) (k + 1) rest (omega arith) (omega arith))

-- netstrings are read as exactly the texts that they spell
abbrev found_texts : List Text → Text → Option (List Text × Text)
found_texts texts rest = Some (texts, rest)

pub netstrings_written : (texts : List Text) (rest : Text) → AreShort texts → netstrings_at (length texts) (ns_row texts ++ rest) ≡ Some (texts, rest)
netstrings_written [] rest short = refl
netstrings_written (x ∷ xs) rest short =
    ap (netstrings_at (suc (length xs))) (append_assoc (ns x) (ns_row xs) rest)
    ∙ ap (option_and_then (λ (first : Text × Text). option_map (λ (more : List Text × Text). (first.0 ∷ more.0, more.1)) (netstrings_at (length xs) first.1))) (netstring_written x (ns_row xs ++ rest) short.0)
    ∙ ap (option_map (λ (more : List Text × Text). (x ∷ more.0, more.1))) (netstrings_written xs rest short.1)

pub netstrings_read : (n : ℕ) (text : Text) (texts : List Text) (rest : Text) → netstrings_at n text ≡ Some (texts, rest) → (length texts ≡ n) × AreShort texts × (text ≡ ns_row texts ++ rest)
netstrings_read zero text texts rest e =
    let same = one_some (pair_of [] text) (pair_of texts rest) e in
    let none : [] ≡ texts = ap (λ (p : List Text × Text). p.0) same in
    (sym (ap length none), subst (λ ts. AreShort ts) none tt, ap (λ (p : List Text × Text). p.1) same ∙ ap (λ ts. ns_row ts ++ rest) none)
netstrings_read (suc n) text texts rest e = go (netstring_at text) refl (λ beyond more after found. netstrings_read n beyond more after found)
  where
    further : (x beyond : Text) → netstring_at text ≡ Some (x, beyond) → (o : Option (List Text × Text)) → netstrings_at n beyond ≡ o → option_map (λ (more : List Text × Text). (x ∷ more.0, more.1)) o ≡ found_texts texts rest
        → ((more : List Text) (after : Text) → netstrings_at n beyond ≡ Some (more, after) → (length more ≡ n) × AreShort more × (beyond ≡ ns_row more ++ after))
        → (length texts ≡ suc n) × AreShort texts × (text ≡ ns_row texts ++ rest)
    further x beyond front None found same later = absurd (none_some (pair_of texts rest) same)
    further x beyond front (Some p) found same later =
        let first = netstring_read text x beyond front in
        let more = later p.0 p.1 found in
        let all = one_some (pair_of (x ∷ p.0) p.1) (pair_of texts rest) same in
        let is : x ∷ p.0 ≡ texts = ap (λ (q : List Text × Text). q.0) all in
        let short : AreShort (x ∷ p.0) = (first.0, more.1) in
        let size : length (x ∷ p.0) ≡ suc n = ap suc more.0 in (
          sym (ap length is) ∙ size,
          subst (λ ts. AreShort ts) is short,
          first.1 ∙ ap (λ t. ns x ++ t) more.2 ∙ sym (append_assoc (ns x) (ns_row p.0) p.1) ∙ ap₂ (λ (ts : List Text) (t : Text). ns_row ts ++ t) is (ap (λ (q : List Text × Text). q.1) all),
        )

    go : (o : Option (Text × Text)) → netstring_at text ≡ o
        → ((beyond : Text) (more : List Text) (after : Text) → netstrings_at n beyond ≡ Some (more, after) → (length more ≡ n) × AreShort more × (beyond ≡ ns_row more ++ after))
        → (length texts ≡ suc n) × AreShort texts × (text ≡ ns_row texts ++ rest)
    go None front later = absurd (none_some (pair_of texts rest) (sym (ap (option_and_then (λ (first : Text × Text). option_map (λ (more : List Text × Text). (first.0 ∷ more.0, more.1)) (netstrings_at n first.1))) front) ∙ e))
    go (Some p) front later =
        further p.0 p.1 front (netstrings_at n p.1) refl
        (sym (ap (option_and_then (λ (first : Text × Text). option_map (λ (more : List Text × Text). (first.0 ∷ more.0, more.1)) (netstrings_at n first.1))) front) ∙ e)
        (later p.1)

pub netstrings_exact : (n : ℕ) (texts : List Text) (rest text : Text) → (netstrings_at n text ≡ Some (texts, rest)) ↔ ((length texts ≡ n) × AreShort texts × (text ≡ ns_row texts ++ rest))
netstrings_exact n texts rest text = (netstrings_read n text texts rest, λ is. ap₂ netstrings_at (sym is.0) is.2 ∙ netstrings_written texts rest is.1)

-- what is made of a thing is there exactly if the thing is
module _ {A B : Type 0} (make : A → B) where
  pub made_read : (o : Option A) (b : B) → option_map make o ≡ Some b → (a : A) × (o ≡ Some a) × (make a ≡ b)
  made_read None b e = absurd (none_some b e)
  made_read (Some a) b e = (a, refl, one_some (make a) b e)

-- the texts of a row of numbers, with one more number
pub one_more : (f : ℕ → Text) (ns : List ℕ) (i n : ℕ) (out new : Text) → i < length ns → n ≡ get_or ns i 0 → out ≡ flat_map f (take i ns) → new ≡ out ++ f n → new ≡ flat_map f (take (i + 1) ns)
one_more f ns i n out new low e before is =
    let one : i + 1 ≡ suc i = omega arith in
    is ∙ ap₂ (λ a b. a ++ b) before (ap f e) ∙ ap (λ t. flat_map f (take i ns) ++ t) (sym (append-nil (f (get_or ns i 0)))) ∙ sym (flat_map-append f (take i ns) (get_or ns i 0 ∷ []))
    ∙ ap (flat_map f) (sym (take-suc ns i 0 low)) ∙ ap (λ (k : ℕ). flat_map f (take k ns)) (sym one)

-- the first of a row, and what follows it
pub first_of : {A : Type 0} (xs : List A) (a : A) → 1 ≤ length xs → a ≡ get_or xs 0 a → xs ≡ a ∷ take (length xs - 1) (drop 1 xs)
first_of [] a some is = absurd (omega arith)
first_of (x ∷ xs) a some is = ap₂ (λ y (ys : List _). y ∷ ys) (sym is) (sym (take_all (length (x ∷ xs) - 1) xs (omega arith)))

pub four : (a b c d x y z w : Text) → a ≡ x → b ≡ y → c ≡ z → d ≡ w → a ∷ b ∷ c ∷ d ∷ [] ≡ x ∷ y ∷ z ∷ w ∷ []
four a b c d x y z w p q r s = λ i. p i ∷ q i ∷ r i ∷ s i ∷ []

-- No two names of the table have one path.
use Rattle.std.proofs.Common.{◌≡◌, ℕ, zero, suc, ◌+◌, ◌/◌, ◌%◌, ◌<◌, ◌≤◌, ◌^◌, Bool, true, false, ◌==◌, ◌||◌, ◌&&◌, subst, if◌then◌else◌, IsTrue, nat_le, [], ◌∷◌, ◌++◌, length, get_or, drop, codes, Option, Some, None, refl, sym, ap, ap₂, ◌∙◌, arith}
use Rattle.std.specs.Char.{is_ascii_digit}
use Rattle.std.specs.Fmt.{decimal}
use Rattle.std.specs.Str.{all_ascii_digits}
use Rattle.std.proofs.lemmas.Bool.{eqb-true, eqb-false, leb-true}
use Rattle.std.proofs.lemmas.Bool.Decides.{nat_tests}
use Rattle.std.proofs.lemmas.Fmt.{decimal_injective}
use Rattle.std.proofs.lemmas.List.{append_cancel_left}
use Rattle.ml_base.specs.Address.{before_at, past_at}
use Rattle.ml_base.specs.Bytes.{Text}
use Rattle.ml_base.specs.Name.{is_in_table, first_place, last_place, path_of, folder_of, leaf_of, two_digits, count_word}
use Rattle.ml_base.specs.Splits.{has_byte, split_first}
use Rattle.ml_base.specs.declared.names.Name.{Name}
use Rattle.ml_base.proofs.SplitLaws.{first_written}
use Rattle.ml_base.proofs.Bools.{both}
use Rattle.ml_base.proofs.NumberLaws.{all_digits}
use Rattle.ml_base.proofs.Cuts.{two}

-- the kind of a file in the archive, by what follows the first slash
abbrev archive_kind : Option (Text × Text) → ℕ
archive_kind None = 22
archive_kind (Some parts) = if length parts.1 == 2 then 9 else (if length parts.1 == 3 then 20 else 10)

abbrev kind_a : Text → ℕ
kind_a text = if get_or text 1 0 == 108 then 5 else archive_kind (split_first 47 (drop 8 text))

abbrev kind_d : Text → ℕ
kind_d text =
    if get_or text 1 0 == 101 then 6
    else (if get_or text 1 0 == 111 then 19
    else (if get_or text 7 0 == 115 then 4
    else (if get_or text 7 0 == 98 then 16 else 12)))

-- the kind of a file, by the beginning of its path
abbrev kind_of : Text → ℕ
kind_of text =
    let first = get_or text 0 0 in
    if first == 108 then 0
    else (if first == 99 then (if get_or text 2 0 == 110 then 1 else 8)
    else (if first == 107 then 2
    else (if first == 115 then 3
    else (if first == 97 then kind_a text
    else (if first == 100 then kind_d text
    else (if first == 109 then 7
    else (if first == 110 then 11
    else (if first == 112 then 13
    else (if first == 116 then 14
    else (if first == 98 then 15
    else (if first == 113 then 17
    else (if first == 105 then 18 else 21))))))))))))

abbrev name_of : ℕ → ℕ → Name
name_of kind at = record { kind = kind; at = at }

-- the path shows the kind and the place
record IsTold (kind : ℕ) : Type 0 where
  by_front : (at : ℕ) → at ≤ last_place kind → kind_of (path_of (name_of kind at)) ≡ kind
  by_leaf : (x y : ℕ) → x ≤ last_place kind → y ≤ last_place kind → leaf_of kind x ≡ leaf_of kind y → x ≡ y

-- a property holds of so many numbers, from one on
Each : (ℕ → Type 0) → ℕ → ℕ → Type 0
Each P from zero = Unit {0}
Each P from (suc count) = P from × Each P (suc from) count

each_is : (P : ℕ → Type 0) (from count n : ℕ) → Each P from count → from ≤ n → n < from + count → P n
unfolding Each
each_is P from zero n all above below = absurd (omega arith)
each_is P from (suc count) n all above below = go (n == from) refl (λ later. each_is P (suc from) count n all.1 later (omega arith))
  where
    go : (t : Bool) → (n == from) ≡ t → (suc from ≤ n → P n) → P n
    go true is more = subst P (sym (eqb-true n from is)) all.0
    go false is more = let apart = eqb-false n from is in more (omega arith)

slashless : (bytes : Text) → all_ascii_digits bytes ≡ true → has_byte 47 bytes ≡ false
slashless [] e = refl
slashless (b ∷ bs) e = let parts = both (is_ascii_digit b) (all_ascii_digits bs) e in ap₂ (λ s t. s || t) (digit b parts.0) (slashless bs parts.1)
  where
    digit : (b : ℕ) → is_ascii_digit b ≡ true → (b == 47) ≡ false
    digit b h = grind (arith, nat_tests)

-- a number followed by a slash is split there
cut : (n : ℕ) (rest : Text) → n < 2 ^ 64 → split_first 47 (decimal n ++ 47 ∷ rest) ≡ Some (decimal n, rest)
cut n rest small = first_written 47 (decimal n) rest (slashless (decimal n) (all_digits n small))

numbers : (x y : ℕ) (v w : Text) → x < 2 ^ 64 → y < 2 ^ 64 → decimal x ++ 47 ∷ v ≡ decimal y ++ 47 ∷ w → (x ≡ y) × (v ≡ w)
numbers x y v w p q e =
    let both : two (decimal x) v ≡ two (decimal y) w = sym (cut x v p) ∙ ap (split_first 47) e ∙ cut y w q in
    (decimal_injective x y p q (ap before_at both), ap past_at both)

bucket : (x y : ℕ) → (64 + x) ∷ [] ≡ (64 + y) ∷ [] → x ≡ y
bucket x y e = let first = ap (λ t. get_or t 0 0) e in omega (arith, first)

post : (x y : ℕ) → x ≤ 99_999_999 → y ≤ 99_999_999 → leaf_of 9 x ≡ leaf_of 9 y → x ≡ y
post x y p q e =
    let parts = numbers (x / 100) (y / 100) (two_digits (x % 100)) (two_digits (y % 100)) (omega arith) (omega arith) e in
    let tens = ap (λ t. get_or t 0 0) parts.1 in
    let ones = ap (λ t. get_or t 1 0) parts.1 in
    omega (arith, parts.0, tens, ones)

thread : (x y : ℕ) → leaf_of 20 x ≡ leaf_of 20 y → x ≡ y
thread x y e =
    let hundreds = ap (λ t. get_or t 0 0) e in
    let tens = ap (λ t. get_or t 1 0) e in
    let ones = ap (λ t. get_or t 2 0) e in
    omega (arith, hundreds, tens, ones)

-- the number of a set, by its word
abbrev set_of_word : Text → ℕ
set_of_word word =
    if get_or word 0 0 == 108 then 0
    else (if get_or word 1 0 == 105 then 1
    else (if get_or word 0 0 == 97 then 2
    else (if get_or word 0 0 == 100 then 3 else 4)))

IsWord : ℕ → Type 0
IsWord at = set_of_word (count_word at) ≡ at

word : (at : ℕ) → at ≤ 4 → set_of_word (count_word at) ≡ at
unfolding Each IsWord
word at below = each_is IsWord 0 5 at (refl, (refl, (refl, (refl, (refl, tt))))) (omega arith) (omega arith)

one_set : (x y : ℕ) → x ≤ 4 → y ≤ 4 → count_word x ≡ count_word y → x ≡ y
one_set x y p q e = sym (word x p) ∙ ap set_of_word e ∙ word y q

told_0 : IsTold 0
told_0 = record { by_front = λ at below. refl; by_leaf = λ x y p q e. omega (arith, p, q) }

told_1 : IsTold 1
told_1 = record { by_front = λ at below. refl; by_leaf = λ x y p q e. omega (arith, p, q) }

told_2 : IsTold 2
told_2 = record { by_front = λ at below. refl; by_leaf = λ x y p q e. omega (arith, p, q) }

told_3 : IsTold 3
told_3 = record { by_front = λ at below. refl; by_leaf = λ x y p q e. bucket x y e }

told_4 : IsTold 4
told_4 = record { by_front = λ at below. refl; by_leaf = λ x y p q e. bucket x y e }

told_5 : IsTold 5
told_5 = record { by_front = λ at below. refl; by_leaf = λ x y p q e. bucket x y e }

told_6 : IsTold 6
told_6 = record { by_front = λ at below. refl; by_leaf = λ x y p q e. bucket x y e }

told_7 : IsTold 7
told_7 = record { by_front = λ at below. refl; by_leaf = λ x y p q e. bucket x y e }

told_8 : IsTold 8
told_8 = record { by_front = λ at below. refl; by_leaf = λ x y p q e. one_set x y p q e }

told_9 : IsTold 9
told_9 = record { by_front = λ at below. ap archive_kind (cut (at / 100) (two_digits (at % 100)) (omega (arith, below))); by_leaf = λ x y p q e. post x y p q e }

told_10 : IsTold 10
told_10 = record { by_front = λ at below. ap archive_kind (cut at (codes "index") (omega (arith, below))); by_leaf = λ x y p q e. (numbers x y (codes "index") (codes "index") (omega (arith, p)) (omega (arith, q)) e).0 }

told_11 : IsTold 11
told_11 = record { by_front = λ at below. refl; by_leaf = λ x y p q e. omega (arith, p, q) }

told_12 : IsTold 12
told_12 = record { by_front = λ at below. refl; by_leaf = λ x y p q e. omega (arith, p, q) }

told_13 : IsTold 13
told_13 = record { by_front = λ at below. refl; by_leaf = λ x y p q e. decimal_injective x y (omega (arith, p)) (omega (arith, q)) e }

told_14 : IsTold 14
told_14 = record { by_front = λ at below. refl; by_leaf = λ x y p q e. omega (arith, p, q) }

told_15 : IsTold 15
told_15 = record { by_front = λ at below. refl; by_leaf = λ x y p q e. bucket x y e }

told_16 : IsTold 16
told_16 = record { by_front = λ at below. refl; by_leaf = λ x y p q e. bucket x y e }

told_17 : IsTold 17
told_17 = record { by_front = λ at below. refl; by_leaf = λ x y p q e. decimal_injective x y (omega (arith, p)) (omega (arith, q)) e }

told_18 : IsTold 18
told_18 = record { by_front = λ at below. refl; by_leaf = λ x y p q e. omega (arith, p, q) }

told_19 : IsTold 19
told_19 = record { by_front = λ at below. refl; by_leaf = λ x y p q e. decimal_injective x y (omega (arith, p)) (omega (arith, q)) e }

told_20 : IsTold 20
told_20 = record { by_front = λ at below. refl; by_leaf = λ x y p q e. thread x y e }

told_21 : IsTold 21
told_21 = record { by_front = λ at below. refl; by_leaf = λ x y p q e. omega (arith, p, q) }

all_told : Each IsTold 0 22
unfolding Each
all_told = (told_0, (told_1, (told_2, (told_3, (told_4, (told_5, (told_6, (told_7, (told_8, (told_9, (told_10, (told_11, (told_12, (told_13, (told_14, (told_15, (told_16, (told_17, (told_18, (told_19, (told_20, (told_21, tt))))))))))))))))))))))

-- a name of the table has a kind up to 21 and a place up to the kind's last
in_range : (name : Name) → IsTrue (is_in_table name) → (name.kind ≤ 21) × (name.at ≤ last_place name.kind)
in_range name h =
    let outer = both (nat_le name.kind 21 && nat_le (first_place name.kind) name.at) (nat_le name.at (last_place name.kind)) h in
    let inner = both (nat_le name.kind 21) (nat_le (first_place name.kind) name.at) outer.0 in
    (leb-true name.kind 21 inner.0, leb-true name.at (last_place name.kind) outer.1)

one_place : (kind x y : ℕ) → kind ≤ 21 → x ≤ last_place kind → y ≤ last_place kind → path_of (name_of kind x) ≡ path_of (name_of kind y) → x ≡ y
one_place kind x y k p q e = (each_is IsTold 0 22 kind all_told (omega arith) (omega arith)).by_leaf x y p q (append_cancel_left (folder_of kind) (leaf_of kind x) (leaf_of kind y) e)

-- no two names of the table have the same path
pub one_path : (a b : Name) → IsTrue (is_in_table a) → IsTrue (is_in_table b) → path_of a ≡ path_of b → a ≡ b
one_path a b p q e =
    let r = in_range a p in
    let s = in_range b q in
    let one : a.kind ≡ b.kind = sym ((each_is IsTold 0 22 a.kind all_told (omega arith) (omega (arith, r.0))).by_front a.at r.1) ∙ ap kind_of e ∙ (each_is IsTold 0 22 b.kind all_told (omega arith) (omega (arith, s.0))).by_front b.at s.1 in
    let below : b.at ≤ last_place a.kind = subst (λ k. b.at ≤ last_place k) (sym one) s.1 in
    let there : path_of (name_of a.kind a.at) ≡ path_of (name_of a.kind b.at) = e ∙ ap (λ k. path_of (name_of k b.at)) (sym one) in
    ap₂ name_of one (one_place a.kind a.at b.at r.0 r.1 below there)

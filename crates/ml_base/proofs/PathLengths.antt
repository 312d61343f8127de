-- A path of the table has at most 38 bytes.
use Rattle.std.proofs.Common.{◌≡◌, ℕ, ◌/◌, ◌%◌, ◌^◌, ◌≤◌, ◌==◌, ◌&&◌, nat_le, Bool, true, false, ◌∷◌, ◌++◌, length, codes, subst, sym, inl, inr, arith, length-append}
use Rattle.std.proofs.lemmas.Bool.Decides.{eqb_tells, nat_tests}
use Rattle.std.proofs.lemmas.Fmt.{length-decimal-le}
use Rattle.std.specs.Fmt.{decimal}
use Rattle.ml_base.specs.Name.{folder_of, leaf_of, single_path, count_word, two_digits, first_place, last_place, is_in_table, path_of}
use Rattle.ml_base.specs.declared.names.Name.{Name}

folder_short : (kind : ℕ) → length (folder_of kind) ≤ 19
folder_short kind = grind arith

single_short : (kind : ℕ) → length (single_path kind) ≤ 7
single_short kind = grind arith

count_short : (at : ℕ) → length (count_word at) ≤ 6
count_short at = grind arith

-- a number up to 10 ^ 15 has at most 16 digits
digits_short : (n : ℕ) → n ≤ 10 ^ 15 → length (decimal n) ≤ 16
digits_short n small = length-decimal-le 16 n (omega arith) (omega arith) (omega arith)

-- the last part of a post's path: the group, a slash and two digits
post_short : (at : ℕ) → at ≤ 10 ^ 15 → length (decimal (at / 100) ++ 47 ∷ two_digits (at % 100)) ≤ 19
post_short at small = omega (arith, length-append (decimal (at / 100)) (47 ∷ two_digits (at % 100)), digits_short (at / 100) (omega arith))

index_short : (at : ℕ) → at ≤ 10 ^ 15 → length (codes "archive/" ++ (decimal at ++ codes "/index")) ≤ 38
index_short at small = omega (arith, length-append (codes "archive/") (decimal at ++ codes "/index"), length-append (decimal at) (codes "/index"), digits_short at small)

-- the last part of a path other than an index's
leaf_short : (kind at : ℕ) → at ≤ 10 ^ 15 → (kind == 10) ≡ false → length (leaf_of kind at) ≤ 19
leaf_short kind at small other = grind (arith, post_short at small, digits_short at small, count_short at, single_short kind)

-- a path whose place is up to 10 ^ 15
path_short : (kind at : ℕ) → at ≤ 10 ^ 15 → length (folder_of kind ++ leaf_of kind at) ≤ 38
path_short kind at small =
    elim (eqb_tells kind 10) [
      | inl h ↦ subst (λ k. length (folder_of k ++ leaf_of k at) ≤ 38) (sym h.1) (index_short at small)
      | inr h ↦ omega (arith, length-append (folder_of kind) (leaf_of kind at), folder_short kind, leaf_short kind at small h.0)
    ]

-- no place of the table is above 10 ^ 15
place_small : (kind : ℕ) → last_place kind ≤ 10 ^ 15
place_small kind = grind arith

last_of : (a b : Bool) (m n : ℕ) → (a && b && nat_le m n) ≡ true → m ≤ n
last_of a b m n e = grind (arith, nat_tests)

-- the path of a name of the table
pub path_of_short : (name : Name) → is_in_table name ≡ true → length (path_of name) ≤ 38
path_of_short name table =
    let last = last_of (nat_le name.kind 21) (nat_le (first_place name.kind) name.at) name.at (last_place name.kind) table in
    path_short name.kind name.at (omega (arith, last, place_small name.kind))

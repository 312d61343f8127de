-- What the first puts of a list leave in every file.
use Rattle.std.proofs.Common.{◌≡◌, ◌∙◌, ℕ, ◌+◌, ◌==◌, Bool, true, false, cond, nat_le, List, [], ◌∷◌, ◌++◌, map, Option, None, refl, sym, ap, subst, arith}
use Rattle.std.proofs.lemmas.Bool.{eqb-true}
use Rattle.std.proofs.lemmas.Bool.Decides.{nat_tests}
use Rattle.std.proofs.lemmas.List.{append_assoc}
use Rattle.std.proofs.lemmas.List.FromFn.{map-range_with_len_more}
use Rattle.std.specs.List.{range_with_len}
use Rattle.ml_base.specs.Bytes.{Text}
use Rattle.std.specs.Prelude.{IsTrue}
use Rattle.ml_base.specs.Dir.{Dir, are_files, laid_by, newest_put, with_puts}
use Rattle.ml_base.proofs.Laid.{newest_decides}
use Rattle.ml_base.specs.declared.names.Name.{Name}
use Rattle.ml_base.specs.declared.puts.Put.{Put}
use Rattle.ml_config.specs.FirstFiles.{empty_count, first_files, first_puts, no_files}
use Rattle.ml_config.specs.declared.configuration.Config.{Config}

pub one_count_more : (old txn before : List Put) (set : ℕ) → before ≡ old ++ map empty_count (range_with_len 0 set) → txn ≡ before ++ empty_count set ∷ []
    → txn ≡ old ++ map empty_count (range_with_len 0 (set + 1))
one_count_more old txn before set e f =
    f ∙ ap (λ t. t ++ empty_count set ∷ []) e ∙ append_assoc old _ _ ∙ ap (λ t. old ++ t) (sym (map-range_with_len_more empty_count 0 set set (omega arith)))

-- a number is one of those that are named, or another
case_of : (n k : ℕ) (P : ℕ → Type 0) → P n → ((k == n) ≡ false → P k) → P k
case_of n k P here otherwise = go (k == n) refl
  where
    go : (t : Bool) → (k == n) ≡ t → P k
    go true e = subst P (sym (eqb-true k n e)) here
    go false e = otherwise e

abbrev at_most_four : ℕ → Option Text → Option Text
at_most_four a z = cond (a == 4) z (cond (a == 3) z (cond (a == 2) z (cond (a == 1) z (cond (a == 0) z None))))

above_four : (a : ℕ) → (a == 4) ≡ false → (a == 3) ≡ false → (a == 2) ≡ false → (a == 1) ≡ false → (a == 0) ≡ false → nat_le a 4 ≡ false
above_four a p q r s t = grind (arith, nat_tests)

five_counts : (a : ℕ) (z : Option Text) → at_most_four a z ≡ cond (nat_le a 4) z None
five_counts a z =
    let P : ℕ → Type 0 = λ n. at_most_four n z ≡ cond (nat_le n 4) z None in
    case_of 4 a P refl (λ p. case_of 3 a P refl (λ q. case_of 2 a P refl (λ r. case_of 1 a P refl (λ s. case_of 0 a P refl (λ t.
    rw (p, q, r, s, t, above_four a p q r s t) refl)))))

module _ (c : Config) (key : Text) (a : ℕ) where
  abbrev Agrees : ℕ → Type 0
  Agrees k = with_puts no_files (first_puts c key) (record { kind = k; at = a }) ≡ first_files c key (record { kind = k; at = a })

  by_kind : (k : ℕ) → Agrees k
  unfolding first_puts
  by_kind k =
      case_of 1 k Agrees refl (λ p. case_of 2 k Agrees refl (λ q. case_of 8 k Agrees (five_counts a _) (λ r. case_of 11 k Agrees refl (λ s.
      case_of 12 k Agrees refl (λ t. case_of 14 k Agrees refl (λ u. case_of 18 k Agrees refl (λ v. rw (p, q, r, s, t, u, v) refl)))))))

pub files_agree : (c : Config) (key : Text) (name : Name) → with_puts no_files (first_puts c key) name ≡ first_files c key name
files_agree c key name = by_kind c key name.at name.kind

-- the same in any directory, for a file that it doesn't have
pub files_over : (c : Config) (key : Text) (dir : Dir) (name : Name) → dir name ≡ None → with_puts dir (first_puts c key) name ≡ first_files c key name
files_over c key dir name absent =
    newest_decides (first_puts c key) name dir ∙ ap (laid_by (newest_put (first_puts c key) name)) absent
    ∙ sym (newest_decides (first_puts c key) name no_files) ∙ files_agree c key name

pub puts_are_files : (c : Config) (key : Text) → IsTrue (are_files (first_puts c key))
unfolding first_puts
puts_are_files c key = refl

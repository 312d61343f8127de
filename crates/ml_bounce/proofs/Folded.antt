-- Capital letters: a text that was made lower case has none.
use Rattle.std.proofs.Common.{◌≡◌, ℕ, false, [], ◌∷◌, refl, arith}
use Rattle.std.proofs.lemmas.Bool.Decides.{nat_tests}
use Rattle.std.proofs.lemmas.Bool.{or_from}
use Rattle.std.specs.List.{list_any}
use Rattle.std.specs.Char.{is_ascii_uppercase, to_ascii_lowercase}
use Rattle.ml_base.specs.Bytes.{Text, lower}

lowered : (b : ℕ) → is_ascii_uppercase (to_ascii_lowercase b) ≡ false
lowered b = grind (arith, nat_tests)

-- a text in lower case has no capital letter
pub none_capital : (bs : Text) → list_any is_ascii_uppercase (lower bs) ≡ false
none_capital [] = refl
none_capital (b ∷ bs) = or_from _ _ (lowered b) (none_capital bs)

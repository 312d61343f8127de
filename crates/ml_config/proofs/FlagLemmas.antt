-- A command to which a flag is added for every letter of a table has these flags.
use Rattle.std.proofs.Common.{◌≡◌, ◌∙◌, ℕ, ◌+◌, ◌<◌, Bool, true, false, List, [], ◌∷◌, length, take, map, refl, sym, ap₂, slice_index_or, Bor}
use Rattle.std.specs.List.{fold, list_all}
use Rattle.std.proofs.lemmas.List.Folds.{fold-map, list_all_at}
use Rattle.std.proofs.lemmas.List.Sums.{fold_more}
use Rattle.std.proofs.lemmas.Slice.Eq.{bytes_eq-Decides}
use Rattle.clap.specs.Words.{App, Rule, Text, with_rule}
use Rattle.ml_config.specs.Make.{letter_rule}
use Rattle.ml_config.specs.Flags.{flag_rule, is_named}

abbrev Table : Type 0
Table = List (Bor Text × ℕ)

pub named_at : (table : Table) (i : ℕ) (d : Bor Text × ℕ) → i < length table → list_all is_named table ≡ true
    → (slice_index_or table i d).0.now ≡ (slice_index_or table i d).1 ∷ []
named_at table i d lt all = go (is_named (slice_index_or table i d)) refl
  where
    go : (t : Bool) → is_named (slice_index_or table i d) ≡ t → (slice_index_or table i d).0.now ≡ (slice_index_or table i d).1 ∷ []
    go true e = (bytes_eq-Decides _ _).0 e
    go false e = absurd (let bad : true ≡ false = sym all ∙ list_all_at is_named table i d lt e in cc)

pub one_more : (a old new : App) (r : Rule) (table : Table) (i : ℕ) (d : Bor Text × ℕ) → i < length table
    → old ≡ fold with_rule a (map flag_rule (take i table)) → new ≡ with_rule old r → r ≡ letter_rule (slice_index_or table i d).1
    → new ≡ fold with_rule a (map flag_rule (take (i + 1) table))
one_more a old new r table i d lt before added rule =
    let step : App → (Bor Text × ℕ) → App = λ b x. with_rule b (flag_rule x) in
    added ∙ ap₂ with_rule (before ∙ fold-map with_rule flag_rule a (take i table)) rule
    ∙ sym (fold_more step a table i d lt) ∙ sym (fold-map with_rule flag_rule a (take (i + 1) table))

-- Flags of one letter, from a table of names and letters.
use Rattle.std.specs.Prelude.{ℕ, Bool, [], ◌∷◌}
use Rattle.std.specs.Str.{bytes_eq}
use denote.Ref.{Bor}
use Rattle.clap.specs.Words.{Rule, Text}
use Rattle.ml_config.specs.Make.{letter_rule}

-- whether the name is the letter
abbrev pub is_named : (Bor Text × ℕ) → Bool
is_named flag = bytes_eq flag.0.now (flag.1 ∷ [])

-- the flag's rule
abbrev pub flag_rule : (Bor Text × ℕ) → Rule
flag_rule flag = letter_rule flag.1

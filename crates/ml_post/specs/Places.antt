-- The byte before a place of a text.
use Rattle.std.specs.Prelude.{ℕ, zero, suc, [], ◌∷◌, Option, Some}
use Rattle.ml_base.specs.Bytes.{Text}

-- the byte before a place of a text, given the byte in front of the text
abbrev pub byte_before : Option ℕ → Text → ℕ → Option ℕ
byte_before before text zero = before
byte_before before [] (suc at) = before
byte_before before (b ∷ bs) (suc at) = byte_before (Some b) bs at

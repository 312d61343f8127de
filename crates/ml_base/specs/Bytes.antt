-- Byte strings: names for bytes that are used often, lower case, and the split at the last place of a byte.
use Rattle.std.specs.Prelude.{ℕ, Bool, true, false, ◌==◌, List, [], ◌∷◌, Option, Some, None}
use Rattle.std.specs.Str.{str_to_ascii_lowercase}

abbrev pub Text : Type 0
Text = List ℕ

-- bytes by their names
abbrev pub nul : ℕ
nul = 0

abbrev pub tab : ℕ
tab = 9

abbrev pub line_feed : ℕ
line_feed = 10

abbrev pub carriage_return : ℕ
carriage_return = 13

abbrev pub space : ℕ
space = 32

abbrev pub comma : ℕ
comma = 44

abbrev pub hyphen : ℕ
hyphen = 45

abbrev pub colon : ℕ
colon = 58

abbrev pub greater_than : ℕ
greater_than = 62

abbrev pub at_sign : ℕ
at_sign = 64

-- the bytes with ASCII's capital letters in lower case
abbrev pub lower : Text → Text
lower text = str_to_ascii_lowercase text

abbrev pub is_empty : {X : Type 0} → List X → Bool
is_empty [] = true
is_empty (x ∷ xs) = false

-- a text's split from the split of what follows its first byte; if that has none, the text may be split at its first byte
abbrev pub onto_split : ℕ → Bool → Text → Option (Text × Text) → Option (Text × Text)
onto_split x is rest (Some parts) = Some (x ∷ parts.0, parts.1)
onto_split x true rest None = Some ([], rest)
onto_split x false rest None = None

-- the parts before and after the last place of a byte, or None if it isn't there
abbrev pub split_last : ℕ → Text → Option (Text × Text)
split_last byte [] = None
split_last byte (x ∷ xs) = onto_split x (x == byte) xs (split_last byte xs)

-- the zero byte, which separates the records of some files
abbrev pub is_nul : ℕ → Bool
is_nul b = b == nul

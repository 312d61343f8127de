-- How a text is split: at a byte, and into lines.
use Rattle.std.specs.Prelude.{◌≡◌, ℕ, ◌<◌, ◌^◌, Bool, false, ◌==◌, List, [], ◌∷◌, ◌++◌, length, Option, Some, None, if◌then◌else◌}
use Rattle.std.specs.List.{list_any, AllByRecursion}
use Rattle.ml_base.specs.Bytes.{Text, line_feed, nul}
use Rattle.ml_base.specs.Netstrings.{ns}

-- whether a text has a byte
abbrev pub has_byte : ℕ → Text → Bool
has_byte byte text = list_any (λ b. b == byte) text

-- the parts with a byte put before the first of them
abbrev pub onto_first : ℕ → Option (Text × Text) → Option (Text × Text)
onto_first x None = None
onto_first x (Some parts) = Some (x ∷ parts.0, parts.1)

-- the parts before and after the first place of a byte, or None if it isn't there
abbrev pub split_first : ℕ → Text → Option (Text × Text)
split_first byte [] = None
split_first byte (x ∷ xs) = if x == byte then Some ([], xs) else onto_first x (split_first byte xs)

-- the lines with a byte put before the first of them
abbrev pub onto_line : ℕ → List Text → List Text
onto_line b [] = (b ∷ []) ∷ []
onto_line b (line ∷ more) = (b ∷ line) ∷ more

-- the lines of a text: each ends after its LF, and the last where the text ends
abbrev pub lines : Text → List Text
lines [] = []
lines (b ∷ bs) = if b == line_feed then (b ∷ []) ∷ lines bs else onto_line b (lines bs)

-- texts in a row, each followed by a NUL
abbrev pub nul_row : List Text → Text
nul_row [] = []
nul_row (text ∷ texts) = text ++ nul ∷ nul_row texts

-- none of the texts has a NUL
abbrev pub HaveNoNul : List Text → Type 0
HaveNoNul texts = AllByRecursion (λ text. has_byte 0 text ≡ false) texts

-- every text is short enough for a netstring
abbrev pub AreShort : List Text → Type 0
AreShort texts = AllByRecursion (λ text. length text < 10 ^ 18) texts

-- the netstrings of texts in a row
abbrev pub ns_row : List Text → Text
ns_row [] = []
ns_row (text ∷ texts) = ns text ++ ns_row texts

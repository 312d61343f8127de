-- Texts of values: addresses, a number on a line of its own, and numbers joined by commas.
use Rattle.std.specs.Prelude.{ℕ, ◌==◌, ◌&&◌, is_ok, List, [], ◌∷◌, ◌++◌, Option, Some, None, if◌then◌else◌}
use Rattle.std.specs.List.{join_by}
use Rattle.std.specs.Option.{option_and_then}
use Rattle.std.specs.Fmt.{decimal}
use Rattle.std.specs.Str.{bytes_eq}
use Rattle.ml_base.specs.Address.{address_check, as_address}
use Rattle.ml_base.specs.Bytes.{Text, is_empty, comma, line_feed}
use Rattle.ml_base.specs.Numbers.{number_within}
use Rattle.ml_base.specs.Splits.{split_first, onto_line}
use Rattle.ml_rows.specs.Rows.{onto}

-- the address that a text is, with its host in lower case
abbrev pub address_in : Text → Option Text
address_in text = if is_ok (address_check text) && bytes_eq (as_address text) text then Some text else None

-- a number in decimal, and LF
abbrev pub number_line : ℕ → Text
number_line n = decimal n ++ line_feed ∷ []

-- the number up to a limit that a text spells, with an LF after it that ends the text
abbrev pub line_number : ℕ → Text → Option ℕ
line_number limit text = option_and_then (λ parts. if is_empty parts.1 then number_within limit parts.0 else None) (split_first line_feed text)

-- numbers in decimal, joined by commas
abbrev pub comma_text : List ℕ → Text
comma_text numbers = join_by decimal (comma ∷ []) numbers

-- the texts before, between and after all places of a byte: one more than there are places
abbrev pub split_all : ℕ → Text → List Text
split_all byte [] = [] ∷ []
split_all byte (b ∷ bs) = if b == byte then [] ∷ split_all byte bs else onto_line b (split_all byte bs)

-- the numbers up to a limit that texts spell, one each
abbrev pub all_numbers : ℕ → List Text → Option (List ℕ)
all_numbers limit [] = Some []
all_numbers limit (text ∷ texts) = option_and_then (λ n. onto n (all_numbers limit texts)) (number_within limit text)

-- the numbers up to a limit that a text spells with commas between them; an empty text has none
abbrev pub comma_numbers : ℕ → Text → Option (List ℕ)
comma_numbers limit [] = Some []
comma_numbers limit (b ∷ bs) = all_numbers limit (split_all 44 (b ∷ bs))

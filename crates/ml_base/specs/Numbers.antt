-- Numbers in decimal, each with one spelling.
use Rattle.std.specs.Prelude.{ℕ, suc, ◌+◌, ◌-◌, ◌*◌, Bool, true, false, not, ◌&&◌, ◌==◌, nat_le, [], ◌∷◌, Option, Some, None, if◌then◌else◌}
use Rattle.std.specs.Char.{is_ascii_digit}
use Rattle.ml_base.specs.Bytes.{Text}

-- Whether a byte is a digit that continues a number with so many digits and this value so far, and keeps it within a limit.
-- No digit follows a leading zero.
abbrev pub is_next_digit : ℕ → ℕ → ℕ → ℕ → Bool
is_next_digit limit count n b = is_ascii_digit b && not (count == 1 && n == 0) && nat_le (10 * n + (b - 48)) limit

-- the number up to the limit that a text spells after so many digits of this value
abbrev pub digits_from : ℕ → ℕ → ℕ → Text → Option ℕ
digits_from limit count n [] = if count == 0 then None else Some n
digits_from limit count n (b ∷ bs) =
    elim (is_next_digit limit count n b) [ true ↦ digits_from limit (suc count) (10 * n + (b - 48)) bs | false ↦ None ]

-- the number up to the limit that a text spells in decimal
abbrev pub number_within : ℕ → Text → Option ℕ
number_within limit text = digits_from limit 0 0 text

-- the moment that a text spells in decimal: seconds since 1970, before the year 10000
abbrev pub moment_in : Text → Option ℕ
moment_in text = number_within 253_402_300_799 text

-- the number that `0`, or 1 to 18 digits without a leading zero, spell
abbrev pub number_of : Text → Option ℕ
number_of text = number_within 999_999_999_999_999_999 text

-- Netstrings: the length of a content in decimal, a colon, the content and a comma.
use Rattle.std.specs.Prelude.{ℕ, suc, ◌+◌, ◌-◌, ◌*◌, true, false, ◌==◌, nat_lt, [], ◌∷◌, ◌++◌, length, take, drop, Option, Some, None, if◌then◌else◌}
use Rattle.std.specs.Option.{option_and_then}
use Rattle.std.specs.Fmt.{decimal}
use Rattle.ml_base.specs.Bytes.{Text, colon, comma}
use Rattle.ml_base.specs.Numbers.{is_next_digit}

-- the netstring of a content
abbrev pub ns : Text → Text
ns content = decimal (length content) ++ colon ∷ content ++ comma ∷ []

-- the length up to a limit, and the bytes after its colon; so many digits of this value come before
abbrev pub length_from : ℕ → ℕ → ℕ → Text → Option (ℕ × Text)
length_from limit count n [] = None
length_from limit count n (b ∷ bs) =
    elim (b == colon) [
      | true ↦ if count == 0 then None else Some (n, bs)
      | false ↦ elim (is_next_digit limit count n b) [ true ↦ length_from limit (suc count) (10 * n + (b - 48)) bs | false ↦ None ]
    ]

-- a content and the bytes after its comma
abbrev pub before_comma : Text → Text → Option (Text × Text)
before_comma content [] = None
before_comma content (b ∷ rest) = if b == comma then Some (content, rest) else None

-- a content of this length, and the bytes after its comma
abbrev pub content_of : ℕ → Text → Option (Text × Text)
content_of n bytes = if nat_lt (length bytes) n then None else before_comma (take n bytes) (drop n bytes)

-- the content of the netstring that bytes begin with, and the bytes after it
abbrev pub netstring_at : Text → Option (Text × Text)
netstring_at bytes = option_and_then (λ found. content_of found.0 found.1) (length_from 999_999_999_999_999_999 0 0 bytes)

-- Which addresses belong to the list itself.
use Rattle.std.specs.Prelude.{Bool, true, false, ◌||◌, ◌&&◌, ◌==◌, nat_eq, [], ◌∷◌, ◌++◌, Option, Some, None}
use Rattle.std.specs.List.{starts_with}
use Rattle.std.specs.Str.{str_eq_ignore_ascii_case}
use Rattle.ml_base.specs.Bytes.{Text, lower, split_last, at_sign, hyphen}

-- a part before the `@` is LOCAL, or LOCAL and `-` and any rest, in any case of letters
abbrev pub is_own_local : Text → Text → Bool
is_own_local local before = str_eq_ignore_ascii_case local before || starts_with nat_eq (lower before) (lower local ++ hyphen ∷ [])

-- parts round the last `@`: the one after it is HOST, in any case of letters, and the one before it is the list's
abbrev pub are_own : Text → Text → Option (Text × Text) → Bool
are_own local host None = false
are_own local host (Some parts) = str_eq_ignore_ascii_case host parts.1 && is_own_local local parts.0

-- whether a recipient is the list's own: LOCAL@HOST, or LOCAL-rest@HOST, in any case of letters
abbrev pub is_own : Text → Text → Text → Bool
is_own local host recipient = are_own local host (split_last at_sign recipient)

-- nothing, or a `-` and any rest
abbrev pub is_own_rest : Text → Bool
is_own_rest [] = true
is_own_rest (b ∷ bs) = b == hyphen

-- Which texts are read as a floor, and which as a slot of a file of kept replies.
use Rattle.std.specs.Prelude.{ℕ, not, ◌&&◌, ◌==◌, nat_le, if◌then◌else◌, [], ◌∷◌, length, Option, Some, None}
use Rattle.std.specs.Int.{from_be_bytes, w64}
use Rattle.std.specs.List.{list_all}
use Rattle.ml_base.specs.Bytes.{Text, is_nul}
use Rattle.ml_rows.specs.Rows.{only_if}
use Rattle.ml_rows.specs.Values.{line_number}
use Rattle.ml_plain.specs.declared.Reply.{Reply}
use Rattle.ml_plain.specs.KeptFiles.{may_be_kept}

-- the floor that a file is read as: 1 if it is absent, otherwise its number, which is at least 2 and has an LF after it
abbrev pub floor_in : Option Text → Option ℕ
floor_in None = Some 1
floor_in (Some text) = only_if (nat_le 2) (line_number 999_999_999_999 text)

-- a reply that may be kept for a number, which isn't 0
abbrev pub if_kept : ℕ → Reply → Option (Option Reply)
if_kept n r = if not (n == 0) && may_be_kept r then Some (Some r) else None

-- what nine bytes are read as, for a number: no reply if all are zero; otherwise a code, and a number with its most significant byte first
abbrev pub nine_in : ℕ → ℕ → Text → Option (Option Reply)
nine_in n code digits =
    if list_all is_nul (code ∷ digits) then Some None else if_kept n (record { code = code; number = from_be_bytes w64 digits })

-- what a slot is read as, for a number: a text of another length, and a reply that is never kept, are read as nothing
abbrev pub reply_in : ℕ → Text → Option (Option Reply)
reply_in n [] = None
reply_in n (code ∷ digits) = if length digits == 8 then nine_in n code digits else None

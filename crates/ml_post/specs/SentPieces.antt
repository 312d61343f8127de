-- The lines that are put into sent messages, piece by piece.
use Rattle.std.specs.Prelude.{[], ◌∷◌, ◌++◌, codes}
use Rattle.ml_base.specs.Bytes.{Text}
use Rattle.ml_base.specs.Texts.{lf, lines_text, post_address, list_address, mailing_list_line}

-- the first three of the lines in front
abbrev pub first_three : Text → Text → Text
first_three local host =
    lines_text (mailing_list_line local host ∷ codes "Precedence: bulk" ∷ (codes "List-Post: <mailto:" ++ post_address local host ++ codes ">") ∷ [])

-- a line with one of the list's addresses between these words and `>`
abbrev pub list_field : Text → Text → Text → Text → Text
list_field local host words rest = words ++ list_address local host rest ++ codes ">" ++ lf

-- the last of the lines in front
abbrev pub delivered_line : Text → Text → Text
delivered_line local host = codes "Delivered-To: mailing list " ++ post_address local host ++ lf

-- a line with one of the list's addresses after these words
abbrev pub pointer_line : Text → Text → Text → Text → Text
pointer_line local host words rest = words ++ list_address local host rest ++ lf

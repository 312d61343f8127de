-- The stop line, which ends a run early: its text.
use Rattle.std.specs.Prelude.{ℕ, Option, Some, None, [], ◌∷◌, ◌++◌, IsTrue, codes}
use Rattle.std.specs.Fmt.{decimal}
use Rattle.ml_base.specs.Bytes.{Text, line_feed, space}
use Rattle.ml_base.specs.Name.{is_in_table, path_of}
use Rattle.ml_ending.specs.declared.lines.Why.{Why}
use Rattle.ml_ending.specs.declared.lines.Why.TheVariants as whys

-- the words for why a run ends
abbrev pub why_text : Why → Text
why_text whys.Usage = codes "usage"
why_text (whys.Bad at) = codes "bad " ++ decimal at
why_text (whys.Short at) = codes "short " ++ decimal at
why_text whys.Words = codes "words"
why_text whys.Long = codes "long"
why_text whys.Clock = codes "clock"
why_text whys.Memory = codes "memory"
why_text whys.More = codes "more"
why_text whys.Input = codes "input"
why_text whys.NoList = codes "nolist"
why_text (whys.At name) = path_of name
why_text whys.There = codes "there"
why_text whys.Absent = codes "absent"
why_text whys.Disk = codes "disk"

-- if a file is named, it is in the table
abbrev pub HasPath : Why → Type 0
HasPath (whys.At name) = IsTrue (is_in_table name)
HasPath _ = Unit {0}

-- the number of the item in hand, or `-`
abbrev pub number_text : Option ℕ → Text
number_text None = codes "-"
number_text (Some number) = decimal number

-- the line that ends a run early
abbrev pub stop_text : Option ℕ → ℕ → Why → Text
stop_text number status why = number_text number ++ space ∷ decimal status ++ space ∷ why_text why ++ line_feed ∷ []

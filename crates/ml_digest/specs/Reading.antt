-- What each step of reading a digest finds: header, title, preface and messages.
use Rattle.std.specs.Prelude.{◌≡◌, ◌-◌, ◌<◌, ◌≤◌, ℕ, List, [], ◌∷◌, ◌++◌, length, map, codes, get_or}
use Rattle.std.specs.List.{flat_map, AllByRecursion}
use Rattle.ml_base.specs.Bytes.{Text, line_feed}
use Rattle.ml_base.specs.Texts.{lf, lines_text, with_last_line_end}
use Rattle.ml_digest.specs.Burst.{IsLine, HaveNo, IsMessage, message_lines}
use Rattle.ml_digest.specs.Digest.{issue_title, preamble_rule}

-- A text is lines, none of which is the wanted or the barred one, then the wanted line, and then what comes after it.
pub record IsCut (wanted barred text before after : Text) : Type 0 where
  pub rows : List Text
  pub each : AllByRecursion IsLine rows
  pub none_wanted : HaveNo wanted rows
  pub none_barred : HaveNo barred rows
  pub front : before ≡ lines_text rows
  pub whole : text ≡ lines_text rows ++ (wanted ++ line_feed ∷ after)

-- the wanted line doesn't come, or the barred line comes before it
abbrev pub HasNoCut : Text → Text → Text → Type 0
HasNoCut wanted barred text = (before after : Text) → ¬ IsCut wanted barred text before after

-- lines were passed, none of them wanted or barred, and this is left
pub record IsPassed (wanted barred text rest : Text) : Type 0 where
  pub rows : List Text
  pub each : AllByRecursion IsLine rows
  pub none_wanted : HaveNo wanted rows
  pub none_barred : HaveNo barred rows
  pub whole : text ≡ lines_text rows ++ rest

-- a line that isn't empty
abbrev pub IsFilled : Text → Type 0
IsFilled line = IsLine line × (0 < length line)

-- the last of some lines, or nothing if there is none
abbrev pub last_of : List Text → Text
last_of rows = get_or rows (length rows - 1) []

-- a text is lines that aren't empty, the last of which is this one, then an empty line, and then what comes after it
pub record IsHeader (text last rest : Text) : Type 0 where
  pub rows : List Text
  pub each : AllByRecursion IsFilled rows
  pub ends : last ≡ last_of rows
  pub whole : text ≡ lines_text rows ++ line_feed ∷ rest

-- lines that aren't empty were passed, and this is left
pub record IsBegun (text last rest : Text) : Type 0 where
  pub rows : List Text
  pub each : AllByRecursion IsFilled rows
  pub ends : last ≡ last_of rows
  pub whole : text ≡ lines_text rows ++ rest

-- the line `Subject: NAME Digest Issue I`
pub record IsTitle (line name : Text) (issue : ℕ) : Type 0 where
  pub named : 0 < length name
  pub from_one : 1 ≤ issue
  pub readable : issue ≤ 999_999_999_999_999_999
  pub spelled : line ≡ codes "Subject: " ++ issue_title name issue

-- lines up to the rule after the preface, an empty line, and what comes after it
pub record IsPreface (text rest : Text) : Type 0 where
  pub rows : List Text
  pub each : AllByRecursion IsLine rows
  pub none : HaveNo preamble_rule rows
  pub whole : text ≡ lines_text rows ++ (preamble_rule ++ line_feed ∷ line_feed ∷ rest)

-- a text that is empty or ends in an LF
abbrev pub IsEnded : Text → Type 0
IsEnded text = with_last_line_end text ≡ text

-- a text that ends in an empty line, and what comes before that
pub record HasEmptyEnd (text front : Text) : Type 0 where
  pub whole : text ≡ front ++ lf
  pub ended : IsEnded front

-- messages were read one after another, and this is left
pub record AreRead (text : Text) (messages : List Text) (rest : Text) : Type 0 where
  pub rows : List (List Text)
  pub are : AllByRecursion IsMessage rows
  pub messages_are : messages ≡ map lines_text rows
  pub whole : text ≡ lines_text (flat_map message_lines rows) ++ rest

-- a message, the lines that follow every message, and what comes after them
pub record IsEntry (text message rest : Text) : Type 0 where
  pub rows : List Text
  pub is : IsMessage rows
  pub message_is : message ≡ lines_text rows
  pub whole : text ≡ lines_text (message_lines rows) ++ rest

-- messages one after another, and the end
pub record AreEntries (text end : Text) (messages : List Text) : Type 0 where
  pub rows : List (List Text)
  pub are : AllByRecursion IsMessage rows
  pub some : 0 < length rows
  pub messages_are : messages ≡ map lines_text rows
  pub whole : text ≡ lines_text (flat_map message_lines rows) ++ end

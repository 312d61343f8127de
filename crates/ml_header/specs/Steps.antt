-- How a message is rewritten in steps: whether a prefix and a trailer are due, and then field by field.
use Rattle.std.specs.Prelude.{◌≡◌, Bool, not, ◌&&◌, List, [], ◌∷◌, ◌++◌, Option, Some, None, if◌then◌else◌, codes, filter, find, unwrap_or}
use Rattle.std.specs.List.{flat_map, AllByRecursion}
use Rattle.std.specs.Option.{option_map}
use Rattle.std.specs.Str.{bytes_eq}
use Rattle.ml_base.specs.Bytes.{Text, lower, colon}
use Rattle.ml_base.specs.Texts.{with_line_end, with_last_line_end}
use Rattle.ml_header.specs.Lines.{begins_with}
use Rattle.ml_header.specs.Fields.{FieldText, has_name}
use Rattle.ml_header.specs.Unfolding.{unfolded_value}
use Rattle.ml_header.specs.Rewriting.{has_part, names_of, is_among, with_prefix}

-- a field's lines are its name, a colon and its value
abbrev pub IsWhole : FieldText → Type 0
IsWhole f = f.lines ≡ f.name ++ colon ∷ f.value

abbrev pub AreWhole : List FieldText → Type 0
AreWhole fs = AllByRecursion IsWhole fs

-- the prefix, unless a subject's value has it somewhere in any case of letters
abbrev pub due_prefix : Text → Text → Option Text
due_prefix prefix value = if has_part (lower prefix) (lower (unfolded_value value)) then None else Some prefix

-- the value of the first field of a name
abbrev pub value_in : Text → List FieldText → Option Text
value_in name fs = option_map (λ f. f.value) (find (has_name name) fs)

-- the value that was found in earlier fields, or else this field's if it has the name
abbrev pub onto_value : Text → Option Text → FieldText → Option Text
onto_value name (Some value) f = Some value
onto_value name None f = if has_name name f then Some f.value else None

-- the value is that of no content type, or of one that begins with `text/plain`
abbrev pub is_plain_kind : Option Text → Bool
is_plain_kind kind = begins_with (codes "text/plain") (lower (unwrap_or (option_map unfolded_value kind) (codes "text/plain")))

-- the value of an encoding in base64
abbrev pub is_base64_encoding : Option Text → Bool
is_base64_encoding encoding = bytes_eq (lower (unwrap_or (option_map unfolded_value encoding) [])) (codes "base64")

-- the trailer, if the body is plain text
abbrev pub due_trailer : Option Text → Option Text → Option Text → Option Text
due_trailer None kind encoding = None
due_trailer (Some trailer) kind encoding = if is_plain_kind kind && not (is_base64_encoding encoding) then Some trailer else None

-- a field with a prefix, if there is one
abbrev pub with_due : Option Text → FieldText → FieldText
with_due None f = f
with_due (Some prefix) f = with_prefix prefix f

-- the prefix that goes into a field, and the one that is left for the fields after it
abbrev pub here : Option Text → FieldText → Option Text
here None f = None
here (Some prefix) f = if has_name (codes "subject") f then due_prefix prefix f.value else None

abbrev pub later : Option Text → FieldText → Option Text
later None f = None
later (Some prefix) f = if has_name (codes "subject") f then None else Some prefix

-- the fields with a prefix in the first subject, if it is due
abbrev pub with_first : Option Text → List FieldText → List FieldText
with_first prefix [] = []
with_first prefix (f ∷ fs) = with_due (here prefix f) f ∷ with_first (later prefix f) fs

-- the text of the fields except for those that are left out
abbrev pub sent_fields : Text → List FieldText → Text
sent_fields remove fs = flat_map (λ f. with_line_end f.lines) (filter (λ f. not (is_among (names_of remove) f)) fs)

-- a body with a trailer, if there is one
abbrev pub with_trailer : Option Text → Text → Text
with_trailer None body = body
with_trailer (Some trailer) body = with_last_line_end body ++ trailer

-- a field's text, or nothing if it is left out
abbrev pub kept_text : Text → Option Text → FieldText → Text
kept_text remove due f = if is_among (names_of remove) f then [] else with_line_end (with_due due f).lines

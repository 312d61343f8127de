-- What a message is made of: fields, followed by nothing, by an empty line and a body, or by a body alone.
use Rattle.std.specs.Prelude.{◌≡◌, Bool, true, false, not, ◌&&◌, ◌||◌, ◌==◌, ◌⊎◌, List, [], ◌∷◌, ◌++◌, Option, None, filter}
use Rattle.std.specs.List.{flat_map, AllByRecursion}
use Rattle.ml_base.specs.Bytes.{Text, is_empty, colon, line_feed}
use Rattle.ml_base.specs.Splits.{lines, has_byte}
use Rattle.ml_base.specs.Texts.{with_line_end}
use Rattle.ml_header.specs.Lines.{begins_blank, is_empty_line}
use Rattle.ml_header.specs.Fields.{FieldText, is_name, field_line}
use Rattle.ml_header.specs.Rewriting.{names_of, is_among, prefixed}

abbrev pub EndsInLf : Text → Type 0
EndsInLf text = (front : Text) × (text ≡ front ++ line_feed ∷ [])

-- a space or a tab follows every LF, except for one at the end
abbrev pub is_folded : Text → Bool
is_folded [] = true
is_folded (b ∷ bs) = (not (b == line_feed) || is_empty bs || begins_blank bs) && is_folded bs

-- a field by itself: its lines are a name of bytes 33 to 126 without a colon, a colon, and a value that is folded
pub record IsField (f : FieldText) : Type 0 where
  pub named : is_name f.name ≡ true
  pub no_colon : has_byte 58 f.name ≡ false
  pub whole : f.lines ≡ f.name ++ colon ∷ f.value
  pub folded : is_folded f.value ≡ true

-- every field ends in an LF, except for the last one if nothing follows it
abbrev pub AreEnded : List FieldText → Text → Type 0
AreEnded [] rest = Unit {0}
AreEnded (f ∷ fs) rest = (EndsInLf f.lines ⊎ ((fs ≡ []) × (rest ≡ []))) × AreEnded fs rest

-- an empty line followed by a body; if the line doesn't end in an LF, it is the last
pub record Parted (rest body : Text) : Type 0 where
  pub line : Text
  pub is_empty : is_empty_line line ≡ true
  pub ended : EndsInLf line ⊎ (body ≡ [])
  pub whole : rest ≡ line ++ body

-- a body whose first line isn't empty, begins no field and continues none
pub record Unparted (rest body : Text) : Type 0 where
  pub whole : rest ≡ body
  pub line : Text
  pub more : List Text
  pub first : lines rest ≡ line ∷ more
  pub filled : is_empty_line line ≡ false
  pub no_field : field_line line ≡ None
  pub no_fold : begins_blank line ≡ false

-- what may follow the fields
abbrev pub After : Text → Text → Type 0
After rest body = ((rest ≡ []) × (body ≡ [])) ⊎ (Parted rest body ⊎ Unparted rest body)

-- fields, and what follows them
pub record Made (m : Text) (fs : List FieldText) (body : Text) : Type 0 where
  pub rest : Text
  pub whole : m ≡ flat_map (λ f. f.lines) fs ++ rest
  pub are_fields : AllByRecursion IsField fs
  pub ended : AreEnded fs rest
  pub after : After rest body

-- a message whose first line would continue a field is all body
pub record AllBody (m : Text) (fs : List FieldText) (body : Text) : Type 0 where
  pub no_fields : fs ≡ []
  pub whole : body ≡ m
  pub begins : begins_blank m ≡ true

abbrev pub IsMadeOf : Text → List FieldText → Text → Type 0
IsMadeOf m fs body = Made m fs body ⊎ AllBody m fs body

-- fields in a row, each ended by an LF
pub record IsRow (text : Text) (fs : List FieldText) : Type 0 where
  pub whole : text ≡ flat_map (λ f. f.lines) fs
  pub are_fields : AllByRecursion IsField fs
  pub ended : AllByRecursion (λ f. EndsInLf f.lines) fs

-- a field with an LF at its end
abbrev pub ended_field : FieldText → FieldText
ended_field f = record f { value = with_line_end f.value; lines = with_line_end f.lines }

-- the fields of a message except for those that are left out, with a prefix in the first subject if it is due
abbrev pub kept_fields : Text → Option Text → Text → List FieldText
kept_fields remove prefix m = filter (λ f. not (is_among (names_of remove) f)) (prefixed prefix m)

-- How a new list is made.
use Rattle.std.specs.Prelude.{◌≡◌, ◌≢◌, ◌⊎◌, ℕ, Bool, ◌==◌, ◌||◌, IsSome, List, [], ◌∷◌, ◌++◌, codes, Option, Some, None}
use Rattle.ml_base.specs.Bytes.{Text, at_sign, line_feed}
use Rattle.ml_base.specs.Dir.{Dir}
use Rattle.ml_base.specs.declared.puts.Put.{Put}
use Rattle.ml_config.specs.ConfigFile.{config_name}
use Rattle.ml_config.specs.declared.configuration.Config.{Config}
use Rattle.ml_site.specs.Disk.{Contents}
use Rattle.ml_journal.specs.Log.{directory}
use Rattle.ml_journal.specs.Instants.{with_txn}
use Rattle.ml_ending.specs.declared.lines.Why.{Why}
use Rattle.ml_ending.specs.declared.lines.Why.TheVariants as whys
use Rattle.ml_ending.specs.Endings.{SaysAtMost, TellsAtMost}
use Rattle.ml_ending.specs.Lines.{stop_text}
use Rattle.ml_ending.specs.Stops.{status_of_why, log_name}

-- the line that tells that a list was made
abbrev pub made_text : Config → Text
made_text c = codes "made " ++ c.local ++ at_sign ∷ c.host ++ line_feed ∷ []

-- a directory is the one before, or the whole new one
abbrev pub IsOneOf : Option Dir → List Put → Option Dir → Type 0
IsOneOf before txn dir = (dir ≡ before) ⊎ (dir ≡ with_txn txn before)

-- there was a directory, and the whole new one is there
abbrev pub IsNew : Option Dir → List Put → Option Dir → Type 0
IsNew before txn dir = IsSome before × (dir ≡ with_txn txn before)

-- The directory is the one before or the whole new one, and at most some first bytes of one stop line are out; or the new one is
-- there, and some first bytes of the line that tells of it are out.
abbrev pub IsMaking : Option Dir → List Put → Text → Text → Contents → Text → Type 0
IsMaking dir txn line before left out =
    (IsOneOf dir txn (directory left) × SaysAtMost before out) ⊎ (IsNew dir txn (directory left) × TellsAtMost line before out)

-- Why a list is not made: there is a configuration in the directory, which stays as it is; the log has no directory; or the disk
-- failed, or memory ran out.
abbrev pub IsUnmade : Why → Option Dir → List Put → Option Dir → Type 0
IsUnmade whys.There dir txn held = (held ≡ dir) × (files : Dir) × (dir ≡ Some files) × (files config_name ≢ None)
IsUnmade (whys.At name) dir txn held = (held ≡ dir) × (name ≡ log_name) × (dir ≡ None)
IsUnmade whys.Memory dir txn held = IsOneOf dir txn held
IsUnmade whys.Disk dir txn held = IsOneOf dir txn held
IsUnmade _ dir txn held = ⊥

-- the list was made and is there, and its line is out
pub record IsMade (told : Type 0) (status : ℕ) (dir : Option Dir) (txn : List Put) (line before : Text) (held : Contents) (output : Text) : Type 0 where
  pub status_is : status ≡ 0
  pub made : IsNew dir txn (directory held)
  pub put : told → output ≡ before ++ line

-- the list was not made, and a whole stop line tells why
pub record IsRefusedList (told : Type 0) (status : ℕ) (dir : Option Dir) (txn : List Put) (before : Text) (held : Contents) (output : Text) : Type 0 where
  pub why : Why
  pub status_is : status ≡ status_of_why why
  pub unmade : IsUnmade why dir txn (directory held)
  pub put : told → output ≡ before ++ stop_text None status why

-- only some first bytes of a line are out
pub record IsCutOff (told : Type 0) (status : ℕ) (dir : Option Dir) (txn : List Put) (line before : Text) (held : Contents) (output : Text) : Type 0 where
  pub status_is : status ≡ 73
  pub held_is : IsOneOf dir txn (directory held)
  pub put : told → IsMaking dir txn line before held output

-- what making a list does
abbrev pub Makes : Type 0 → ℕ → Option Dir → List Put → Text → Text → Contents → Text → Type 0
Makes told status dir txn line before held output =
    IsMade told status dir txn line before held output
    ⊎ (IsRefusedList told status dir txn before held output ⊎ IsCutOff told status dir txn line before held output)

-- the statuses of making a list
abbrev pub is_make_status : ℕ → Bool
is_make_status status = status == 0 || status == 71 || status == 73 || status == 75 || status == 100 || status == 111

-- How a put takes the place of an earlier one of the same file.
use Rattle.std.specs.Prelude.{◌≡◌, ◌<◌, ◌+◌, ℕ, Bool, true, false, not, ◌&&◌, List, [], ◌∷◌, Some, length, drop, slice_get, if◌then◌else◌}
use Rattle.ml_base.specs.Dir.{same_name, touches}
use Rattle.ml_base.specs.declared.names.Name.{Name}
use Rattle.ml_base.specs.declared.puts.Put.{Put}

-- the row with a put in the place of the newest one of its file, or last if there is none
abbrev pub laid_in : Put → List Put → List Put
laid_in put [] = put ∷ []
laid_in put (p ∷ ps) = if same_name put.name p.name && not (touches ps put.name) then put ∷ ps else p ∷ laid_in put ps

-- no two puts of the row are of one file
abbrev pub are_distinct : List Put → Bool
are_distinct [] = true
are_distinct (p ∷ ps) = not (touches ps p.name) && are_distinct ps

-- the newest put of a file is at this place
pub record IsNewestAt (puts : List Put) (name : Name) (at : ℕ) : Type 0 where
  pub within : at < length puts
  pub put : Put
  pub is : slice_get puts at ≡ Some put
  pub named : same_name name put.name ≡ true
  pub last : touches (drop (at + 1) puts) name ≡ false

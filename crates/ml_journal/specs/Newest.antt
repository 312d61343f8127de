-- The newest put of every file.
use Rattle.std.specs.Prelude.{◌≡◌, Bool, ◌&&◌, Option, Some, None, if◌then◌else◌}
use Rattle.std.specs.BTreeMap.{BTreeMap, get}
use Rattle.ml_base.specs.Bytes.{Text}
use Rattle.ml_base.specs.Dir.{Dir, same_name}
use Rattle.ml_base.specs.Name.{name_cmp}
use Rattle.ml_base.specs.declared.names.Name.{Name}

-- the newest put of a file, with an inner None for a removal, or None if there is no put of it
abbrev pub newest_of : BTreeMap Name (Option Text) → Name → Option (Option Text)
newest_of puts name = get name_cmp puts name

-- what the newest put leaves in its file, or what was there before if there is no put
abbrev pub left_by : Option (Option Text) → Option Text → Option Text
left_by None before = before
left_by (Some bytes) before = bytes

-- the directory with the newest puts laid over it
abbrev pub with_newest : BTreeMap Name (Option Text) → Dir → Dir
with_newest puts dir name = left_by (newest_of puts name) (dir name)

-- if it was done, this is the newest put of the file, and every other file has the newest put that it had
abbrev pub Sets : Bool → BTreeMap Name (Option Text) → BTreeMap Name (Option Text) → Name → Option Text → Type 0
Sets done old new name bytes = (other : Name) → newest_of new other ≡ (if done && same_name other name then Some bytes else newest_of old other)

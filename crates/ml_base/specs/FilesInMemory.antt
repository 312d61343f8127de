-- Files in memory: what they hold, and which of their calls fail.
use Rattle.std.specs.Prelude.{◌≡◌, ◌≤◌, ℕ, List, Result, Ok, Err}
use Rattle.std.specs.BTreeMap.{BTreeMap, get}
use Rattle.ml_base.specs.Bytes.{Text}
use Rattle.ml_base.specs.Name.{name_cmp}
use Rattle.ml_base.specs.Dir.{Dir}
use Rattle.ml_base.specs.Faults.{one_more}
use Rattle.ml_base.specs.declared.files.FilesError.{FilesError}
use Rattle.ml_base.specs.declared.files.FilesError.TheVariants.{Fault, Memory}
use Rattle.ml_base.specs.declared.maps.MapFiles.{MapFiles}
use Rattle.ml_base.specs.declared.names.Name.{Name}

-- the directory of a map
abbrev pub dir_of : BTreeMap Name Text → Dir
dir_of files name = get name_cmp files name

-- the directory that the files show
abbrev pub map_dir : MapFiles → Dir
map_dir files = dir_of files.files

-- how often a call has failed
abbrev pub map_faults : MapFiles → ℕ
map_faults files = files.faults

-- the calls, counted from 1, that are to fail
abbrev pub map_failing : MapFiles → List ℕ
map_failing files = files.plan.failing

-- how many calls were made
abbrev pub map_made : MapFiles → ℕ
map_made files = files.plan.made

-- how often a call has failed after one that answered this: once more if it was a fault, as far as can be counted
abbrev pub faults_after : {T : Type 0} → ℕ → Result T FilesError → ℕ
faults_after count (Ok found) = count
faults_after count (Err Memory) = count
faults_after count (Err Fault) = one_more count

-- the map and the calls that are to fail are the same, and neither calls nor faults have become fewer
pub record IsMapKept (old new : MapFiles) : Type 0 where
  pub dir : map_dir new ≡ map_dir old
  pub failing : map_failing new ≡ map_failing old
  pub made : map_made old ≤ map_made new
  pub faults : map_faults old ≤ map_faults new

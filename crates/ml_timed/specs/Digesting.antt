-- Which damaged files may be named when a digest is made.
use Rattle.std.specs.Prelude.{◌≡◌, ◌<◌, ◌≤◌, ◌+◌, ◌/◌, ◌⊎◌, ℕ, true}
use Rattle.ml_base.specs.Dir.{Dir}
use Rattle.ml_base.specs.declared.names.Name.{Name}
use Rattle.ml_filing.specs.Archive.{IsNumberFile, number_name}
use Rattle.ml_filing.specs.Threads.{is_of_archive}
use Rattle.ml_digest.specs.Due.{IsMark}
use Rattle.ml_digest.specs.declared.posts.Mark.{Mark}
use Rattle.ml_acts.specs.Asked.{Group, IsBadFor, IsBadWithin, IsTooSmall, Undigested}
use Rattle.ml_acts.specs.Damaged.{IsDamaged}

-- a damaged file; if it is one of the archive, it is damaged for one of the posts a to b
pub record IsDamagedWithin (dir : Dir) (a b : ℕ) (name : Name) : Type 0 where
  pub damaged : IsDamaged dir name
  pub own : is_of_archive name ≡ true → IsBadWithin dir a b name

-- a damaged file; if it is one of the archive, it is damaged for one of the posts after `last` up to `count`, or it is the number of posts,
-- which is too small
pub record IsDamagedAfter (dir : Dir) (last count : ℕ) (name : Name) : Type 0 where
  pub damaged : IsDamaged dir name
  pub own : is_of_archive name ≡ true → IsBadWithin dir (last + 1) count name ⊎ ((name ≡ number_name) × IsTooSmall dir)

-- a damaged file; if it is one of the archive, it is the index of a group that isn't after the group of post `count`, outside its grammar, or
-- the number of posts, which is too small
pub record IsDamagedGroup (dir : Dir) (group count : ℕ) (name : Name) : Type 0 where
  pub damaged : IsDamaged dir name
  pub own : is_of_archive name ≡ true → IsBadFor dir (Group group) name ⊎ ((name ≡ number_name) × IsTooSmall dir)
  pub few : group ≤ count / 100

-- A file that is damaged, with what a run laid over the files. One of the archive, which the run leaves as it was, is damaged for the posts
-- that were in no digest when the run began.
pub record IsDamagedInRun (before now : Dir) (name : Name) : Type 0 where
  pub damaged : IsDamaged now name
  pub own : is_of_archive name ≡ true → IsBadFor before Undigested name

-- The number of posts isn't too small if a digest reads the index of its group: the first post that waits is in that group or the one
-- before it.
abbrev pub AgreesIfRead : Dir → Type 0
AgreesIfRead dir = (mark : Mark) (count : ℕ) → IsMark dir mark → IsNumberFile (dir number_name) count → mark.last < count → count / 100 ≤ (mark.last + 1) / 100 + 1 → ¬ IsTooSmall dir

-- What a timed run finds in the files that its digest reads, whatever the other files hold.
use Rattle.std.specs.Prelude.{◌≡◌, ◌⊎◌, ◌&&◌, nat_le, Bool, true, List, [], ◌∷◌, ◌++◌}
use Rattle.ml_base.specs.Dir.{Dir, touches_only, with_puts}
use Rattle.ml_base.specs.Kinds.{bounces_kind, ids_kind}
use Rattle.ml_base.specs.declared.names.Name.{Name}
use Rattle.ml_base.specs.declared.names.Set.TheVariants as sets
use Rattle.ml_base.specs.declared.puts.Put.{Put}
use Rattle.ml_digest.specs.Due.{mark_put}
use Rattle.ml_digest.specs.declared.posts.Mark.{Mark}
use Rattle.ml_acts.specs.Found.{AddsMailToSet}
use Rattle.ml_timed.specs.Giving.{is_given}

-- the files that following bounces up changes: ledgers and the queue
abbrev pub is_followed_up : Name → Bool
is_followed_up name = nat_le bounces_kind name.kind && nat_le name.kind ids_kind

-- An issue: the mark is put, and one entry of the queue, whose recipients are exactly the addresses that the 53 buckets of the digest set spell.
abbrev pub FoundToIssue : Dir → List Put → Type 0
FoundToIssue dir puts = (mark : Mark) × AddsMailToSet dir sets.Digest (mark_put mark ∷ []) puts

-- there is no issue, or one
abbrev pub FoundToDigest : Dir → List Put → Type 0
FoundToDigest dir puts = (puts ≡ []) ⊎ FoundToIssue dir puts

-- puts with those of a digest after them
pub record FoundInLayer (dir : Dir) (old new : List Put) : Type 0 where
  pub digest : List Put
  pub is : new ≡ old ++ digest
  pub made : FoundToDigest (with_puts dir old) digest

-- The puts that a run lays over others: posts go back, a digest is made on what that left, and bounces are followed up. The first and the
-- last part put no mark, so a mark is put only with an issue.
pub record FoundInRun (dir : Dir) (old new : List Put) : Type 0 where
  pub before : List Put
  pub digest : List Put
  pub after : List Put
  pub is : new ≡ ((old ++ before) ++ digest) ++ after
  pub given : touches_only is_given before ≡ true
  pub made : FoundToDigest (with_puts dir (old ++ before)) digest
  pub followed : touches_only is_followed_up after ≡ true

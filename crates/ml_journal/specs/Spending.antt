-- What a commit spends: syncs, and bytes that are handed to the log.
use Rattle.std.specs.Prelude.{◌≡◌, ◌⊎◌, ◌≤◌, ◌<◌, ◌+◌, ℕ, length}
use Rattle.ml_site.specs.declared.site.Site.{Ghosts}

-- at most two syncs, and the log has grown by no more than what was handed to it
pub record Adds {S : Type 0} (ghosts : Ghosts S) (old new : S) : Type 0 where
  pub syncs : ghosts.syncs new ≤ ghosts.syncs old + 2
  pub grows : length (ghosts.disk new).reads.log + ghosts.log_bytes old ≤ length (ghosts.disk old).reads.log + ghosts.log_bytes new

-- at most five syncs; the log's bytes and what was handed to it are together above LAY, and the log is one byte then
pub record LaysDown {S : Type 0} (ghosts : Ghosts S) (old new : S) : Type 0 where
  pub syncs : ghosts.syncs new ≤ ghosts.syncs old + 5
  pub paid : 8_388_608 + ghosts.log_bytes old < length (ghosts.disk old).reads.log + ghosts.log_bytes new
  pub short : length (ghosts.disk new).reads.log ≡ 1

-- What a commit spends, if it would leave a log of this size without laying files down, and gives so many bytes to files. They
-- were handed to the log, and the files are laid down exactly if the size is above LAY.
pub record Spends {S : Type 0} (ghosts : Ghosts S) (size contents : ℕ) (old new : S) : Type 0 where
  pub handed : ghosts.log_bytes old + contents ≤ ghosts.log_bytes new
  pub cost : ((size ≤ 8_388_608) × Adds ghosts old new) ⊎ ((8_388_608 < size) × LaysDown ghosts old new)

-- What a commit spends that failed: at most two syncs; or five, if the log's bytes and what was handed to it are
-- together above LAY, and the size is too.
pub record SpendsAtMost {S : Type 0} (ghosts : Ghosts S) (size : ℕ) (old new : S) : Type 0 where
  pub cost : (ghosts.syncs new ≤ ghosts.syncs old + 2)
      ⊎ ((8_388_608 < size) × (8_388_608 + ghosts.log_bytes old < length (ghosts.disk old).reads.log + ghosts.log_bytes new) × (ghosts.syncs new ≤ ghosts.syncs old + 5))

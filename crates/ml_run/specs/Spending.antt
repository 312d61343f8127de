-- How many syncs a run makes.
use Rattle.std.specs.Prelude.{◌≡◌, ℕ, ◌+◌, ◌*◌, ◌≤◌, ◌<◌, List}
use Rattle.ml_base.specs.declared.puts.Put.{Put}
use Rattle.ml_journal.specs.Records.{content_size}
use Rattle.ml_journal.specs.Stores.{grown}

-- what a batch costs: two syncs if the log stays within its length and otherwise three more, and the bytes that it adds to the log
pub record Costs (syncs syncs' bytes bytes' log log' : ℕ) (txn : List Put) : Type 0 where
  pub content : bytes + content_size txn ≤ bytes'
  pub few : grown log txn ≤ 8_388_608 → (syncs' ≤ syncs + 2) × (log' + bytes ≤ log + bytes')
  pub many : 8_388_608 < grown log txn → (syncs' ≤ syncs + 5) × (log' ≡ 1) × (8_388_608 + bytes < log + bytes')

-- What a run has spent: syncs for full batches, for batches that gave many bytes, for laying down, and a few others.
pub record HasSpent (syncs syncs' bytes bytes' log answered others : ℕ) : Type 0 where
  pub full : ℕ
  pub heavy : ℕ
  pub laid : ℕ
  pub of_answered : 16 * full ≤ answered
  pub of_bytes : bytes + 4_194_304 * heavy ≤ bytes'
  pub of_log : bytes + 8_388_608 * laid + log ≤ bytes' + 1
  pub few : syncs' ≤ syncs + others + 2 * full + 2 * heavy + 3 * laid

-- What a run of the items of an exercise does.
use Rattle.std.specs.Prelude.{◌≡◌, ℕ, Bool, ◌==◌, ◌||◌, IsTrue, List, [], Some}
use Rattle.ml_config.specs.declared.configuration.Config.{Config}
use Rattle.ml_generated.specs.Items.{generated}
use Rattle.ml_plain.specs.Histories.{State}
use Rattle.ml_plain.specs.Replies.{is_status}
use Rattle.ml_plain.specs.declared.Item.{Item}
use Rattle.ml_site.specs.Disk.{IsAtRest}
use Rattle.ml_site.specs.declared.site.Site.{Ghosts}
use Rattle.ml_journal.specs.Calls.{Leaves}
use Rattle.ml_journal.specs.Log.{directory}
use Rattle.ml_run.specs.Anywhere.{RunsAnywhere}
use Rattle.ml_run.specs.Clauses.{ClosesRun, CountsSite}
use Rattle.ml_run.specs.Endings.{Brings, Names, Runs}
use Rattle.ml_run.specs.Batches.{IsOfNext}
use Rattle.ml_run.specs.Leaving.{HasState, IsAfterSome}
use Rattle.ml_stream.specs.Stream.{End}
use Rattle.ml_stream.specs.Writing.{stream_text}

-- the items of an exercise of a list of this configuration
abbrev pub items_for : Config → ℕ → List Item
items_for config count = generated config.local config.host count

-- the statuses of a run of them
abbrev pub is_items_status : ℕ → Bool
is_items_status status = status == 0 || status == 71 || status == 73 || status == 75 || status == 100 || status == 111

-- What a run of these items does: what `run` does with a source that never fails.
pub record RunsItems {S : Type 0} (ghosts : Ghosts S) (items : List Item) (count : ℕ) (old new : S) (status : ℕ) : Type 0 where
  pub answered : ℕ
  pub known : IsTrue (is_items_status status)
  pub whole : IsTrue ghosts.tells_reads → (q : State) → HasState (directory (ghosts.disk old).reads) q
      → Runs (IsTrue ghosts.tells_all) ⊥ status count answered (ghosts.disk new).reads (ghosts.output new) items End q (ghosts.output old)
  pub at_rest : IsAtRest (ghosts.disk old) → (q : State) → HasState (directory (ghosts.disk old).reads) q → Leaves ghosts old new (IsAfterSome q items (ghosts.output old))
  pub all : IsTrue (is_status status) → answered ≡ count
  pub anywhere : RunsAnywhere ghosts (Brings (Some (stream_text items))) count status answered old new
  pub closed : ClosesRun ghosts status old new
  pub counts : CountsSite ghosts status old new
  pub named : IsTrue ghosts.tells_reads → status ≡ 75
      → Names (IsTrue ghosts.tells_all) (IsOfNext (Brings (Some (stream_text items))) answered) (directory (ghosts.disk old).reads) (directory (ghosts.disk new).reads) (ghosts.output new)

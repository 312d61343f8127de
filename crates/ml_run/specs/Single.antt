-- What a run does if its stream is one item.
use Rattle.std.specs.Prelude.{◌≡◌, ◌≤◌, ◌+◌, ◌-◌, ◌/◌, ℕ, Bool, ◌==◌, ◌||◌, IsTrue, List, [], ◌∷◌}
use Rattle.ml_site.specs.Disk.{IsAtRest}
use Rattle.ml_site.specs.declared.site.Site.{Ghosts}
use Rattle.ml_journal.specs.Calls.{Leaves}
use Rattle.ml_journal.specs.Log.{directory}
use Rattle.ml_plain.specs.Histories.{State}
use Rattle.ml_plain.specs.Replies.{is_status}
use Rattle.ml_plain.specs.declared.Item.{Item}
use Rattle.ml_ending.specs.Endings.{Opens}
use Rattle.ml_ending.specs.declared.endings.Ending.{Ending}
use Rattle.ml_stream.specs.Stream.{StreamEnd, End}
use Rattle.ml_run.specs.Batches.{IsOfNext}
use Rattle.ml_run.specs.Clauses.{ClosesRun, CountsSite, SaysRefusal}
use Rattle.ml_run.specs.Endings.{AnswersAll, AnswersEach, Runs}
use Rattle.ml_run.specs.Leaving.{HasState, IsAfterSome}
use Rattle.ml_run.specs.Anywhere.{RunsAnywhere}

-- the items of a stream are this one alone, and then it ends
abbrev pub IsAlone : Item → List Item → StreamEnd → Type 0
IsAlone item all ending = (all ≡ item ∷ []) × (ending ≡ End)

-- the statuses of a run whose stream is one item: it is never bad, has no more items and can always be read
abbrev pub is_item_status : ℕ → Bool
is_item_status status = status == 0 || status == 71 || status == 73 || status == 75 || status == 100 || status == 111

-- What one item does: the same as a run whose stream is this item, except that the item is read whole whatever fails.
pub record RunsItem {S : Type 0} (ghosts : Ghosts S) (item : Item) (old new : S) (ending : Ending) : Type 0 where
  pub known : IsTrue (is_item_status ending.status)
  pub few : ending.answered ≤ 1
  pub done : IsTrue (is_status ending.status) → ending.answered ≡ 1
  pub whole : IsTrue ghosts.tells_reads → (q : State) → HasState (directory (ghosts.disk old).reads) q
      → Runs (IsTrue ghosts.tells_all) ⊥ ending.status 1 ending.answered (ghosts.disk new).reads (ghosts.output new) (item ∷ []) End q (ghosts.output old)
  pub complete : IsTrue ghosts.tells_reads → (q : State) → HasState (directory (ghosts.disk old).reads) q
      → AnswersAll (IsTrue ghosts.tells_all) ending.status 1 ending.answered (ghosts.disk new).reads (ghosts.output new) (item ∷ []) q (ghosts.output old)
  pub instants : IsTrue ghosts.tells_all → (q : State) → HasState (directory (ghosts.disk old).reads) q
      → Opens ghosts old new (IsAfterSome q (item ∷ []) (ghosts.output old))
  pub at_rest : IsAtRest (ghosts.disk old) → (q : State) → HasState (directory (ghosts.disk old).reads) q
      → Leaves ghosts old new (IsAfterSome q (item ∷ []) (ghosts.output old))
  pub anywhere : RunsAnywhere ghosts (IsAlone item) 1 ending.status ending.answered old new
  pub answers : IsTrue (is_status ending.status) → AnswersEach (IsTrue ghosts.tells_all) ending.status (item ∷ []) (ghosts.output old) (ghosts.output new)
  pub closed : ClosesRun ghosts ending.status old new
  pub refusals : SaysRefusal ghosts (IsOfNext (IsAlone item) ending.answered) ending.status old new
  pub counts : CountsSite ghosts ending.status old new
  pub syncs : IsTrue ghosts.tells_all → ghosts.syncs new ≤ ghosts.syncs old + 16 + (ghosts.log_bytes new - ghosts.log_bytes old) / 1_048_576

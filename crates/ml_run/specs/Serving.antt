-- What a run over a feed promises, for a feed that was `before` and is `after`, and a store or a site that was `old` and is `new`.
use Rattle.std.specs.Prelude.{◌≡◌, ℕ, IsTrue, List, length, take, Some}
use Rattle.ml_base.specs.Bytes.{Text}
use Rattle.ml_base.specs.Faults.{Rose}
use Rattle.ml_site.specs.Disk.{Contents}
use Rattle.ml_site.specs.declared.site.Site.{Ghosts}
use Rattle.ml_plain.specs.Histories.{State}
use Rattle.ml_plain.specs.declared.Item.{Item}
use Rattle.ml_ending.specs.declared.endings.Ending.{Ending}
use Rattle.ml_stream.specs.Stream.{StreamEnd}
use Rattle.ml_run.specs.declared.feed.Feed.{Ghosts as FeedGhosts}
use Rattle.ml_run.specs.Clauses.{AnswersStream}
use Rattle.ml_run.specs.Endings.{Begins, FromTaken, Runs, TakesFew}
use Rattle.ml_run.specs.Feeds.{IsFresh}
use Rattle.ml_run.specs.Leaving.{IsAfterSome}

-- a feed at its front, which may be asked for an item
pub record IsReady {F : Type 0} (fed : FeedGhosts F) (feed : F) : Type 0 where
  pub sound : fed.sound feed
  pub fresh : IsFresh (fed.reader feed)

-- What becomes of a list and these items, with what holds at each instant (M). What was done, and what was put out, is of the items within the
-- bytes that were taken; with status 74 all of these are answered.
pub record EndsList {F S : Type 0} (fed : FeedGhosts F) (ghosts : Ghosts S) (M : (Contents → Text → Type 0) → Type 0) (limit : ℕ) (before after : F) (old new : S) (ended : Ending) (all : List Item) (ending : StreamEnd) (q : State) : Type 0 where
  pub whole : Runs (IsTrue ghosts.tells_all) (Rose (fed.faults before) (fed.faults after)) ended.status limit ended.answered (ghosts.disk new).reads (ghosts.output new) all ending q (ghosts.output old)
  pub instants : M (IsAfterSome q (take limit all) (ghosts.output old))
  pub taken : FromTaken (fed.left before) (fed.left after) (λ items.
      (IsTrue ghosts.tells_all → IsAfterSome q (take limit items) (ghosts.output old) (ghosts.disk new).reads (ghosts.output new)) × (ended.status ≡ 74 → ended.answered ≡ length items))

-- the same of each list for which the directory may stand, and of all that the feed brings
abbrev pub EndsEachList : {F S : Type 0} → FeedGhosts F → Ghosts S → ((Contents → Text → Type 0) → Type 0) → ℕ → F → F → S → S → Ending → Type 0
EndsEachList fed ghosts M limit before after old new ended =
    IsTrue ghosts.tells_reads → (all : List Item) (ending : StreamEnd) (q : State) → Begins (fed.left before) (ghosts.disk old).reads all ending q
    → EndsList fed ghosts M limit before after old new ended all ending q

-- what it tells of the feed's stream, whatever the directory, and what it takes of it
pub record ReadsFeed {F S : Type 0} (fed : FeedGhosts F) (ghosts : Ghosts S) (limit : ℕ) (before after : F) (old new : S) (ended : Ending) : Type 0 where
  pub stream : AnswersStream ghosts (fed.left before) ended.status limit ended.answered old new
  pub few : (bytes : Text) → fed.left before ≡ Some bytes → TakesFew ended.status limit (fed.left before) (fed.left after)
  pub through : fed.through after ≡ fed.through before

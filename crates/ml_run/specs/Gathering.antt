-- What is known of a batch that was read and applied, for a feed that was `before` and is `after`.
use Rattle.std.specs.Prelude.{◌≡◌, ◌≤◌, ◌-◌, ℕ, List, None}
use Rattle.ml_base.specs.Bytes.{Text}
use Rattle.ml_base.specs.Dir.{Dir}
use Rattle.ml_plain.specs.declared.Item.{Item}
use Rattle.ml_plain.specs.Directory.{IsState}
use Rattle.ml_plain.specs.Histories.{State}
use Rattle.ml_stream.specs.Items.{HasLeft, ahead_of, place_of}
use Rattle.ml_stream.specs.Stream.{StreamEnd}
use Rattle.ml_run.specs.declared.feed.Feed.{Ghosts as FeedGhosts}
use Rattle.ml_run.specs.declared.batches.Batch.{Batch}
use Rattle.ml_run.specs.declared.batches.BatchEnd.{BatchEnd}
use Rattle.ml_run.specs.declared.batches.BatchEnd.TheVariants as ends
use Rattle.ml_run.specs.Batches.{EndsInTime, Gathers, IsAhead, IsFullBatch, IsBatch, Reads, TakesSome}
use Rattle.ml_run.specs.Anywhere.{GathersDone}

-- a batch of at most this many items, which ended as soon as it was full
pub record IsGathered (end : BatchEnd) (room : ℕ) (g : Batch) : Type 0 where
  pub batch : IsBatch g
  pub few : g.count ≤ room
  pub full : IsFullBatch end g room
  pub in_time : EndsInTime end g

-- what the batch does to any list for which the directory stands, and what was done for its items whatever the directory holds
pub record DoesBatch {F : Type 0} (fed : FeedGhosts F) (dir : Dir) (end : BatchEnd) (room last : ℕ) (g : Batch) (before after : F) : Type 0 where
  pub gathered : (ahead : List Item) (ending : StreamEnd) (q : State) → IsAhead (fed.reader before) (fed.left before) ahead ending → IsState dir q
      → Gathers dir last g end room (fed.reader after) (fed.left after) ahead ending q
  pub done : GathersDone dir g end (fed.reader before) (fed.reader after) (fed.left before) (fed.left after)

-- what was read of the feed for the batch, and which of its bytes were taken; it can be read further if the batch is full
pub record ReadsBatch {F : Type 0} (fed : FeedGhosts F) (end : BatchEnd) (room last : ℕ) (g : Batch) (before after : F) : Type 0 where
  pub streamed : (ahead : List Item) (ending : StreamEnd) → IsAhead (fed.reader before) (fed.left before) ahead ending → Reads end last g (room - g.count) (fed.reader after) (fed.left after) ahead ending
  pub taken : (bs : Text) → ahead_of (fed.reader before) ≡ None → HasLeft (fed.reader before) (fed.left before) bs
      → TakesSome end (place_of (fed.reader before)) bs g.count (room - g.count) (fed.reader after) (fed.left after)
  pub sound : end ≡ ends.Full → fed.sound after
  pub through : fed.through after ≡ fed.through before
  pub later : fed.faults before ≤ fed.faults after

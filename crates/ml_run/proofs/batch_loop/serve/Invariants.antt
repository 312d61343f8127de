use Rattle.std.proofs.Common.{◌≡◌, ◌≤◌, ◌<◌, ◌-◌, ℕ, List, IsTrue, Some, length, [], ◌∷◌, ◌++◌}
use Rattle.ml_base.specs.Bytes.{Text}
use Rattle.ml_base.specs.Dir.{Dir}
use Rattle.ml_plain.specs.declared.Item.{Item}
use Rattle.ml_journal.specs.Log.{directory}
use Rattle.ml_journal.specs.Stores.{site_of}
use Rattle.ml_plain.specs.Histories.{State}
use Rattle.ml_stream.specs.Stream.{StreamEnd}
use Rattle.ml_run.specs.Batches.{IsEmptyBatch, TakesSome}
use Rattle.ml_run.specs.declared.batches.BatchEnd.TheVariants.{Full}
use Rattle.ml_run.specs.Anywhere.{HasServed}
use Rattle.ml_run.specs.Spending.{HasSpent}
use Rattle.ml_run.specs.Endings.{Begins, Brings, HasRead, IsServing}
use Rattle.ml_run.proofs.batch_loop.serve.Given as goal

abbrev pub invariant-batches : goal.invariant-batches
invariant-batches g l =
    let start = site_of l.fn.store in
    let now = site_of l.now in
    record {
      empty : IsEmptyBatch l.batch;
      sound : g.F.Feed.sound l.feed;
      through : g.F.Feed.through l.feed ≡ g.F.Feed.through l.fn.feed;
      few : l.answered ≤ l.limit;
      taken : (bytes : Text) → g.F.Feed.left l.fn.feed ≡ Some bytes → TakesSome Full 0 bytes l.answered 0 (g.F.Feed.reader l.feed) (g.F.Feed.left l.feed);
      streamed : (all : List Item) (ending : StreamEnd) → Brings (g.F.Feed.left l.fn.feed) all ending → HasRead l.answered l.batch.last (λ (lines : Text). IsTrue g.S.Site.tells_all → g.S.Site.output now ≡ g.S.Site.output start ++ lines) (g.F.Feed.reader l.feed) (g.F.Feed.left l.feed) all ending;
      input_later : g.F.Feed.faults l.fn.feed ≤ g.F.Feed.faults l.feed;
      disk_later : g.S.Site.disk_faults start ≤ g.S.Site.disk_faults now;
      output_later : g.S.Site.output_faults start ≤ g.S.Site.output_faults now;
      so_far : IsTrue g.S.Site.tells_reads → (all : List Item) (ending : StreamEnd) (q : State) → Begins (g.F.Feed.left l.fn.feed) (g.S.Site.disk start).reads all ending q
          → IsServing g.S.Site start now l.limit l.answered l.batch.last (g.F.Feed.reader l.feed) (g.F.Feed.left l.feed) all ending q;
      anywhere : IsTrue g.S.Site.tells_reads → (files : Dir) → directory (g.S.Site.disk start).reads ≡ Some files → HasServed g.S.Site files start now l.answered (g.F.Feed.reader l.feed) (g.F.Feed.left l.feed) (g.F.Feed.left l.fn.feed);
      spent : IsTrue g.S.Site.tells_all → (g.S.Site.disk start).reads.log ≡ 0 ∷ [] → (others : ℕ) × (others ≤ 2) × (l.answered < l.limit → others ≡ 0)
          × HasSpent (g.S.Site.syncs start) (g.S.Site.syncs now) (g.S.Site.log_bytes start) (g.S.Site.log_bytes now) (length (g.S.Site.disk now).reads.log) l.answered others;
    }

abbrev pub decreases-batches : goal.decreases-batches
decreases-batches g l = l.limit - l.answered

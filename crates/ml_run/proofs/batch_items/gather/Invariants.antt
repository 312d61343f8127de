use Rattle.std.proofs.Common.{◌≡◌, ◌<◌, IsTrue}
use Rattle.ml_journal.specs.Kept.{IsKept}
use Rattle.ml_run.specs.declared.batches.BatchEnd.TheVariants.{Full}
use Rattle.ml_run.specs.Gathering.{DoesBatch, ReadsBatch}
use Rattle.ml_run.specs.Batches.{IsBatch, IsJustFull}
use Rattle.ml_run.specs.Leaving.{dir_of}
use Rattle.ml_run.proofs.batch_items.gather.Given as goal

abbrev pub invariant-loop-taken : goal.invariant-loop-taken
invariant-loop-taken g l = record {
  kept : IsKept l.fn.store l.store;
  batch : IsBatch l.batch;
  count : l.batch.count ≡ l.taken;
  sound : g.F.Feed.sound l.feed;
  low : l.batch.size < 4_194_304;
  just : 0 < l.batch.count → IsJustFull l.batch;
  done : IsTrue g.S.Site.tells_reads → DoesBatch g.F.Feed (dir_of l.fn.store) Full l.room l.fn.batch.last l.batch l.fn.feed l.feed;
  read : ReadsBatch g.F.Feed Full l.room l.fn.batch.last l.batch l.fn.feed l.feed;
}

use Rattle.std.proofs.Common.{ap, arith}
use Rattle.std.proofs.lemmas.List.{drop_all}
use Rattle.ml_journal.specs.Records.{content_size}
use Rattle.ml_run.proofs.Batching.{content_next}
use Rattle.ml_run.proofs.batches.contents_size.Goals as goal

pub loop-put-preserved : goal.loop-put-preserved
loop-put-preserved c =
    let next = content_next c.args.puts.now c.loop-put.put-index c.put-item.result (omega arith) c.put-item.is in record {
      so_far = omega (arith, next, c.loop-put.invariant.so_far, c.put_size.ensures);
      fits = omega (arith, c.loop-put.invariant.fits);
    }

pub returns : goal.returns
returns c =
    let none = ap content_size (drop_all c.loop-put.put-index c.args.puts.now (omega arith)) in
    omega (arith, none, c.loop-put.invariant.so_far, c.loop-put.invariant.fits)

use Rattle.std.proofs.Common.{◌-◌, ◌^◌, min, ◌∙◌, ap, sym, List, length}
use Rattle.ml_base.specs.declared.puts.Put.{Put}
use Rattle.ml_journal.specs.Records.{content_size}
use Rattle.ml_run.proofs.Batching.{next_batch, laid_txn}
use Rattle.ml_run.proofs.batches.with_answer.Goals as goal

pub returns-in-Ok-clause-batch : goal.returns-in-Ok-clause-batch
returns-in-Ok-clause-batch c =
    next_batch c.args.batch c.batched.result c.args.more c.args.number c.status.result c.requires.batch c.requires.room c.requires.files c.status.ensures.either
    (c.batched.ensures.txn ∙ laid_txn c.args.batch.txn c.args.more _ _ _ c.in-Ok.ensures.txn (ap length c.as_slice-front.ensures) c.laid-puts.ensures) c.batched.ensures.count (c.batched.ensures.size ∙ ap (λ (l : List Put). min (content_size l) (2 ^ 64 - 1)) (sym c.batched.ensures.txn)) (c.batched.ensures.first ∙ c.first_of-first.ensures) c.batched.ensures.last

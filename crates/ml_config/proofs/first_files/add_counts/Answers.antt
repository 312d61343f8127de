use Rattle.std.proofs.Common.{◌∙◌, ◌++◌, ◌∷◌, [], ap}
use Rattle.ml_base.specs.Bytes.{Text}
use Rattle.ml_config.specs.FirstFiles.{file_put}
use Rattle.ml_config.proofs.FirstFileLemmas.{one_count_more}
use Rattle.ml_config.proofs.first_files.add_counts.Goals as goal

pub loop-set-preserved : goal.loop-set-preserved
loop-set-preserved c = one_count_more _ _ _ c.loop-set.set c.loop-set.invariant (c.in_ok-add.ensures ∙ ap (λ (b : Text). c.loop-set.txn ++ file_put 8 c.loop-set.set b ∷ []) c.in_ok-from_slice.ensures)

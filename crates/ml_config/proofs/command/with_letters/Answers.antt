use Rattle.ml_config.proofs.FlagLemmas.{named_at, one_more}
use Rattle.ml_config.proofs.command.with_letters.Goals as goal

pub letter-requires : goal.letter-requires
letter-requires c = named_at c.args.table.now c.loop-id.id-index _ c.loop-id-test.true c.requires

pub loop-id-preserved : goal.loop-id-preserved
loop-id-preserved c =
    one_more _ _ _ _ c.args.table.now c.loop-id.id-index _ c.loop-id-test.true c.loop-id.invariant (c.in_ok-command.ensures.shape c.letter.ensures.global) c.letter.ensures.rule

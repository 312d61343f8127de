use Rattle.std.proofs.Common.{◌∙◌}
use Rattle.ml_filing.proofs.KeyTurns.{strip_more, strip_none}
use Rattle.ml_filing.proofs.subjects.stripped.Goals as goal

pub loop-more-preserved : goal.loop-more-preserved
loop-more-preserved c list low =
    strip_more list c.args.prefix.now c.loop-more.rest.now c.in-Some.more.now c.without_front-rest.result.now low c.in-Some.ensures.value c.without_front-rest.ensures.value
    ∙ c.loop-more.invariant list low

pub returns : goal.returns
returns c list low = strip_none list c.args.prefix.now c.loop-more.rest.now low c.in_default.ensures.value ∙ c.loop-more.invariant list low

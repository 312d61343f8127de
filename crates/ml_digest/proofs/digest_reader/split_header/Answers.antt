use Rattle.std.proofs.Common.{sym, ◌∙◌}
use Rattle.ml_digest.proofs.Cutting.{not_split}
use Rattle.ml_digest.proofs.Told.{begun_more, header_ends, no_header, none_there, some_there}
use Rattle.ml_digest.proofs.digest_reader.split_header.Goals as goal

pub returns-then-is_empty-clause-some : goal.returns-then-is_empty-clause-some
returns-then-is_empty-clause-some c =
    header_ends c.args.text.now c.loop-line.last.now c.loop-line.rest.now c.in-Some.line.now c.in-Some.more.now c.loop-line.invariant c.in-Some.ensures.value
    (none_there c.in-Some.line.now (sym c.is_empty.ensures ∙ c.if-is_empty.true))

pub loop-line-preserved : goal.loop-line-preserved
loop-line-preserved c =
    begun_more c.args.text.now c.loop-line.last.now c.loop-line.rest.now c.in-Some.line.now c.in-Some.more.now c.loop-line.invariant c.in-Some.ensures.value
    (some_there c.in-Some.line.now (sym c.is_empty.ensures ∙ c.if-is_empty.false))

pub returns-clause-none : goal.returns-clause-none
returns-clause-none c = λ last rest. no_header c.args.text.now c.loop-line.last.now c.loop-line.rest.now last rest c.loop-line.invariant (not_split c.loop-line.rest.now c.in_default.ensures.value)

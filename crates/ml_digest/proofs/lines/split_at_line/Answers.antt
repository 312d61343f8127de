use Rattle.ml_digest.proofs.Cutting.{passed_more, barred_first, no_lines_left, cut_here, not_split, same_bytes, other_bytes}
use Rattle.ml_digest.proofs.lines.split_at_line.Goals as goal

pub returns-then-eq-clause-some : goal.returns-then-eq-clause-some
returns-then-eq-clause-some c =
    cut_here c.args.wanted.now c.args.barred.now c.args.text.now c.loop-line.rest.now c.in-Some.line.now c.in-Some.more.now c.loop-line.invariant c.in-Some.ensures.value
    (same_bytes c.in-Some.line.now c.args.wanted.now c.eq.result c.eq.ensures c.if-eq.true)

pub returns-then-eq-2-clause-none : goal.returns-then-eq-2-clause-none
returns-then-eq-2-clause-none c =
    barred_first c.args.wanted.now c.args.barred.now c.args.text.now c.loop-line.rest.now c.in-Some.line.now c.in-Some.more.now c.requires c.loop-line.invariant c.in-Some.ensures.value
    (other_bytes c.in-Some.line.now c.args.wanted.now c.eq.result c.eq.ensures c.if-eq.false)
    (same_bytes c.in-Some.line.now c.args.barred.now c.eq-in-Some.result c.eq-in-Some.ensures c.if-eq-2.true)

pub loop-line-preserved : goal.loop-line-preserved
loop-line-preserved c =
    passed_more c.args.wanted.now c.args.barred.now c.args.text.now c.loop-line.rest.now c.in-Some.line.now c.in-Some.more.now c.loop-line.invariant c.in-Some.ensures.value
    (other_bytes c.in-Some.line.now c.args.wanted.now c.eq.result c.eq.ensures c.if-eq.false)
    (other_bytes c.in-Some.line.now c.args.barred.now c.eq-in-Some.result c.eq-in-Some.ensures c.if-eq-2.false)

pub returns-clause-none : goal.returns-clause-none
returns-clause-none c =
    no_lines_left c.args.wanted.now c.args.barred.now c.args.text.now c.loop-line.rest.now c.requires c.loop-line.invariant (not_split c.loop-line.rest.now c.in_default.ensures.value)

use Rattle.std.proofs.Common.{sym, ◌∙◌}
use Rattle.ml_digest.proofs.Ranges.{is_due_by, due_range, due_none, due_some}
use Rattle.ml_digest.proofs.choice.due.Goals as goal

pub returns-then-not-is_due-clause-value : goal.returns-then-not-is_due-clause-value
returns-then-not-is_due-clause-value c =
    due_none c.args.mark.now.last c.args.oldest c.args.now c.args.sizes.now c.is_due.result
    (c.is_due.ensures ∙ sym (is_due_by c.args.sizes.now c.args.oldest c.args.now c.requires.count)) c.if-not-is_due.true

pub returns-clause-value : goal.returns-clause-value
returns-clause-value c =
    due_some c.args.mark.now.last c.args.oldest c.args.now c.args.sizes.now c.is_due.result c.cut_len.result
    (c.is_due.ensures ∙ sym (is_due_by c.args.sizes.now c.args.oldest c.args.now c.requires.count)) c.if-not-is_due.false c.cut_len.ensures.value

pub returns-clause-range : goal.returns-clause-range
returns-clause-range c =
    due_range c.args.mark.now.last c.args.oldest c.args.now c.args.sizes.now _
    (sym (due_some c.args.mark.now.last c.args.oldest c.args.now c.args.sizes.now c.is_due.result c.cut_len.result
    (c.is_due.ensures ∙ sym (is_due_by c.args.sizes.now c.args.oldest c.args.now c.requires.count)) c.if-not-is_due.false c.cut_len.ensures.value))

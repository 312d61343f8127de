use Rattle.std.proofs.Common.{◌++◌, length, sym, ap, ◌∙◌}
use Rattle.ml_header.specs.Unfolding.{trim_end, without_cr, onto_trimmed}
use Rattle.ml_header.proofs.Unfolds.{next_line, last_line}
use Rattle.ml_header.proofs.unfolded_values.unfolded_value.Goals as goal

pub loop-line-preserved : goal.loop-line-preserved
loop-line-preserved c =
    let was = c.loop-line.invariant in
    let next = next_line c.args.value.now was.0 c.loop-line.text c.push_trimmed.new.text c.loop-line.rest.now c.in-Some.line.now c.in-Some.more.now was.1 was.2 c.in-Some.ensures.value
    (c.in_ok-push_trimmed.ensures ∙ ap (onto_trimmed c.loop-line.text) c.strip_cr.ensures) in (
      was.0 ++ without_cr c.in-Some.line.now,
      next.0,
      next.1,
    )

pub returns : goal.returns
returns c =
    let was = c.loop-line.invariant in
    c.truncate.ensures ∙ last_line c.args.value.now was.0 c.loop-line.text c.push_trimmed-2.new.text c.loop-line.rest.now (length c.trim_end-len.result.now) was.1 was.2 (sym c.in_default.ensures.value)
    c.in_ok-push_trimmed-2.ensures (ap length (c.trim_end-len.ensures ∙ ap trim_end c.as_slice.ensures))

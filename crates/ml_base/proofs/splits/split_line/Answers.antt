use Rattle.std.proofs.Common.{sym, ◌∙◌, arith}
use Rattle.ml_base.proofs.FirstLemmas.{no_lines, line_sizes, line_given}
use Rattle.ml_base.proofs.splits.split_line.Goals as goal

pub split_at-requires : goal.split_at-requires
split_at-requires c = (line_sizes c.args.text.now c.in-Some.line.now c.next.new.self (sym c.lines_with_terminator.ensures.value ∙ c.in-Some.ensures.steps)).1

pub returns-in-None-clause-value : goal.returns-in-None-clause-value
returns-in-None-clause-value c = no_lines c.args.text.now (sym c.lines_with_terminator.ensures.value ∙ c.in-None.ensures.steps.0)

pub returns-in-Some-clause-value : goal.returns-in-Some-clause-value
returns-in-Some-clause-value c =
    let cut = c.split_at.ensures in
    rw (cut.front, cut.back) (line_given c.args.text.now c.in-Some.line.now c.next.new.self (sym c.lines_with_terminator.ensures.value ∙ c.in-Some.ensures.steps))

pub returns-in-Some-clause-lengths : goal.returns-in-Some-clause-lengths
returns-in-Some-clause-lengths c =
    let sizes = line_sizes c.args.text.now c.in-Some.line.now c.next.new.self (sym c.lines_with_terminator.ensures.value ∙ c.in-Some.ensures.steps) in
    let cut = c.split_at.ensures in
    (omega (arith, sizes.0, sizes.1, cut.front_len), omega (arith, sizes.1, cut.front_len, cut.back_len))

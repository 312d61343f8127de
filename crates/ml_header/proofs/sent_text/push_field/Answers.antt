use Rattle.std.proofs.Common.{ap, ◌∙◌}
use Rattle.std.specs.Option.{option_map}
use Rattle.ml_base.specs.Texts.{with_line_end}
use Rattle.ml_header.specs.Places.{text_of}
use Rattle.ml_header.specs.Steps.{with_due}
use Rattle.ml_header.proofs.Rewrites.{line_end_after, some_lines}
use Rattle.ml_header.proofs.sent_text.push_field.Goals as goal

pub returns : goal.returns
returns c =
    let due = option_map (λ p. p.now) c.args.prefix in
    let f = text_of c.args.field.now in
    c.in_ok-end_line.ensures ∙ ap with_line_end c.in_ok-push_lines.ensures ∙ line_end_after c.args.text.now (with_due due f).lines (some_lines due f c.requires)

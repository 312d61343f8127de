use Rattle.std.proofs.Common.{sym, ◌∙◌}
use Rattle.ml_header.proofs.Rewrites.{ended_body}
use Rattle.ml_header.proofs.sent_text.push_ended.Goals as goal

pub returns : goal.returns
returns c =
    ended_body c.args.text.now c.args.body.now c.extend.new.self c.end_line.new.text (sym c.is_empty.ensures ∙ c.if-is_empty.false) c.in_ok-extend.ensures.ok c.in_ok-end_line.ensures

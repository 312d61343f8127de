use Rattle.std.proofs.Common.{◌∙◌}
use Rattle.ml_header.proofs.Rewrites.{is_found}
use Rattle.ml_header.proofs.sent_text.has_part.Goals as goal

pub returns : goal.returns
returns c = c.is_some.ensures ∙ is_found c.args.part.now c.args.text.now c.find.result c.find.ensures

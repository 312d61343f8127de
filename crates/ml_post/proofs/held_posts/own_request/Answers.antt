use Rattle.std.proofs.Common.{ap, ◌∙◌}
use Rattle.ml_base.specs.Splits.{has_byte}
use Rattle.ml_acts.proofs.Letters.{host_clean}
use Rattle.ml_post.proofs.held_posts.own_request.Goals as goal

pub write_request-requires-clause-host : goal.write_request-requires-clause-host
write_request-requires-clause-host c = ap (has_byte 64) c.as_slice-2.ensures ∙ host_clean c.args.config.now c.requires.config

use Rattle.std.proofs.Common.{◌∙◌, sym}
use Rattle.ml_config.proofs.Checked.{config_made}
use Rattle.ml_config.proofs.words.configuration.Goals as goal

pub returns-in-Some-clause-ranges : goal.returns-in-Some-clause-ranges
returns-in-Some-clause-ranges c = config_made c.args.flags c.as_bytes.result.now c.as_bytes-2.result.now c.as_bytes-3.result.now c.args.prefix c.args.max _ (sym c.in_ok-made.ensures ∙ c.in-Some.is)

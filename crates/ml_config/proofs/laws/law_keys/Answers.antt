use Rattle.ml_config.proofs.KeyLemmas.{one_key_file}
use Rattle.ml_config.proofs.laws.law_keys.Goals as goal

pub returns : goal.returns
returns c = one_key_file

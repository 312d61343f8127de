use Rattle.ml_config.proofs.Checked.{config_again, config_made}
use Rattle.ml_config.proofs.OneSpelling.{one_in_file, one_spelling}
use Rattle.ml_config.proofs.laws.law_configurations.Goals as goal

pub returns-clause-made : goal.returns-clause-made
returns-clause-made c = config_made

pub returns-clause-again : goal.returns-clause-again
returns-clause-again c = config_again

pub returns-clause-one : goal.returns-clause-one
returns-clause-one c = one_spelling

pub returns-clause-file : goal.returns-clause-file
returns-clause-file c = one_in_file

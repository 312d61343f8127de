use Rattle.ml_list.proofs.Undamaged.{config_agrees, floor_agrees, replies_agree}
use Rattle.ml_list.proofs.laws.law_undamaged.Goals as goal

pub returns-clause-config : goal.returns-clause-config
returns-clause-config c = config_agrees

pub returns-clause-floor : goal.returns-clause-floor
returns-clause-floor c = floor_agrees

pub returns-clause-replies : goal.returns-clause-replies
returns-clause-replies c = replies_agree

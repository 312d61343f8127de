use Rattle.ml_list.proofs.Damages.{none_damaged}
use Rattle.ml_list.proofs.laws.law_damage.Goals as goal

pub returns : goal.returns
returns c = none_damaged

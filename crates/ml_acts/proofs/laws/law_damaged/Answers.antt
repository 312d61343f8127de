use Rattle.ml_acts.proofs.Damages.{none_damaged}
use Rattle.ml_acts.proofs.laws.law_damaged.Goals as goal

pub returns : goal.returns
returns c = none_damaged

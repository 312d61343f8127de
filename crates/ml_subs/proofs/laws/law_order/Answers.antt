use Rattle.ml_base.proofs.BelowLemmas.{keys_agree}
use Rattle.ml_subs.proofs.laws.law_order.Goals as goal

pub returns : goal.returns
returns c = keys_agree

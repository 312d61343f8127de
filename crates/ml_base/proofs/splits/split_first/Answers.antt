use Rattle.std.proofs.Common.{arith}
use Rattle.ml_base.proofs.FirstLemmas.{first_none, first_here}
use Rattle.ml_base.proofs.Bools.{not_true}
use Rattle.ml_base.proofs.splits.split_first.Goals as goal

pub returns-in-None-clause-value : goal.returns-in-None-clause-value
returns-in-None-clause-value c = first_none c.args.byte c.args.text.now (λ k less. not_true _ (c.in-None.ensures k (omega arith) less))

pub returns-in-Some-clause-value : goal.returns-in-Some-clause-value
returns-in-Some-clause-value c =
    let found = c.in-Some.ensures in
    first_here c.args.byte c.args.text.now c.in-Some.at (found.0).high found.1 (λ j below. not_true _ ((found.0).before j (omega arith) below))

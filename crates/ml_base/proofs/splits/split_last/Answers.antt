use Rattle.std.proofs.Common.{sym, arith}
use Rattle.ml_base.proofs.Bools.{not_true}
use Rattle.ml_base.proofs.SplitLemmas.{split_none, split_here}
use Rattle.ml_base.proofs.splits.split_last.Goals as goal

pub returns-in-None-clause-value : goal.returns-in-None-clause-value
returns-in-None-clause-value c = sym (split_none c.args.byte c.args.text.now (λ k less. not_true _ (c.in-None.ensures k (omega arith) less)))

pub returns-in-Some-clause-value : goal.returns-in-Some-clause-value
returns-in-Some-clause-value c =
    let found = c.in-Some.ensures in
    split_here c.args.byte c.args.text.now c.in-Some.at (found.0).high found.1 (λ j above below. not_true _ ((found.0).after j (omega arith) below))

use Rattle.std.proofs.Common.{arith}
use Rattle.ml_header.proofs.Unfolds.{blank, no_blank, all_blank_end, blank_end}
use Rattle.ml_header.proofs.unfolded_values.trim_end.Goals as goal

pub returns-in-None : goal.returns-in-None
returns-in-None c = all_blank_end c.args.text.now (λ j less. blank _ (c.in-None.ensures j (omega arith) less))

pub returns-in-Some : goal.returns-in-Some
returns-in-Some c =
    let found = c.in-Some.ensures in
    blank_end c.args.text.now c.in-Some.at (found.0).high (no_blank _ found.1) (λ j above below. blank _ ((found.0).after j (omega arith) below))

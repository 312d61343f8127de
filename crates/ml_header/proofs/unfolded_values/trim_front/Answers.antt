use Rattle.std.proofs.Common.{◌∙◌, arith}
use Rattle.ml_header.proofs.Headers.{rest_slice}
use Rattle.ml_header.proofs.Unfolds.{blank, no_blank, all_blank_front, blank_front}
use Rattle.ml_header.proofs.unfolded_values.trim_front.Goals as goal

pub returns-in-None : goal.returns-in-None
returns-in-None c = all_blank_front c.args.text.now (λ j less. blank _ (c.in-None.ensures j (omega arith) less))

pub returns-in-Some : goal.returns-in-Some
returns-in-Some c =
    let found = c.in-Some.ensures in
    rest_slice c.in-Some.at c.args.text.now
    ∙ blank_front c.args.text.now c.in-Some.at (found.0).high (λ j below. blank _ ((found.0).before j (omega arith) below)) (no_blank _ found.1)

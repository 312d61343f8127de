use Rattle.std.proofs.Common.{arith}
use Rattle.ml_generated.proofs.Streams.{items_read}
use Rattle.ml_generated.proofs.laws.law_generated.Goals as goal

pub returns : goal.returns
returns c = λ local host n few some small. items_read 0 local host 1 n few some (omega (arith, small))

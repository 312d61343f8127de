use Rattle.ml_stream.proofs.Numbered.{acts_read}
use Rattle.ml_stream.proofs.laws.law_numbered.Goals as goal

pub returns : goal.returns
returns c = acts_read

use Rattle.ml_digest.proofs.Ranges.{due_range}
use Rattle.ml_digest.proofs.laws.law_due.Goals as goal

pub returns : goal.returns
returns c = due_range

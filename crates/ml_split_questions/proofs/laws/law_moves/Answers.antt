use Rattle.ml_split_questions.proofs.Written.{moves_read}
use Rattle.ml_split_questions.proofs.laws.law_moves.Goals as goal

pub returns : goal.returns
returns c = moves_read

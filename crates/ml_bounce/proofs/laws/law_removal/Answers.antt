use Rattle.ml_bounce.proofs.Removing.{course_removes}
use Rattle.ml_bounce.proofs.laws.law_removal.Goals as goal

pub returns : goal.returns
returns c = course_removes

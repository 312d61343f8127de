use Rattle.ml_bounce.proofs.Coursed.{coursed}
use Rattle.ml_bounce.proofs.laws.law_course.Goals as goal

pub returns : goal.returns
returns c = coursed

use Rattle.std.proofs.Common.{[], ◌∷◌, ap}
use Rattle.ml_base.specs.Dir.{Dir}
use Rattle.ml_base.proofs.Laid.{laid_joined, untouched, left_alone}
use Rattle.ml_base.proofs.laws.law_puts.Goals as goal

pub returns-clause-appended : goal.returns-clause-appended
returns-clause-appended c = laid_joined

pub returns-clause-last : goal.returns-clause-last
returns-clause-last c = λ dir puts put name. ap (λ (d : Dir). d name) (laid_joined dir puts (put ∷ []))

pub returns-clause-untouched : goal.returns-clause-untouched
returns-clause-untouched c = untouched

pub returns-clause-others : goal.returns-clause-others
returns-clause-others c = left_alone

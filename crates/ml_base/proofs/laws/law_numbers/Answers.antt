use Rattle.ml_base.proofs.NumberLaws.{number_spelled, number_read}
use Rattle.ml_base.proofs.laws.law_numbers.Goals as goal

pub returns-clause-read : goal.returns-clause-read
returns-clause-read c = number_spelled

pub returns-clause-written : goal.returns-clause-written
returns-clause-written c = number_read

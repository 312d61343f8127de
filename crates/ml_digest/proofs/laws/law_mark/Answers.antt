use Rattle.ml_digest.proofs.Marks.{mark_exact, mark_one, mark_own, mark_set, mark_elsewhere}
use Rattle.ml_digest.proofs.laws.law_mark.Goals as goal

pub returns-clause-read : goal.returns-clause-read
returns-clause-read c = mark_exact

pub returns-clause-one : goal.returns-clause-one
returns-clause-one c = mark_one

pub returns-clause-own : goal.returns-clause-own
returns-clause-own c = mark_own

pub returns-clause-put : goal.returns-clause-put
returns-clause-put c = mark_set

pub returns-clause-elsewhere : goal.returns-clause-elsewhere
returns-clause-elsewhere c = mark_elsewhere

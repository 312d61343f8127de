use Rattle.ml_bounce.proofs.Exact.{file_exact, file_one}
use Rattle.ml_bounce.proofs.laws.law_ledger_files.Goals as goal

pub returns-clause-read : goal.returns-clause-read
returns-clause-read c = file_exact

pub returns-clause-one : goal.returns-clause-one
returns-clause-one c = file_one

use Rattle.ml_filing.proofs.ByFiles.{threads_same, threads_there}
use Rattle.ml_filing.proofs.laws.law_threads.Goals as goal

pub returns-clause-same : goal.returns-clause-same
returns-clause-same c = threads_same

pub returns-clause-there : goal.returns-clause-there
returns-clause-there c = threads_there

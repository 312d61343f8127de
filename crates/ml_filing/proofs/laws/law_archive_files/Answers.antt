use Rattle.ml_filing.proofs.Exact.{index_exact, threads_exact, count_exact, index_one, threads_one, count_one}
use Rattle.ml_filing.proofs.laws.law_archive_files.Goals as goal

pub returns-clause-index : goal.returns-clause-index
returns-clause-index c = index_exact

pub returns-clause-threads : goal.returns-clause-threads
returns-clause-threads c = threads_exact

pub returns-clause-count : goal.returns-clause-count
returns-clause-count c = count_exact

pub returns-clause-one_index : goal.returns-clause-one_index
returns-clause-one_index c = index_one

pub returns-clause-one_row : goal.returns-clause-one_row
returns-clause-one_row c = threads_one

pub returns-clause-one_count : goal.returns-clause-one_count
returns-clause-one_count c = count_one

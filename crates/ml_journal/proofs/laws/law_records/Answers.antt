use Rattle.ml_journal.proofs.Records.{record_found}
use Rattle.ml_journal.proofs.laws.law_records.Goals as goal

pub returns-clause-read : goal.returns-clause-read
returns-clause-read c = record_found

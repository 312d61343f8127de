use Rattle.ml_bounce.proofs.Changed.{found_there, put_there, forgotten_there, put_elsewhere}
use Rattle.ml_bounce.proofs.laws.law_ledger_changes.Goals as goal

pub returns-clause-found : goal.returns-clause-found
returns-clause-found c = found_there

pub returns-clause-put : goal.returns-clause-put
returns-clause-put c = put_there

pub returns-clause-forgotten : goal.returns-clause-forgotten
returns-clause-forgotten c = forgotten_there

pub returns-clause-elsewhere : goal.returns-clause-elsewhere
returns-clause-elsewhere c = put_elsewhere

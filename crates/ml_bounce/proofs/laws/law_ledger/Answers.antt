use Rattle.ml_bounce.proofs.Represented.{ledger_one, ledger_own, ledger_broken, ledger_nothing}
use Rattle.ml_bounce.proofs.laws.law_ledger.Goals as goal

pub returns-clause-one : goal.returns-clause-one
returns-clause-one c = ledger_one

pub returns-clause-own : goal.returns-clause-own
returns-clause-own c = ledger_own

pub returns-clause-broken : goal.returns-clause-broken
returns-clause-broken c = ledger_broken

pub returns-clause-nothing : goal.returns-clause-nothing
returns-clause-nothing c = ledger_nothing

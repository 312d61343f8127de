use Rattle.ml_rows.proofs.RowLaws.{netstrings_exact}
use Rattle.ml_rows.proofs.ValueLaws.{moment_exact, address_exact, line_exact, commas_exact}
use Rattle.ml_rows.proofs.laws.law_values.Goals as goal

pub returns-clause-moment : goal.returns-clause-moment
returns-clause-moment c = moment_exact

pub returns-clause-address : goal.returns-clause-address
returns-clause-address c = address_exact

pub returns-clause-line : goal.returns-clause-line
returns-clause-line c = line_exact

pub returns-clause-commas : goal.returns-clause-commas
returns-clause-commas c = commas_exact

pub returns-clause-netstrings : goal.returns-clause-netstrings
returns-clause-netstrings c = netstrings_exact

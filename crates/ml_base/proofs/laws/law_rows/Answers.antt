use Rattle.ml_base.proofs.SplitLaws.{nul_rows, ns_rows, addresses_clean, addresses_short}
use Rattle.ml_base.proofs.laws.law_rows.Goals as goal

pub returns-clause-nul : goal.returns-clause-nul
returns-clause-nul c = nul_rows

pub returns-clause-netstrings : goal.returns-clause-netstrings
returns-clause-netstrings c = ns_rows

pub returns-clause-no_nul : goal.returns-clause-no_nul
returns-clause-no_nul c = addresses_clean

pub returns-clause-short : goal.returns-clause-short
returns-clause-short c = addresses_short

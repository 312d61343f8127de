use Rattle.ml_base.proofs.Netstrings.{netstring_read, netstring_written}
use Rattle.ml_base.proofs.laws.law_netstrings.Goals as goal

pub returns-clause-read : goal.returns-clause-read
returns-clause-read c = netstring_read

pub returns-clause-written : goal.returns-clause-written
returns-clause-written c = netstring_written

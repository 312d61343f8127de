use Rattle.ml_base.proofs.SplitLaws.{first_read, first_written, first_absent, last_read, last_written, last_absent}
use Rattle.ml_base.proofs.laws.law_splits.Goals as goal

pub returns-clause-first_read : goal.returns-clause-first_read
returns-clause-first_read c = first_read

pub returns-clause-first_written : goal.returns-clause-first_written
returns-clause-first_written c = first_written

pub returns-clause-first_absent : goal.returns-clause-first_absent
returns-clause-first_absent c = first_absent

pub returns-clause-last_read : goal.returns-clause-last_read
returns-clause-last_read c = last_read

pub returns-clause-last_written : goal.returns-clause-last_written
returns-clause-last_written c = last_written

pub returns-clause-last_absent : goal.returns-clause-last_absent
returns-clause-last_absent c = last_absent

use Rattle.std.proofs.Common.{false}
use Rattle.std.proofs.lemmas.Bool.{or_left}
use Rattle.ml_acts.proofs.Damages.{ok_then}
use Rattle.ml_manage.specs.Reads.{is_of_index}
use Rattle.ml_manage.proofs.archive.part_text.Goals as goal

pub returns-in-Posts-clause-apart : goal.returns-in-Posts-clause-apart
returns-in-Posts-clause-apart g c told = rw c.in-Posts.is (c.get_text.ensures.apart told)

pub returns-in-Thread-clause-apart : goal.returns-in-Thread-clause-apart
returns-in-Thread-clause-apart g c told = rw c.in-Thread.is (c.thread_text.ensures.apart told)

pub returns-in-Index-clause-apart : goal.returns-in-Index-clause-apart
returns-in-Index-clause-apart g c told =
    rw c.in-Index.is (ok_then c.index_text.result (λ text value dir p alike is conf. value dir p (λ name e. alike name (or_left (is_of_index c.in-Index.at name) false e)) is) (c.index_text.ensures.apart told))

pub returns-in-Posts-clause-found : goal.returns-in-Posts-clause-found
returns-in-Posts-clause-found g c told = rw c.in-Posts.is (c.get_text.ensures.found told)

pub returns-in-Thread-clause-found : goal.returns-in-Thread-clause-found
returns-in-Thread-clause-found g c told = rw c.in-Thread.is (c.thread_text.ensures.found told)

pub returns-in-Index-clause-found : goal.returns-in-Index-clause-found
returns-in-Index-clause-found g c told = rw c.in-Index.is (c.index_text.ensures.found told)

pub returns-in-Posts-clause-names : goal.returns-in-Posts-clause-names
returns-in-Posts-clause-names g c = rw c.in-Posts.is c.get_text.ensures.names

pub returns-in-Thread-clause-names : goal.returns-in-Thread-clause-names
returns-in-Thread-clause-names g c = rw c.in-Thread.is c.thread_text.ensures.names

pub returns-in-Index-clause-names : goal.returns-in-Index-clause-names
returns-in-Index-clause-names g c = rw c.in-Index.is c.index_text.ensures.names

use Rattle.ml_acts.proofs.Agreeing.{post_agrees, index_agrees, number_agrees, threads_agree}
use Rattle.ml_acts.proofs.laws.law_undamaged_archive.Goals as goal

pub returns-clause-post : goal.returns-clause-post
returns-clause-post c = post_agrees

pub returns-clause-index : goal.returns-clause-index
returns-clause-index c = index_agrees

pub returns-clause-number : goal.returns-clause-number
returns-clause-number c = number_agrees

pub returns-clause-threads : goal.returns-clause-threads
returns-clause-threads c = threads_agree

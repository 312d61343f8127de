use Rattle.ml_filing.proofs.Represented.{posts_one, archive_one, posts_own, archive_own, broken_index, broken_threads, broken_count, archive_nothing}
use Rattle.ml_filing.proofs.laws.law_archive.Goals as goal

pub returns-clause-one_list : goal.returns-clause-one_list
returns-clause-one_list c = posts_one

pub returns-clause-one : goal.returns-clause-one
returns-clause-one c = archive_one

pub returns-clause-own_posts : goal.returns-clause-own_posts
returns-clause-own_posts c = posts_own

pub returns-clause-own : goal.returns-clause-own
returns-clause-own c = archive_own

pub returns-clause-broken_index : goal.returns-clause-broken_index
returns-clause-broken_index c = broken_index

pub returns-clause-broken_threads : goal.returns-clause-broken_threads
returns-clause-broken_threads c = broken_threads

pub returns-clause-broken_count : goal.returns-clause-broken_count
returns-clause-broken_count c = broken_count

pub returns-clause-nothing : goal.returns-clause-nothing
returns-clause-nothing c = archive_nothing

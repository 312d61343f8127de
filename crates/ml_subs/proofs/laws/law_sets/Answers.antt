use Rattle.ml_subs.proofs.Represented.{bucket_one, joined_one, subscribers_one, nobody_there, own_files, broken, own_table, subscribers_each}
use Rattle.ml_subs.proofs.Answering.{unread}
use Rattle.ml_subs.proofs.laws.law_sets.Goals as goal

pub returns-clause-bucket : goal.returns-clause-bucket
returns-clause-bucket c = bucket_one

pub returns-clause-union : goal.returns-clause-union
returns-clause-union c = joined_one

pub returns-clause-one : goal.returns-clause-one
returns-clause-one c = subscribers_one

pub returns-clause-own : goal.returns-clause-own
returns-clause-own c = own_files

pub returns-clause-broken : goal.returns-clause-broken
returns-clause-broken c = broken

pub returns-clause-unread : goal.returns-clause-unread
returns-clause-unread c = unread

pub returns-clause-files : goal.returns-clause-files
returns-clause-files c = own_table

pub returns-clause-nobody : goal.returns-clause-nobody
returns-clause-nobody c = nobody_there

pub returns-clause-each : goal.returns-clause-each
returns-clause-each c = subscribers_each

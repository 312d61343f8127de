use Rattle.ml_acts.proofs.Agreeing.{keys_agree, bucket_agrees, count_agrees, held_agrees, tickets_agree, ledger_agrees, entry_agrees, ids_agree}
use Rattle.ml_acts.proofs.laws.law_undamaged.Goals as goal

pub returns-clause-keys : goal.returns-clause-keys
returns-clause-keys c = keys_agree

pub returns-clause-bucket : goal.returns-clause-bucket
returns-clause-bucket c = bucket_agrees

pub returns-clause-count : goal.returns-clause-count
returns-clause-count c = count_agrees

pub returns-clause-held : goal.returns-clause-held
returns-clause-held c = held_agrees

pub returns-clause-tickets : goal.returns-clause-tickets
returns-clause-tickets c = tickets_agree

pub returns-clause-ledger : goal.returns-clause-ledger
returns-clause-ledger c = ledger_agrees

pub returns-clause-entry : goal.returns-clause-entry
returns-clause-entry c = entry_agrees

pub returns-clause-ids : goal.returns-clause-ids
returns-clause-ids c = ids_agree

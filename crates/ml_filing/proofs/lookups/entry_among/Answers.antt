use Rattle.ml_filing.proofs.Rows.{among_some, among_none, among_absent, among_named}
use Rattle.ml_filing.proofs.lookups.entry_among.Goals as goal

pub returns-in-Some-clause-number : goal.returns-in-Some-clause-number
returns-in-Some-clause-number c = among_named c.args.number c.as_slice.result.now c.entry_for.result c.entry_for.ensures

pub returns-in-Some-clause-some : goal.returns-in-Some-clause-some
returns-in-Some-clause-some c dir all = among_some dir c.args.number c.args.indexes.now c.in-Some.index.now c.as_slice.result.now c.entry_for.result all c.in-Some.ensures c.as_slice.ensures c.entry_for.ensures

pub returns-in-Some-clause-none : goal.returns-in-Some-clause-none
returns-in-Some-clause-none c dir all has = among_none dir c.args.number c.args.indexes.now c.in-Some.index.now c.as_slice.result.now c.entry_for.result all c.in-Some.ensures c.as_slice.ensures c.entry_for.ensures

pub returns-in-None-clause-none : goal.returns-in-None-clause-none
returns-in-None-clause-none c dir all has = among_absent dir c.args.number c.args.indexes.now c.in-None.ensures has

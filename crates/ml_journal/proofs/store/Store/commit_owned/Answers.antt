use Rattle.std.proofs.Common.{length}
use Rattle.ml_journal.specs.Newest.{with_newest}
use Rattle.ml_journal.proofs.Fields.{split_of, row_of_log, first_of_log}
use Rattle.ml_journal.proofs.Held.{held_rests, held_rest, held_short}
use Rattle.ml_journal.proofs.Keeping.{changes_none, directory_at_rest}
use Rattle.ml_journal.proofs.Spent.{empty_txn, some_txn, spends_none, spends_grown, refused_grown}
use Rattle.ml_journal.proofs.store.Store.commit_owned.Goals as goal

pub returns-then-is_empty-clause-directory : goal.returns-then-is_empty-clause-directory
returns-then-is_empty-clause-directory g c = changes_none g.S.Site c.args.txn c.args.self.site c.args.self.site (directory_at_rest g.S.Site g.met.S.Site.only_now c.args.self.site (held_rest c.args.self))

pub returns-then-is_empty-clause-spends : goal.returns-then-is_empty-clause-spends
returns-then-is_empty-clause-spends g c = λ told. spends_none g.S.Site c.args.txn c.args.self.site (empty_txn c.as_slice.result.now c.args.txn c.as_slice.ensures c.if-is_empty.ensures) (held_short c.args.self (g.met.S.Site.all_has_reads told))

pub add_and_shorten-requires-clause-held : goal.add_and_shorten-requires-clause-held
add_and_shorten-requires-clause-held g c = held_rests c.args.self

pub invariant_of-result-in-Ok : goal.invariant_of-result-in-Ok
invariant_of-result-in-Ok g c =
    let log = (g.S.Site.disk c.add_and_shorten.new.site).reads.log in
    let change = with_newest c.add_and_shorten.new.newest.puts in record {
      small = c.in-Ok.ensures.small;
      split = λ told. split_of log c.in-Ok.end change (c.in-Ok.ensures.held told);
      begins = λ told. first_of_log log c.in-Ok.end change (c.in-Ok.ensures.held told);
      row = λ told. row_of_log log c.in-Ok.end change (c.in-Ok.ensures.held told);
      settled = λ told. (c.in-Ok.ensures.rest told).settled;
      rest = λ told. (c.in-Ok.ensures.rest told).pending;
    }

pub returns-in-Ok-clause-spends : goal.returns-in-Ok-clause-spends
returns-in-Ok-clause-spends g c = λ told. spends_grown g.S.Site (length (g.S.Site.disk c.args.self.site).reads.log) c.args.txn c.args.self.site c.add_and_shorten.new.site
    (some_txn c.as_slice.result.now c.args.txn c.as_slice.ensures c.if-is_empty.ensures) (c.in-Ok.ensures.spends told)

pub returns-in-Err-clause-spends_err : goal.returns-in-Err-clause-spends_err
returns-in-Err-clause-spends_err g c = λ told. refused_grown g.S.Site (length (g.S.Site.disk c.args.self.site).reads.log) c.args.txn c.args.self.site c.add_and_shorten.new.site
    (some_txn c.as_slice.result.now c.args.txn c.as_slice.ensures c.if-is_empty.ensures) (c.in-Err.ensures.spends_err told)

use Rattle.std.proofs.Common.{length}
use Rattle.std.proofs.lemmas.Result.{IfOk-weaker}
use Rattle.ml_journal.specs.Newest.{with_newest}
use Rattle.ml_journal.specs.Records.{spelled_record}
use Rattle.ml_journal.proofs.Crash.{rests_size}
use Rattle.ml_journal.proofs.Keeping.{changes_then}
use Rattle.ml_journal.proofs.Sizes.{record_holds}
use Rattle.ml_journal.proofs.Spent.{spends_done, spends_refused, err_always}
use Rattle.ml_journal.proofs.log_additions.add_and_shorten.Goals as goal

pub returns-clause-directory : goal.returns-clause-directory
returns-clause-directory g c = changes_then g.S.Site g.met.S.Site.all_has_reads c.args.txn c.args.site.now c.add.new.site c.shorten.new.site c.add.ensures.keeps.output c.add.ensures.directory c.in_ok-at.ensures.done c.shorten.ensures.directory

pub returns-clause-spends : goal.returns-clause-spends
returns-clause-spends g c = λ told.
    let read = g.met.S.Site.all_has_reads told in
    let old = (g.S.Site.disk c.args.site.now).reads in
    spends_done g.S.Site c.shorten.result c.args.end (length (spelled_record c.args.txn)) c.in_ok-at.at _ c.args.site.now c.add.new.site c.shorten.new.site
    (rests_size old.log c.args.end (with_newest c.args.newest.now.puts) (c.requires.held read)) c.in_ok-at.ensures.at (record_holds c.args.txn)
    (c.add.ensures.keeps.syncs told) (c.in_ok-at.ensures.log_bytes told) (c.shorten.ensures.keeps.syncs told) (c.shorten.ensures.keeps.log_bytes_stay told)
    (c.shorten.ensures.few told) c.shorten.ensures.stays c.shorten.ensures.short
    (IfOk-weaker c.shorten.result _ _ (λ at rests. rests_size (g.S.Site.disk c.shorten.new.site).reads.log at (with_newest c.shorten.new.newest.puts) rests) (c.shorten.ensures.held read))

pub returns-clause-spends_err : goal.returns-clause-spends_err
returns-clause-spends_err g c = λ told.
    let read = g.met.S.Site.all_has_reads told in
    let old = (g.S.Site.disk c.args.site.now).reads in
    err_always c.shorten.result (spends_refused g.S.Site c.args.end (length (spelled_record c.args.txn)) c.in_ok-at.at c.args.site.now c.add.new.site c.shorten.new.site
    (rests_size old.log c.args.end (with_newest c.args.newest.now.puts) (c.requires.held read)) c.in_ok-at.ensures.at
    (c.add.ensures.keeps.syncs told) (c.in_ok-at.ensures.log_bytes told) (c.shorten.ensures.keeps.syncs told) (c.shorten.ensures.keeps.log_bytes_stay told)
    (c.shorten.ensures.few told))

use Rattle.ml_journal.proofs.Keeping.{changes_none, directory_at_rest}
use Rattle.ml_journal.proofs.log_additions.add.Goals as goal

pub returns-in_default-clause-directory : goal.returns-in_default-clause-directory
returns-in_default-clause-directory g c = changes_none g.S.Site c.args.txn c.args.site.now c.args.site.now (directory_at_rest g.S.Site g.met.S.Site.only_now c.args.site.now c.requires.rest)

use Rattle.ml_journal.proofs.Keeping.{directory_at_rest}
use Rattle.ml_journal.proofs.recovery.recover.Goals as goal

pub returns-then-log-eq0-clause-directory : goal.returns-then-log-eq0-clause-directory
returns-then-log-eq0-clause-directory g c = directory_at_rest g.S.Site g.met.S.Site.only_now c.args.site.now c.requires.rest

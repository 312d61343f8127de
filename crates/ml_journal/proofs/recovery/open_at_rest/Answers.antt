use Rattle.ml_journal.proofs.Keeping.{directory_read, directory_on}
use Rattle.ml_journal.proofs.recovery.open_at_rest.Goals as goal

pub returns-in_err-log-clause-directory : goal.returns-in_err-log-clause-directory
returns-in_err-log-clause-directory g c = directory_read g.S.Site g.met.S.Site.only_now c.args.site.now c.read_log.new.self c.requires.rest c.read_log.ensures.same.reads c.read_log.ensures.same.disk c.read_log.ensures.keeps.output c.read_log.ensures.keeps.time

pub returns-in_err-newest-clause-directory : goal.returns-in_err-newest-clause-directory
returns-in_err-newest-clause-directory g c = directory_read g.S.Site g.met.S.Site.only_now c.args.site.now c.read_log.new.self c.requires.rest c.read_log.ensures.same.reads c.read_log.ensures.same.disk c.read_log.ensures.keeps.output c.read_log.ensures.keeps.time

pub returns-in_default-clause-directory : goal.returns-in_default-clause-directory
returns-in_default-clause-directory g c = directory_read g.S.Site g.met.S.Site.only_now c.args.site.now c.read_log.new.self c.requires.rest c.read_log.ensures.same.reads c.read_log.ensures.same.disk c.read_log.ensures.keeps.output c.read_log.ensures.keeps.time

pub returns-in_err-recover-clause-directory : goal.returns-in_err-recover-clause-directory
returns-in_err-recover-clause-directory g c = directory_on g.S.Site g.met.S.Site.all_has_reads c.args.site.now c.read_log.new.self c.recover.new.site c.read_log.ensures.keeps.output
    (directory_read g.S.Site g.met.S.Site.only_now c.args.site.now c.read_log.new.self c.requires.rest c.read_log.ensures.same.reads c.read_log.ensures.same.disk c.read_log.ensures.keeps.output c.read_log.ensures.keeps.time) c.recover.ensures.directory

pub returns-clause-directory : goal.returns-clause-directory
returns-clause-directory g c = directory_on g.S.Site g.met.S.Site.all_has_reads c.args.site.now c.read_log.new.self c.recover.new.site c.read_log.ensures.keeps.output
    (directory_read g.S.Site g.met.S.Site.only_now c.args.site.now c.read_log.new.self c.requires.rest c.read_log.ensures.same.reads c.read_log.ensures.same.disk c.read_log.ensures.keeps.output c.read_log.ensures.keeps.time) c.recover.ensures.directory

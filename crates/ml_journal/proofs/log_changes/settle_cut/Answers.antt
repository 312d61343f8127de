use Rattle.std.proofs.Common.{rules}
use Rattle.ml_site.specs.Disk.{Cut}
use Rattle.ml_site.proofs.Steps.{after_one, after_both}
use Rattle.ml_journal.proofs.log_changes.settle_cut.Goals as goal

pub returns-in_err-cut_log-clause-settles : goal.returns-in_err-cut_log-clause-settles
returns-in_err-cut_log-clause-settles g c = record {
  reads = search rules;
  rest = search rules;
  instants = λ told. after_one g.S.Site.instant g.S.Site.left_since g.S.Site.disk g.S.Site.output (λ site left out l. g.met.S.Site.only_now site left out told l) c.cut_log.result (Cut c.args.size)
      c.args.site.now c.cut_log.new.self (c.requires.rest told) (c.cut_log.ensures.change.pends told) (c.cut_log.ensures.keeps.output told) (c.cut_log.ensures.keeps.time told);
}

pub returns-clause-settles : goal.returns-clause-settles
returns-clause-settles g c = record {
  reads = search rules;
  rest = search rules;
  instants = λ told. after_both g.S.Site.instant g.S.Site.left_since g.S.Site.disk g.S.Site.output (λ site left out l. g.met.S.Site.only_now site left out told l) c.cut_log.result (Cut c.args.size)
      c.args.site.now c.cut_log.new.self c.sync.new.self (c.requires.rest told) (c.cut_log.ensures.change.pends told) (c.cut_log.ensures.keeps.output told) (c.cut_log.ensures.keeps.time told)
      (c.sync.ensures.crash told) (c.sync.ensures.keeps.output told) (c.sync.ensures.keeps.time told);
}

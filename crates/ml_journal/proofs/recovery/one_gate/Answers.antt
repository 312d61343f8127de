use Rattle.ml_journal.proofs.Settled.{one_gate_step, one_gate_clean}
use Rattle.ml_journal.proofs.recovery.one_gate.Goals as goal

pub returns-clause-clean : goal.returns-clause-clean
returns-clause-clean g c = one_gate_clean g.S.Site c.settle_log.result c.args.site.now c.settle_log.new.site c.settle_log.ensures.settles c.requires.short

pub returns-clause-directory : goal.returns-clause-directory
returns-clause-directory g c = one_gate_step g.S.Site c.settle_log.result _ c.args.site.now c.settle_log.new.site g.met.S.Site.all_has_reads c.settle_log.ensures.settles c.requires.short

use Rattle.std.proofs.Common.{arith}
use Rattle.ml_journal.specs.Calls.{KeepsDirectory}
use Rattle.ml_journal.proofs.Keeping.{directory_on}
use Rattle.ml_journal.proofs.Settled.{cut_step}
use Rattle.ml_journal.proofs.recovery.leave_closed_gate.Goals as goal

pub returns-in_err-settle_cut-clause-directory : goal.returns-in_err-settle_cut-clause-directory
returns-in_err-settle_cut-clause-directory g c = cut_step g.S.Site c.settle_cut.result _ c.args.site.now c.settle_cut.new.site g.met.S.Site.all_has_reads c.settle_cut.ensures.settles c.requires.shut (λ r. omega (arith, c.requires.size r, c.if-len-le1.false))

pub returns-clause-directory : goal.returns-clause-directory
returns-clause-directory g c =
    let cut : KeepsDirectory g.S.Site c.args.site.now c.settle_cut.new.site = cut_step g.S.Site c.settle_cut.result _ c.args.site.now c.settle_cut.new.site g.met.S.Site.all_has_reads c.settle_cut.ensures.settles c.requires.shut (λ r. omega (arith, c.requires.size r, c.if-len-le1.false)) in
    directory_on g.S.Site g.met.S.Site.all_has_reads c.args.site.now c.settle_cut.new.site c.one_gate-2.new.site c.settle_cut.ensures.keeps.output cut c.one_gate-2.ensures.directory

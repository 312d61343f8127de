use Rattle.ml_exercise.proofs.SummedUp.{cut_short, looked_over}
use Rattle.ml_exercise.proofs.summary.sum_up.Goals as goal

pub returns-then-status-eq0 : goal.returns-then-status-eq0
returns-then-status-eq0 g c =
    looked_over g.S.Site g.met.S.Site.all_has_reads g.met.S.Site.only_now c.args.count c.args.site c.tell_count-status.result.1 c.tell_count-status.result.0 c.tell_count-status.ensures
    c.read_list.result.1 c.read_list.result.0 c.read_list.ensures c.if-status-eq0.true

pub returns-else-status-eq0 : goal.returns-else-status-eq0
returns-else-status-eq0 g c =
    cut_short g.S.Site g.met.S.Site.all_has_reads g.met.S.Site.only_now c.args.count c.args.site c.tell_count-status.result.1 c.tell_count-status.result.0 c.tell_count-status.ensures c.if-status-eq0.false

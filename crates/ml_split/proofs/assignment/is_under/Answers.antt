use Rattle.ml_split.proofs.Hosts.{short_host, label_host, other_host}
use Rattle.ml_split.proofs.assignment.is_under.Goals as goal

pub returns-then-host-domain : goal.returns-then-host-domain
returns-then-host-domain c = short_host c.args.domain.now c.args.host.now c.is_empty.result c.is_empty.ensures c.if-is_empty.false c.if-host-domain.true

pub returns-then-is_alike : goal.returns-then-is_alike
returns-then-is_alike c =
    label_host c.args.domain.now c.args.host.now c.split_at.result.0.now c.split_at.result.1.now c.is_empty.result c.is_alike.result c.is_label_end.result
    c.is_empty.ensures c.if-is_empty.false c.if-host-domain.false c.split_at.ensures.front c.split_at.ensures.back c.is_alike.ensures c.if-is_alike.true c.is_label_end.ensures

pub returns-else-is_alike : goal.returns-else-is_alike
returns-else-is_alike c =
    other_host c.args.domain.now c.args.host.now c.split_at.result.0.now c.split_at.result.1.now c.is_empty.result c.is_alike.result
    c.is_empty.ensures c.if-is_empty.false c.if-host-domain.false c.split_at.ensures.front c.split_at.ensures.back c.is_alike.ensures c.if-is_alike.false

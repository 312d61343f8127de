use Rattle.std.proofs.Common.{sym}
use Rattle.ml_base.proofs.Addresses.{kept_text}
use Rattle.ml_base.proofs.address.Address.parse.Goals as goal

pub invariant_of-result : goal.invariant_of-result
invariant_of-result c = (kept_text c.args.text.now c.in-Some.local.now c.in-Some.host.now c.in_ok-kept.kept c.add_lower.new.out (sym c.in_default.ensures) c.in-Some.ensures.value c.in_ok-kept.ensures c.in_ok-add_lower.ensures).0

pub returns-clause-ok : goal.returns-clause-ok
returns-clause-ok c = (kept_text c.args.text.now c.in-Some.local.now c.in-Some.host.now c.in_ok-kept.kept c.add_lower.new.out (sym c.in_default.ensures) c.in-Some.ensures.value c.in_ok-kept.ensures c.in_ok-add_lower.ensures).1

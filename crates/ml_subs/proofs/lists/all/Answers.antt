use Rattle.std.proofs.Common.{ap, ◌∙◌}
use Rattle.ml_base.specs.Address.{key}
use Rattle.ml_base.specs.Sorted.{byte_cmp, is_sorted}
use Rattle.ml_subs.proofs.Addressed.{sorted_addresses}
use Rattle.ml_subs.proofs.lists.all.Goals as goal

pub returns-clause-sorted : goal.returns-clause-sorted
returns-clause-sorted g c =
    ap (is_sorted byte_cmp key) c.in_ok-addresses_of.ensures ∙ (sorted_addresses c.in_ok-list.list ∙ c.in_ok-list.ensures.ordered)

use Rattle.std.proofs.Common.{◌∙◌, ap, sym, map, map-id, length}
use Rattle.std.proofs.lemmas.Iterator.Consumers.{YieldsList-end}
use Rattle.std.proofs.lemmas.Iterator.Adapters.{YieldsList-from_vec}
use Rattle.ml_subs.specs.declared.member_list.Member.{Member}
use Rattle.ml_subs.proofs.lists.addresses_of.Goals as goal

pub returns : goal.returns
returns c =
    let from = c.into_iter-member-iterator.ensures.into_iter_gives in
    let t = YieldsList-end (YieldsList-from_vec {s = c.into_iter-member-iterator.result} c.args.list (from.0 ∙ c.into_vec-items.ensures) (from.1 ∙ c.into_vec-items.result.ok.0 ∙ ap length c.into_vec-items.ensures))
    c.loop-member.yielded _ c.loop-member.yielded_by _ c.next.new.self c.in-None.is c.next.ensures.steps in
    c.from_vec.ensures ∙ c.loop-member.invariant ∙ ap (map (λ (m : Member). m.who)) (sym (map-id c.loop-member.yielded) ∙ t.0)

use Rattle.std.proofs.Common.{◌∙◌, ap, sym, map, map-id, length, take}
use Rattle.std.proofs.lemmas.Iterator.Consumers.{YieldsList-end}
use Rattle.std.proofs.lemmas.Iterator.Adapters.{YieldsList-from_vec}
use Rattle.ml_bounce.specs.Changes as spec
use Rattle.ml_bounce.specs.Ledger.{Ledger}
use Rattle.ml_bounce.proofs.due_entries.actions_of.Goals as goal

pub returns : goal.returns
returns c =
    let from = c.into_iter-entry-iterator.ensures.into_iter_gives in
    let cut = c.truncate.ensures.items ∙ ap (λ (l : Ledger). take c.args.max l) c.into_vec-items.ensures in
    let t = YieldsList-end (YieldsList-from_vec {s = c.into_iter-entry-iterator.result} (take c.args.max c.args.entries) (from.0 ∙ cut) (from.1 ∙ c.truncate.new.self.ok.0 ∙ ap length cut))
    c.loop-entry.yielded _ c.loop-entry.yielded_by _ c.next.new.self c.in-None.is c.next.ensures.steps in
    c.from_vec.ensures ∙ c.loop-entry.invariant ∙ ap (map spec.action_of) (sym (map-id c.loop-entry.yielded) ∙ t.0)

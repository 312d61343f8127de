use Rattle.std.proofs.Common.{◌∙◌, ◌++◌, ap, sym, length, map-id}
use Rattle.std.proofs.lemmas.Iterator.Consumers.{YieldsList-end}
use Rattle.std.proofs.lemmas.Iterator.Adapters.{YieldsList-from_vec}
use Rattle.std.specs.List.{filter}
use Rattle.ml_bounce.specs.Changes as spec
use Rattle.ml_bounce.specs.Ledger.{Ledger}
use Rattle.ml_bounce.proofs.due_entries.push_due.Goals as goal

pub returns : goal.returns
returns c =
    let from = c.into_iter-entry-iterator.ensures.into_iter_gives in
    let t = YieldsList-end (YieldsList-from_vec {s = c.into_iter-entry-iterator.result} c.args.entries (from.0 ∙ c.into_vec-items.ensures) (from.1 ∙ c.into_vec-items.result.ok.0 ∙ ap length c.into_vec-items.ensures))
    c.loop-entry.yielded _ c.loop-entry.yielded_by _ c.next.new.self c.in-None.is c.next.ensures.steps in
    c.loop-entry.invariant ∙ ap (λ (l : Ledger). c.args.out.now ++ filter (spec.is_due c.args.now) l) (sym (map-id c.loop-entry.yielded) ∙ t.0)

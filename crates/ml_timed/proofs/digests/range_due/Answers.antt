use Rattle.std.proofs.Common.{◌∙◌, ◌-◌, min, ℕ, List, take, ap, arith}
use Rattle.std.specs.List.{list_all}
use Rattle.ml_timed.specs.Waiting.{is_short}
use Rattle.ml_timed.proofs.Issued.{range_is, range_there}
use Rattle.ml_timed.proofs.Short.{short_at, short_taken}
use Rattle.ml_timed.proofs.digests.range_due.Goals as goal

pub returns-clause-apart : goal.returns-clause-apart
returns-clause-apart g c told dir p alike is marked size =
    let same = ap (λ (t : List ℕ). take 100 t) c.as_slice.ensures ∙ c.in_ok-found.ensures.sizes told dir p alike is size in
    c.due.ensures.value ∙ range_is p c.args.mark.now c.as_slice.result.now c.front-sizes.result.now c.args.count c.in_ok-found.found.oldest c.args.now marked size c.front-sizes.ensures.cut same (c.in_ok-found.ensures.oldest told dir p alike is size)

pub returns-clause-range : goal.returns-clause-range
returns-clause-range g c =
    let last = c.args.mark.now.last in
    let some = c.requires.some in
    let few = c.front-sizes.ensures.within in
    range_there c.due.result last c.in_ok-found.found.oldest c.args.now c.args.count c.front-sizes.result.now c.due.ensures.value c.due.ensures.range (omega (arith, some, few))

pub due-requires-clause-each : goal.due-requires-clause-each
due-requires-clause-each g c =
    short_at c.front-sizes.result.now
    (ap (list_all is_short) c.front-sizes.ensures.cut ∙ short_taken (min (c.args.count - c.args.mark.now.last) 100) c.as_slice.result.now (ap (list_all is_short) c.as_slice.ensures ∙ c.in_ok-found.ensures.short))

pub returns-clause-agrees : goal.returns-clause-agrees
returns-clause-agrees g c told near small = c.in_ok-found.ensures.agrees told near small

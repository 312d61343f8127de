use Rattle.std.proofs.Common.{◌≡◌, ◌+◌, ◌-◌, ◌++◌, ◌∷◌, [], ℕ, List, sym, ap, ◌∙◌, arith}
use Rattle.std.specs.List.{range_with_len}
use Rattle.ml_filing.proofs.OneMore.{range_on_end}
use Rattle.ml_filing.proofs.ranges.numbers_from.Goals as goal

pub loop-left-preserved : goal.loop-left-preserved
loop-left-preserved c =
    let before = c.loop-left.invariant in
    let le = before.1 in
    let some = c.loop-left-test.true in
    let done = c.args.count - c.loop-left.left in
    let one : done + 1 ≡ c.args.count - (c.loop-left.left - 1) = omega (arith, le, some) in
    (c.in_ok-push.ensures.ok ∙ ap (λ (t : List ℕ). t ++ (c.args.first + done) ∷ []) before.0 ∙ sym (range_on_end c.args.first done) ∙ ap (range_with_len c.args.first) one, omega (arith, le))

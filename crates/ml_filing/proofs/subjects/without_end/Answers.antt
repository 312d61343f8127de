use Rattle.std.proofs.Common.{◌∙◌, arith}
use Rattle.ml_filing.proofs.KeyTurns.{end_turn, end_none, end_done}
use Rattle.ml_filing.proofs.subjects.without_end.Goals as goal
use Rattle.ml_filing.proofs.subjects.without_end.Goals.{then-loop-end-test+else-text-end-eq32, else-loop-end-test}

pub loop-end-preserved : goal.loop-end-preserved
loop-end-preserved c =
    let before = c.loop-end.invariant in
    let le = before.1 in
    (end_turn c.loop-end.end c.args.text.now c.loop-end-test.true le c.if-text-end-eq32.true ∙ before.0, omega (arith, le))

pub returns : goal.returns
returns c =
    let before = c.loop-end.invariant in
    elim c.loop-end-test.branch [
      | then-loop-end-test+else-text-end-eq32 w ↦ end_done c.loop-end.end c.args.text.now before.0 before.1 w.if-text-end-eq32.false
      | else-loop-end-test w ↦ end_none c.loop-end.end c.args.text.now before.0 (let none = w.loop-end-test.false in omega (arith, none))
    ]

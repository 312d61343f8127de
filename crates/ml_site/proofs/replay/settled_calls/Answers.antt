use Rattle.std.proofs.Common.{◌-◌, take, sym, ◌∙◌, ap, arith}
use Rattle.ml_site.specs.Disk.{Disk}
use Rattle.ml_site.specs.Recorded.{at_rest, after}
use Rattle.ml_site.proofs.Settling.{last_of, step_settles, step_keeps}
use Rattle.ml_site.proofs.replay.settled_calls.Goals as goal

pub returns-then-is_sync-clause-settled : goal.returns-then-is_sync-clause-settled
returns-then-is_sync-clause-settled c = λ start.
    let before = after (at_rest start) (take (c.loop-left.left - 1) c.args.calls.now) in
    let call = c.index-calls-left.result in
    let last = last_of (at_rest start) c.args.calls.now c.loop-left.left call c.loop-left-test.true c.loop-left.invariant.within c.index-calls-left.is
    ∙ step_settles before call (sym c.is_sync.ensures ∙ c.if-is_sync.true) in
    ap (λ (d : Disk). d.reads) last ∙ sym (ap (λ (d : Disk). d.settled) last) ∙ c.loop-left.invariant.settled start

pub loop-left-preserved : goal.loop-left-preserved
loop-left-preserved c = record {
  within = omega (arith, c.loop-left.invariant.within);
  settled = λ start.
      let before = after (at_rest start) (take (c.loop-left.left - 1) c.args.calls.now) in
      let call = c.index-calls-left.result in
      let last = last_of (at_rest start) c.args.calls.now c.loop-left.left call c.loop-left-test.true c.loop-left.invariant.within c.index-calls-left.is in
      sym (step_keeps before call (sym c.is_sync.ensures ∙ c.if-is_sync.false)) ∙ sym (ap (λ (d : Disk). d.settled) last) ∙ c.loop-left.invariant.settled start;
}

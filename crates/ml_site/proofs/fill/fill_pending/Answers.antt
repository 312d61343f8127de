use Rattle.std.proofs.Common.{◌≡◌, ◌-◌, ℕ, List, [], take, sym, ◌∙◌, ap, arith}
use Rattle.ml_site.specs.Disk.{Disk, Part}
use Rattle.ml_site.specs.Recorded.{contents, at_rest, after}
use Rattle.ml_site.specs.Filled.{bytes_filled}
use Rattle.ml_site.proofs.Settling.{last_of, step_settles, step_pends, filled_step, all_filled, none_pending}
use Rattle.ml_site.proofs.fill.fill_pending.Goals as goal
use Rattle.ml_site.proofs.fill.fill_pending.Goals.{else-loop-left-test, then-loop-left-test+then-is_sync}

pub loop-left-preserved : goal.loop-left-preserved
loop-left-preserved c = record {
  within = omega (arith, c.loop-left.invariant.within);
  so_far = λ start.
      let byte = c.args.byte in
      let before = after (at_rest start) (take (c.loop-left.left - 1) c.args.calls.now) in
      let call = c.index-calls-left.result in
      let held = contents c.loop-left.log.items c.loop-left.files in
      let last = last_of (at_rest start) c.args.calls.now c.loop-left.left call c.loop-left-test.true c.loop-left.invariant.within c.index-calls-left.is in
      ap (bytes_filled byte before.pending) c.in_ok-fill_part.ensures ∙ sym (filled_step byte call before.pending held)
      ∙ ap (λ (parts : List Part). bytes_filled byte parts held) (sym (step_pends before call (sym c.is_sync.ensures ∙ c.if-is_sync.false)) ∙ sym (ap (λ (d : Disk). d.pending) last))
      ∙ c.loop-left.invariant.so_far start;
}

pub returns : goal.returns
returns c = λ start.
    let byte = c.args.byte in
    let held = contents c.loop-left.log.items c.loop-left.files in
    let wanted = bytes_filled byte (after (at_rest start) c.args.calls.now).pending (contents c.args.image.log c.args.image.files) in
    let front = after (at_rest start) (take c.loop-left.left c.args.calls.now) in
    let so_far : bytes_filled byte front.pending held ≡ wanted =
    c.loop-left.invariant.so_far start ∙ ap (λ (log : List ℕ). bytes_filled byte (after (at_rest start) c.args.calls.now).pending (contents log c.args.image.files)) c.into_vec-log.ensures in
    let none : front.pending ≡ [] = elim c.loop-left-test.branch [
      | else-loop-left-test w ↦ none_pending start c.args.calls.now c.loop-left.left w.loop-left-test.false
      | then-loop-left-test+then-is_sync w ↦
          let before = after (at_rest start) (take (c.loop-left.left - 1) c.args.calls.now) in
          let call = w.index-calls-left.result in
          ap (λ (d : Disk). d.pending) (last_of (at_rest start) c.args.calls.now c.loop-left.left call w.loop-left-test.true c.loop-left.invariant.within w.index-calls-left.is
          ∙ step_settles before call (sym w.is_sync.ensures ∙ w.if-is_sync.true))
    ] in
    ap (λ (log : List ℕ). contents log c.loop-left.files) c.from_vec.ensures ∙ all_filled byte front.pending held wanted none so_far

use Rattle.std.proofs.Common.{sym, ◌∙◌, ap, take}
use Rattle.ml_site.specs.Disk.{Contents, Disk}
use Rattle.ml_site.specs.Recorded.{contents, at_rest, step, after}
use Rattle.ml_site.proofs.Settling.{one_more, reads_step}
use Rattle.ml_site.proofs.replay.replay.Goals as goal

pub loop-call-preserved : goal.loop-call-preserved
loop-call-preserved c =
    let start = at_rest (contents c.args.log.now c.args.files.now) in
    let before = after start (take c.loop-call.call-index c.args.calls.now) in
    let call = c.call-item.result in
    c.in_ok-redo.ensures ∙ ap (λ (held : Contents). (step (at_rest held) call).reads) c.loop-call.invariant ∙ sym (reads_step before call)
    ∙ sym (ap (λ (d : Disk). d.reads) (one_more start c.args.calls.now c.loop-call.call-index call c.loop-call-test.true c.call-item.is))

use Rattle.std.proofs.Common.{◌≡◌, ◌<◌, ◌∙◌, ◌++◌, ap, arith, length, take, drop}
use Rattle.std.proofs.lemmas.List.{take_at}
use Rattle.ml_run.proofs.LaidPuts.{laid_step}
use Rattle.ml_run.proofs.laid_puts.laid.Goals as goal

pub loop-at-preserved : goal.loop-at-preserved
loop-at-preserved c =
    let items = c.loop-at.puts.items in
    let new = c.lay_one-kept.new.puts in
    let same : c.deref_mut.result.now ≡ items = c.deref_mut.ensures.value in
    let size : length new ≡ length items = c.lay_one-kept.ensures.size ∙ ap length same in
    let whole : take c.loop-at.puts.len (new ++ drop (length new) items) ≡ new = take_at new (drop (length new) items) c.loop-at.puts.len (omega (arith, size, c.loop-at.puts.ok)) in
    let low : c.loop-at.at < length items = omega (arith, c.loop-at-test.true, c.len-at-end.ensures, c.loop-at.invariant.size, ap length c.into_vec-puts.ensures) in record {
      size = ap length whole ∙ size ∙ c.loop-at.invariant.size;
      within = c.lay_one-kept.ensures.within;
      so_far = laid_step items c.deref_mut.result.now new _ c.loop-at.kept c.lay_one-kept.result c.loop-at.at same whole low c.lay_one-kept.ensures.laid c.lay_one-kept.ensures.rest ∙ c.loop-at.invariant.so_far;
    }

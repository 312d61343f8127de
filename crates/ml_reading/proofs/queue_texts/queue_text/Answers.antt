use Rattle.std.proofs.Common.{◌≡◌, ◌+◌, ℕ, sym, subst, arith}
use Rattle.ml_base.specs.Dir.{Dir}
use Rattle.ml_drawn.specs.Answers.{NoneThere}
use Rattle.ml_drawn.specs.declared.series.Series.TheVariants.{Ids}
use Rattle.ml_queue.specs.Answers.{LooksBy}
use Rattle.ml_reading.proofs.Lines.{AreListed, all_listed, listed_more, listed_on, none_listed}
use Rattle.ml_reading.proofs.queue_texts.queue_text.Goals as goal

pub loop-id-init : goal.loop-id-init
loop-id-init g c = record {
  read = record { kept = c.counter_of.ensures.reads.kept; later = c.counter_of.ensures.reads.later };
  within = c.in_ok-counter.ensures.ranges.1;
  listed = λ told. subst (AreListed (g.F.Files.map c.args.files.now) c.in_ok-counter.counter.low c.in_ok-counter.counter.low) (sym c.new-text.ensures) (none_listed (g.F.Files.map c.args.files.now) c.in_ok-counter.counter.low);
}

pub loop-id-preserved : goal.loop-id-preserved
loop-id-preserved g c =
    let before = c.loop-id.invariant in
    let later = before.read.later in
    let added = c.add_id.ensures.reads in
    let more = added.later in
    let after = c.id_after.ensures.are_kept in
    let last = after.later in
    let range = c.in_ok-id.ensures.range in
    let onward = range.0 in
    let kept = g.met.F.Files.kept_then c.args.files.now c.loop-id.files c.add_id.new.files before.read.kept added.kept in
    record {
      read = record { kept = g.met.F.Files.kept_then c.args.files.now c.add_id.new.files c.id_after.new.files kept after.kept; later = omega (arith, later, more, last) };
      within = range.1;
      listed = λ told.
          let dir = g.F.Files.map c.args.files.now in
          let same = g.met.F.Files.kept_map c.args.files.now c.loop-id.files told before.read.kept in
          let then = g.met.F.Files.kept_map c.args.files.now c.add_id.new.files told kept in
          let found = c.in_ok-there.ensures.value told in
          let low = c.in_ok-counter.counter.low in
          let n = c.in_ok-id.id in
          listed_on dir low (c.loop-id.id + 1) n c.add_id.new.text
          (listed_more dir low c.loop-id.id c.loop-id.text c.add_id.new.text found.0 (before.listed told) (subst (λ (d : Dir). LooksBy d c.loop-id.id found.0) same found.1) found.2)
          (omega (arith, onward)) (subst (λ (d : Dir). NoneThere d Ids (c.loop-id.id + 1) n) then (c.in_ok-id.ensures.value told));
    }

pub returns-clause-value : goal.returns-clause-value
returns-clause-value g c told =
    let dir = g.F.Files.map c.args.files.now in
    let counter = c.in_ok-counter.counter in
    let within = c.loop-id.invariant.within in
    let end : c.loop-id.id ≡ counter.next = omega (arith, within) in
    all_listed dir counter.low counter.next c.loop-id.text (c.in_ok-counter.ensures.value told)
    (subst (λ (n : ℕ). AreListed dir counter.low n c.loop-id.text) end (c.loop-id.invariant.listed told))

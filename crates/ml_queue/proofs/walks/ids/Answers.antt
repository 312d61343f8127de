use Rattle.std.proofs.Common.{arith, sym, ap, ◌∙◌, ◌+◌, ◌≤◌, ◌<◌, ◌++◌, List, ℕ, append-nil, IsTrue}
use Rattle.ml_base.specs.Ranges.{is_drawn}
use Rattle.ml_base.proofs.ReadingLemmas.{kept_then}
use Rattle.ml_drawn.proofs.Drawings.{from_on}
use Rattle.ml_drawn.proofs.Reading.{some_is}
use Rattle.ml_drawn.proofs.Walked.{first_number, none_number}
use Rattle.ml_drawn.specs.declared.series.Series.TheVariants.{Ids}
use Rattle.ml_queue.specs.Answers.{ids_there}
use Rattle.ml_queue.proofs.Walked.{numbers, ids_begin, ids_more, ids_end, there_end, there_more}
use Rattle.ml_queue.proofs.walks.ids.Goals as goal

pub loop-ids-init : goal.loop-ids-init
loop-ids-init g c = record {
  are_kept = record { kept = c.counter_of.ensures.reads.kept; later = c.counter_of.ensures.reads.later };
  up = omega arith;
  within = c.in_ok-counter.ensures.ranges.1;
  value = λ tells queue is.
      ap (λ (t : List ℕ). t ++ numbers (from_on c.in_ok-counter.counter.low queue.all)) c.new-ids.ensures
      ∙ ids_begin (g.F.Files.map c.args.files.now) c.in_ok-counter.counter.low c.in_ok-counter.counter.next queue (c.in_ok-counter.ensures.value tells) is;
  there = λ tells. ap (λ (t : List ℕ). t ++ ids_there (g.F.Files.map c.args.files.now) c.in_ok-counter.counter.low c.in_ok-counter.counter.next) c.new-ids.ensures;
}

pub loop-ids-preserved : goal.loop-ids-preserved
loop-ids-preserved g c =
    let before = c.loop-ids.invariant in
    let up = before.up in
    let next = c.in_ok-id.ensures in
    let id = c.in-Some.id in
    let range = some_is c.in_ok-id.field-0 id (λ n. (c.loop-ids.from ≤ n) × (n < c.in_ok-counter.counter.next) × IsTrue (is_drawn n)) c.in-Some.is next.ranges in
    let onward = range.0 in
    let below = range.1 in
    let dir = g.F.Files.map c.args.files.now in
    let counter = c.in_ok-counter.counter in
    let first = λ (tells : IsTrue g.F.Files.tells). first_number dir (g.F.Files.map c.loop-ids.files) Ids c.loop-ids.from counter.next c.in_ok-id.field-0 id
    (g.met.F.Files.kept_map c.args.files.now c.loop-ids.files tells before.are_kept.kept) (next.value tells) c.in-Some.is in
    record {
      are_kept = kept_then g.F.Files g.met.F.Files.kept_then c.args.files.now c.loop-ids.files c.next_number.new.files before.are_kept next.are_kept;
      up = omega (arith, up, onward);
      within = omega (arith, below);
      value = λ tells queue is.
          ap (λ (t : List ℕ). t ++ numbers (from_on (id + 1) queue.all)) c.in_ok-push.ensures.ok
          ∙ sym (ids_more dir counter.low counter.next c.loop-ids.from (record { number = id; bytes = (first tells).0 }) c.loop-ids.ids queue (c.in_ok-counter.ensures.value tells) is up (first tells).1)
          ∙ before.value tells queue is;
      there = λ tells.
          ap (λ (t : List ℕ). t ++ ids_there dir (id + 1) counter.next) c.in_ok-push.ensures.ok
          ∙ sym (there_more dir counter.next c.loop-ids.from (record { number = id; bytes = (first tells).0 }) c.loop-ids.ids (first tells).1)
          ∙ before.there tells;
    }

pub returns-clause-value : goal.returns-clause-value
returns-clause-value g c tells queue is =
    let before = c.loop-ids.invariant in
    let same = g.met.F.Files.kept_map c.args.files.now c.loop-ids.files tells before.are_kept.kept in
    let none = none_number (g.F.Files.map c.args.files.now) (g.F.Files.map c.loop-ids.files) Ids c.loop-ids.from c.in_ok-counter.counter.next c.in_ok-id.field-0 same (c.in_ok-id.ensures.value tells) c.in_default.is in
    sym (append-nil c.loop-ids.ids)
    ∙ ap (λ (t : List ℕ). c.loop-ids.ids ++ t) (sym (ids_end (g.F.Files.map c.args.files.now) c.in_ok-counter.counter.low c.in_ok-counter.counter.next c.loop-ids.from queue (c.in_ok-counter.ensures.value tells) is none))
    ∙ before.value tells queue is

pub returns-clause-read : goal.returns-clause-read
returns-clause-read g c tells =
    let before = c.loop-ids.invariant in
    let dir = g.F.Files.map c.args.files.now in
    let counter = c.in_ok-counter.counter in
    let same = g.met.F.Files.kept_map c.args.files.now c.loop-ids.files tells before.are_kept.kept in
    let none = none_number dir (g.F.Files.map c.loop-ids.files) Ids c.loop-ids.from counter.next c.in_ok-id.field-0 same (c.in_ok-id.ensures.value tells) c.in_default.is in record {
      low = counter.low;
      next = counter.next;
      counted = c.in_ok-counter.ensures.value tells;
      are = sym (append-nil c.loop-ids.ids) ∙ ap (λ (t : List ℕ). c.loop-ids.ids ++ t) (sym (there_end dir c.loop-ids.from counter.next before.within none)) ∙ before.there tells;
    }

use Rattle.std.proofs.Common.{arith, rules, sym, ap, subst, ◌∙◌, ◌≤◌, ◌<◌, ◌++◌, length, ◌-◌, List, ℕ, true, false, append-nil, IsTrue}
use Rattle.std.proofs.lemmas.Bool.{le-leb, lt-leb}
use Rattle.ml_base.specs.Ranges.{is_drawn}
use Rattle.ml_base.proofs.ReadingLemmas.{kept_then}
use Rattle.ml_drawn.specs.declared.series.Series.TheVariants.{Tickets}
use Rattle.ml_drawn.proofs.Reading.{some_is}
use Rattle.ml_drawn.proofs.Walked.{first_at, none_at, no_thing}
use Rattle.ml_hold.specs.Held.{IsHeld, held_text}
use Rattle.ml_hold.specs.Answers.{AreOld}
use Rattle.ml_hold.specs.Reading.{told}
use Rattle.ml_hold.proofs.OfFiles.{broken_counted}
use Rattle.ml_hold.proofs.Aged.{rest, GoesOn, looked_all, looked_more, old_all, old_more, old_none, older_begin, older_kept, older_end, room_left}
use Rattle.ml_hold.proofs.walks.older.Goals as goal
use Rattle.ml_hold.proofs.walks.older.Goals.{then-age-seconds+in_ok-push, else-age-seconds}

pub loop-room-init : goal.loop-room-init
loop-room-init g c = record {
  are_kept = record { kept = c.counter_of.ensures.reads.kept; later = c.counter_of.ensures.reads.later };
  up = omega arith;
  within = c.in_ok-counter.ensures.ranges.1;
  size = let none = ap (λ (t : List ℕ). length t) c.new-tickets.ensures in omega (arith, none);
  looked = λ tells n text least less drawn there. absurd (omega (arith, least, less));
  old = λ tells. subst (λ (t : List ℕ). AreOld (g.F.Files.map c.args.files.now) c.args.now c.args.seconds c.in_ok-counter.counter.low c.in_ok-counter.counter.low t) (sym c.new-tickets.ensures) (old_none (g.F.Files.map c.args.files.now) c.args.now c.args.seconds c.in_ok-counter.counter.low);
  value = λ tells pending is.
      ap (λ (t : List ℕ). t ++ rest c.args.now c.args.seconds c.args.max c.in_ok-counter.counter.low pending) c.new-tickets.ensures
      ∙ older_begin (g.F.Files.map c.args.files.now) c.in_ok-counter.counter.low c.in_ok-counter.counter.next c.args.now c.args.seconds c.args.max pending (c.in_ok-counter.ensures.value tells) is;
}

pub returns-in_default-clause-value : goal.returns-in_default-clause-value
returns-in_default-clause-value g c tells pending is =
    let before = c.loop-room.invariant in
    let same = g.met.F.Files.kept_map c.args.files.now c.loop-room.files tells before.are_kept.kept in
    let none = none_at (g.F.Files.map c.args.files.now) (g.F.Files.map c.loop-room.files) Tickets c.loop-room.from c.in_ok-counter.counter.next c.in_ok-found.field-0 same (c.in_ok-found.ensures.value tells) c.in_default.is in
    sym (append-nil c.loop-room.tickets)
    ∙ ap (λ (t : List ℕ). c.loop-room.tickets ++ t)
    (sym (older_end (g.F.Files.map c.args.files.now) c.in_ok-counter.counter.low c.in_ok-counter.counter.next c.args.now c.args.seconds c.loop-room.room c.loop-room.from pending (c.in_ok-counter.ensures.value tells) is none))
    ∙ before.value tells pending is

pub loop-room-preserved : goal.loop-room-preserved
loop-room-preserved g c =
    let before = c.loop-room.invariant in
    let up = before.up in
    let next = c.in_ok-found.ensures in
    let range = some_is c.in_ok-found.field-0 c.in-Some.found (λ f. (c.loop-room.from ≤ f.number) × (f.number < c.in_ok-counter.counter.next) × IsTrue (is_drawn f.number)) c.in-Some.is next.ranges in
    let onward = range.0 in
    let below = range.1 in
    let aged = c.age.ensures in
    let goes : GoesOn c.args.now c.args.seconds c.loop-room.room c.loop-room.tickets c.in-Some.found.number c.in-Some-parts_of.parts.moment c.if-age-seconds.tickets c.if-age-seconds.room =
    elim c.if-age-seconds.branch [
      | then-age-seconds+in_ok-push w ↦ let old = w.if-age-seconds in record { old = true; is = le-leb c.args.seconds (c.args.now - c.in-Some-parts_of.parts.moment) (omega (arith, aged, old)); row = w.tickets-is ∙ w.in_ok-push.ensures.ok; less = w.room-is }
      | else-age-seconds w ↦ let young = w.if-age-seconds in record { old = false; is = lt-leb c.args.seconds (c.args.now - c.in-Some-parts_of.parts.moment) (omega (arith, aged, young)); row = w.tickets-is; less = w.room-is }
    ] in
    let first = (λ (tells : IsTrue g.F.Files.tells). first_at (g.F.Files.map c.args.files.now) (g.F.Files.map c.loop-room.files) Tickets c.loop-room.from c.in_ok-counter.counter.next c.in_ok-found.field-0 c.in-Some.found
    (g.met.F.Files.kept_map c.args.files.now c.loop-room.files tells before.are_kept.kept) (next.value tells) c.in-Some.is) in
    record {
      are_kept = kept_then g.F.Files g.met.F.Files.kept_then c.args.files.now c.loop-room.files c.next_there.new.files before.are_kept next.are_kept;
      up = omega (arith, up, onward);
      within = omega (arith, below);
      size = room_left goes.old c.loop-room.room c.in-Some.found.number c.loop-room.tickets c.if-age-seconds.tickets c.if-age-seconds.room c.args.max c.loop-room-test.true before.size goes.row goes.less;
      looked = λ tells. looked_more (g.F.Files.map c.args.files.now) c.in_ok-counter.counter.low c.loop-room.from c.in_ok-counter.counter.next c.in-Some.found c.as_slice.result.now (told c.in-Some-parts_of.parts) up (before.looked tells) (first tells) c.as_slice.ensures c.in-Some-parts_of.ensures.some;
      old = λ tells. old_more (g.F.Files.map c.args.files.now) c.args.now c.args.seconds c.in_ok-counter.counter.low c.loop-room.from c.in_ok-counter.counter.next c.in-Some.found c.as_slice.result.now (told c.in-Some-parts_of.parts) c.loop-room.tickets up (first tells) c.as_slice.ensures c.in-Some-parts_of.ensures.some (before.old tells)
          c.if-age-seconds.tickets c.loop-room.room c.if-age-seconds.room goes;
      value = λ tells pending is. older_kept (g.F.Files.map c.args.files.now) c.in_ok-counter.counter.low c.in_ok-counter.counter.next c.args.now c.args.seconds c.args.max c.loop-room.room c.loop-room.from c.in-Some.found c.as_slice.result.now
          (told c.in-Some-parts_of.parts) c.loop-room.tickets c.if-age-seconds.tickets c.if-age-seconds.room pending (c.in_ok-counter.ensures.value tells) is up (first tells) c.as_slice.ensures c.in-Some-parts_of.ensures.some
          c.loop-room-test.true goes (before.value tells pending is);
    }

pub returns-in_default-parts_of-clause-sound : goal.returns-in_default-parts_of-clause-sound
returns-in_default-parts_of-clause-sound g c tells pending is =
    let before = c.loop-room.invariant in
    let same = g.met.F.Files.kept_map c.args.files.now c.loop-room.files tells before.are_kept.kept in
    let first = first_at (g.F.Files.map c.args.files.now) (g.F.Files.map c.loop-room.files) Tickets c.loop-room.from c.in_ok-counter.counter.next c.in_ok-found.field-0 c.in-Some.found same (c.in_ok-found.ensures.value tells) c.in-Some.is in
    let bad = no_thing IsHeld held_text Tickets (g.F.Files.map c.args.files.now) c.in_ok-counter.counter.low c.loop-room.from c.in_ok-counter.counter.next c.in-Some.found c.as_slice.result.now c.name.result
    (c.in_ok-counter.ensures.value tells) before.up first c.as_slice.ensures c.in_default-parts_of.ensures.none c.name.ensures in
    broken_counted (g.F.Files.map c.args.files.now) c.name.result pending bad is

pub returns-in_default-parts_of-clause-reads : goal.returns-in_default-parts_of-clause-reads
returns-in_default-parts_of-clause-reads g c =
    let read = kept_then g.F.Files g.met.F.Files.kept_then c.args.files.now c.loop-room.files c.next_there.new.files c.loop-room.invariant.are_kept c.in_ok-found.ensures.are_kept in
    record { kept = read.kept; later = read.later; cause = λ bad. absurd (cc) }

pub returns-in_err-push-clause-reads : goal.returns-in_err-push-clause-reads
returns-in_err-push-clause-reads g c =
    let read = kept_then g.F.Files g.met.F.Files.kept_then c.args.files.now c.loop-room.files c.next_there.new.files c.loop-room.invariant.are_kept c.in_ok-found.ensures.are_kept in
    record { kept = read.kept; later = read.later; cause = λ bad. search rules }

pub returns-in_default-clause-read : goal.returns-in_default-clause-read
returns-in_default-clause-read g c tells =
    let before = c.loop-room.invariant in
    let same = g.met.F.Files.kept_map c.args.files.now c.loop-room.files tells before.are_kept.kept in
    let none = none_at (g.F.Files.map c.args.files.now) (g.F.Files.map c.loop-room.files) Tickets c.loop-room.from c.in_ok-counter.counter.next c.in_ok-found.field-0 same (c.in_ok-found.ensures.value tells) c.in_default.is in
    let size = before.size in
    record {
      low = c.in_ok-counter.counter.low;
      next = c.in_ok-counter.counter.next;
      after = c.in_ok-counter.counter.next;
      counted = c.in_ok-counter.ensures.value tells;
      few = omega (arith, size);
      whole = λ less. omega arith;
      posts = looked_all (g.F.Files.map c.args.files.now) c.in_ok-counter.counter.low c.loop-room.from c.in_ok-counter.counter.next (before.looked tells) none;
      old = old_all (g.F.Files.map c.args.files.now) c.args.now c.args.seconds c.in_ok-counter.counter.low c.loop-room.from c.in_ok-counter.counter.next c.loop-room.tickets before.within (before.old tells) none;
    }

pub returns-clause-read : goal.returns-clause-read
returns-clause-read g c tells =
    let before = c.loop-room.invariant in
    let size = before.size in
    let full = c.loop-room-test.false in
    record {
      low = c.in_ok-counter.counter.low;
      next = c.in_ok-counter.counter.next;
      after = c.loop-room.from;
      counted = c.in_ok-counter.ensures.value tells;
      few = omega (arith, size);
      whole = λ less. absurd (omega (arith, less, size, full));
      posts = before.looked tells;
      old = before.old tells;
    }

use Rattle.std.proofs.Common.{arith, ◌≤◌, ◌<◌, Bool, IsTrue, subst}
use Rattle.ml_base.specs.Ranges.{is_drawn}
use Rattle.ml_base.proofs.ReadingLemmas.{kept_then}
use Rattle.ml_drawn.specs.Things.{TellsSpelled}
use Rattle.ml_drawn.proofs.OfFiles.{broken_counted}
use Rattle.ml_drawn.proofs.Reading.{some_is}
use Rattle.ml_drawn.proofs.Walked.{first_at, none_at, no_thing, read_on, read_all}
use Rattle.ml_drawn.proofs.things.audit.Goals as goal

pub returns-then-not-branch-clause-sound : goal.returns-then-not-branch-clause-sound
returns-then-not-branch-clause-sound g c tells d is =
    let before = c.loop-found.invariant in
    let dir = g.F.Files.map c.args.files.now in
    let now = g.F.Files.map c.loop-found.files in
    let next = c.in_ok-counter.counter.next in
    let found = c.in-Some.found in
    let same = g.met.F.Files.kept_map c.args.files.now c.loop-found.files tells before.are_kept.kept in
    let first = first_at dir now c.args.series c.loop-found.from next c.in_ok-found.field-0 found same (c.in_ok-found.ensures.value tells) c.in-Some.is in
    let none = subst (λ (b : Bool). TellsSpelled g.T.Thing.is_thing g.T.Thing.spelling c.as_slice.result.now b) c.if-not-branch.true c.in_ok-is_spelled.ensures in
    let bad = no_thing g.T.Thing.is_thing g.T.Thing.spelling c.args.series dir c.in_ok-counter.counter.low c.loop-found.from next found c.as_slice.result.now c.name.result (c.in_ok-counter.ensures.value tells) before.up first c.as_slice.ensures none c.name.ensures in
    broken_counted g.T.Thing.is_thing g.T.Thing.spelling c.args.series dir c.name.result d bad is

pub loop-found-preserved : goal.loop-found-preserved
loop-found-preserved g c =
    let before = c.loop-found.invariant in
    let up = before.up in
    let next = c.in_ok-found.ensures in
    let range = some_is c.in_ok-found.field-0 c.in-Some.found (λ f. (c.loop-found.from ≤ f.number) × (f.number < c.in_ok-counter.counter.next) × IsTrue (is_drawn f.number)) c.in-Some.is next.ranges in
    let onward = range.0 in
    let below = range.1 in
    record {
      are_kept = kept_then g.F.Files g.met.F.Files.kept_then c.args.files.now c.loop-found.files c.next_there.new.files before.are_kept next.are_kept;
      up = omega (arith, up, onward);
      within = omega (arith, below);
      read = λ tells.
          let dir = g.F.Files.map c.args.files.now in
          let same = g.met.F.Files.kept_map c.args.files.now c.loop-found.files tells before.are_kept.kept in
          let first = first_at dir (g.F.Files.map c.loop-found.files) c.args.series c.loop-found.from c.in_ok-counter.counter.next c.in_ok-found.field-0 c.in-Some.found same (next.value tells) c.in-Some.is in
          let thing = subst (λ (b : Bool). TellsSpelled g.T.Thing.is_thing g.T.Thing.spelling c.as_slice.result.now b) c.if-not-branch.false c.in_ok-is_spelled.ensures in
          read_on g.T.Thing.is_thing g.T.Thing.spelling c.args.series dir c.in_ok-counter.counter.low c.loop-found.from c.in_ok-counter.counter.next c.in-Some.found c.as_slice.result.now thing.0 up (before.read tells) first c.as_slice.ensures thing.1;
    }

pub returns-clause-ok : goal.returns-clause-ok
returns-clause-ok g c tells =
    let before = c.loop-found.invariant in
    let dir = g.F.Files.map c.args.files.now in
    let same = g.met.F.Files.kept_map c.args.files.now c.loop-found.files tells before.are_kept.kept in
    let none = none_at dir (g.F.Files.map c.loop-found.files) c.args.series c.loop-found.from c.in_ok-counter.counter.next c.in_ok-found.field-0 same (c.in_ok-found.ensures.value tells) c.in_default.is in
    read_all g.T.Thing.is_thing g.T.Thing.spelling c.args.series dir c.in_ok-counter.counter.low c.loop-found.from c.in_ok-counter.counter.next (before.read tells) before.within none (c.in_ok-counter.ensures.value tells)

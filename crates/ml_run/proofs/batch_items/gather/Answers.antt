use Rattle.std.proofs.Common.{◌≡◌, ◌-◌, ◌+◌, ℕ, List, inl, inr, IfErr, IsTrue, Some, None, refl, sym, ap, subst, ◌∙◌, arith, ◌++◌}
use Rattle.ml_base.specs.Dir.{Dir, with_puts}
use Rattle.ml_base.specs.Faults.{Rose}
use Rattle.ml_base.specs.declared.names.Name.{Name}
use Rattle.ml_site.specs.Disk.{Contents}
use Rattle.ml_journal.specs.Kept.{kept_itself, kept_on}
use Rattle.ml_journal.specs.Log.{directory}
use Rattle.ml_journal.specs.Stores.{site_of, the_dir}
use Rattle.ml_plain.specs.declared.Item.{Item}
use Rattle.ml_plain.specs.Directory.{IsState}
use Rattle.ml_plain.specs.Histories.{fold}
use Rattle.ml_list.specs.Damage.{IsDamagedInList}
use Rattle.ml_list.proofs.States.{sound}
use Rattle.ml_ending.specs.declared.lines.Why.{Why}
use Rattle.ml_ending.proofs.Finished.{rose_earlier}
use Rattle.ml_stream.specs.Items.{place_of}
use Rattle.ml_stream.specs.Stream.{StreamEnd, got}
use Rattle.ml_stream.proofs.Ahead.{stream_end}
use Rattle.ml_run.specs.declared.batches.Batch.{Batch}
use Rattle.ml_run.specs.declared.batches.BatchEnd.TheVariants.{Last, Stopped}
use Rattle.ml_run.specs.Gathering.{DoesBatch, IsGathered, ReadsBatch}
use Rattle.ml_run.specs.Batches.{IsAhead, IsByStream, IsEnd, IsOfNext, NamesAsked, NamesOwn, IsStop, HasReason, IsPartReason, Takes}
use Rattle.ml_run.specs.Leaving.{dir_of}
use Rattle.ml_run.proofs.Ahead.{error_ahead}
use Rattle.ml_run.proofs.Causes.{reason_map}
use Rattle.ml_run.proofs.Gathered.{does_ended, does_next, does_none, full_counted, gathered_ended, gives_item, item_ahead, last_other, read_ended, read_last, read_next, read_none, stopped_other}
use Rattle.ml_run.proofs.Batching.{number_cut, at_on_ok, at_on_err, at_err, refused_stop, same_dir, just_full, none_low}
use Rattle.ml_run.proofs.Anywhere.{adds_over}
use Rattle.ml_run.proofs.ItemPaths.{numbered_own}
use Rattle.ml_run.proofs.Streamed.{stop_by_stream, part_by_stream}
use Rattle.ml_run.proofs.Taking.{takes_refused, takes_last, takes_error}
use Rattle.ml_run.proofs.batch_items.gather.Goals as goal

pub returns-then-room-eq0-clause-kept : goal.returns-then-room-eq0-clause-kept
returns-then-room-eq0-clause-kept g c =
    kept_itself g.met.S.Site.only_now c.args.store

pub returns-then-room-eq0-clause-batch : goal.returns-then-room-eq0-clause-batch
returns-then-room-eq0-clause-batch g c =
    gathered_ended c.after_last.result c.args.room c.args.batch c.after_last.ensures.more c.requires.empty.batch (omega (arith, c.requires.empty.count)) (omega (arith, c.requires.empty.count)) (none_low c.args.batch c.requires.empty)

pub returns-then-room-eq0-clause-done : goal.returns-then-room-eq0-clause-done
returns-then-room-eq0-clause-done g c told =
    let zero : 0 ≡ c.args.room - c.args.batch.count = omega (arith, c.if-room-eq0.true) in
    does_ended g.F.Feed c.after_last.result (dir_of c.args.store) c.args.room c.args.batch.last c.args.batch c.args.feed.now c.args.feed.now c.after_last.new.feed c.after_last.ensures.more (does_none g.F.Feed (dir_of c.args.store) c.args.room c.args.batch c.args.feed.now c.requires.empty)
    (λ items rest ending q holds a. subst (λ (n : ℕ). IsEnd c.after_last.result n (g.F.Feed.reader c.after_last.new.feed) (g.F.Feed.left c.after_last.new.feed) rest ending) zero (c.after_last.ensures.ends rest ending a))

pub returns-then-room-eq0-clause-read : goal.returns-then-room-eq0-clause-read
returns-then-room-eq0-clause-read g c =
    read_last g.F.Feed c.after_last.result c.args.room c.args.batch c.args.feed.now c.after_last.new.feed c.requires.empty c.if-room-eq0.true c.after_last.ensures.more c.after_last.ensures.through c.after_last.ensures.later c.after_last.ensures.ends c.after_last.ensures.taken

pub loop-taken-init : goal.loop-taken-init
loop-taken-init g c =
    record {
      kept = kept_itself g.met.S.Site.only_now c.args.store;
      batch = c.requires.empty.batch;
      count = c.requires.empty.count;
      sound = c.requires.sound;
      low = none_low c.args.batch c.requires.empty;
      just = λ some. absurd (omega (arith, some, c.requires.empty.count));
      done = λ told. does_none g.F.Feed (dir_of c.args.store) c.args.room c.args.batch c.args.feed.now c.requires.empty;
      read = read_none g.F.Feed c.args.room c.args.batch c.args.feed.now c.requires.empty c.requires.sound;
    }

pub returns-in-Err-clause-batch : goal.returns-in-Err-clause-batch
returns-in-Err-clause-batch g c =
    gathered_ended (Stopped None c.stopped.result) c.args.room c.loop-taken.batch (stopped_other None c.stopped.result) c.loop-taken.invariant.batch (omega (arith, c.loop-taken.invariant.count, c.loop-taken-test.true, c.min-taken-end.ensures)) (omega (arith, c.loop-taken.invariant.count, c.loop-taken-test.true, c.min-taken-end.ensures)) c.loop-taken.invariant.low

pub returns-in-Err-clause-done : goal.returns-in-Err-clause-done
returns-in-Err-clause-done g c told =
    does_ended g.F.Feed (Stopped None c.stopped.result) (dir_of c.args.store) c.args.room c.args.batch.last c.loop-taken.batch c.args.feed.now c.loop-taken.feed c.next.new.self (stopped_other None c.stopped.result) (c.loop-taken.invariant.done told)
    (λ items rest ending q holds a. subst (λ (w : Why). IsStop w None (c.args.room - c.loop-taken.batch.count) rest ending) (sym c.stopped.ensures) (error_ahead (g.F.Feed.reader c.loop-taken.feed) (g.F.Feed.left c.loop-taken.feed) c.in-Err.error (c.args.room - c.loop-taken.batch.count) rest ending a (omega (arith, c.loop-taken.invariant.count, c.loop-taken-test.true, c.min-taken-end.ensures)) (c.in-Err.ensures.read a.bytes a.has)))

pub returns-in-Err-clause-read : goal.returns-in-Err-clause-read
returns-in-Err-clause-read g c =
    read_ended g.F.Feed (Stopped None c.stopped.result) c.args.room c.args.batch.last c.loop-taken.batch c.args.feed.now c.loop-taken.feed c.next.new.self (stopped_other None c.stopped.result) c.loop-taken.invariant.read c.next.ensures.through c.next.ensures.later
    (λ rest ending a. subst (λ (w : Why). IsByStream w (c.args.room - c.loop-taken.batch.count) rest ending) (sym c.stopped.ensures) (stop_by_stream _ None (c.args.room - c.loop-taken.batch.count) rest ending (error_ahead (g.F.Feed.reader c.loop-taken.feed) (g.F.Feed.left c.loop-taken.feed) c.in-Err.error (c.args.room - c.loop-taken.batch.count) rest ending a (omega (arith, c.loop-taken.invariant.count, c.loop-taken-test.true, c.min-taken-end.ensures)) (c.in-Err.ensures.read a.bytes a.has))))
    (λ place bs items t. subst (λ (w : Why). Takes (Stopped None w) place bs items (c.args.room - c.loop-taken.batch.count) (g.F.Feed.reader c.next.new.self) (g.F.Feed.left c.next.new.self)) (sym c.stopped.ensures)
    (takes_error c.in-Err.error place bs items (c.args.room - c.loop-taken.batch.count) (c.args.room - c.loop-taken.batch.count) (g.F.Feed.reader c.loop-taken.feed) (g.F.Feed.reader c.next.new.self) (g.F.Feed.left c.loop-taken.feed) (g.F.Feed.left c.next.new.self) t (c.in-Err.ensures.read t.rest t.holds.2) (c.in-Err.ensures.stops t.rest t.holds.2)))

pub returns-in-Ok-None-clause-batch : goal.returns-in-Ok-None-clause-batch
returns-in-Ok-None-clause-batch g c =
    gathered_ended Last c.args.room c.loop-taken.batch last_other c.loop-taken.invariant.batch (omega (arith, c.loop-taken.invariant.count, c.loop-taken-test.true, c.min-taken-end.ensures)) (omega (arith, c.loop-taken.invariant.count, c.loop-taken-test.true, c.min-taken-end.ensures)) c.loop-taken.invariant.low

pub returns-in-Ok-None-clause-done : goal.returns-in-Ok-None-clause-done
returns-in-Ok-None-clause-done g c told =
    does_ended g.F.Feed Last (dir_of c.args.store) c.args.room c.args.batch.last c.loop-taken.batch c.args.feed.now c.loop-taken.feed c.next.new.self last_other (c.loop-taken.invariant.done told) (λ items rest ending q holds a. let r = c.in-Ok-None.ensures.read a.bytes a.has in stream_end (place_of (g.F.Feed.reader c.loop-taken.feed)) (place_of (g.F.Feed.reader c.next.new.self)) a.bytes r.0 rest ending a.stream (r.1 ∙ ap (λ v. got v (place_of (g.F.Feed.reader c.next.new.self)) r.0) c.in-Ok-None.field-0-is))

pub returns-in-Ok-None-clause-read : goal.returns-in-Ok-None-clause-read
returns-in-Ok-None-clause-read g c =
    read_ended g.F.Feed Last c.args.room c.args.batch.last c.loop-taken.batch c.args.feed.now c.loop-taken.feed c.next.new.self last_other c.loop-taken.invariant.read c.next.ensures.through c.next.ensures.later (λ rest ending a. let r = c.in-Ok-None.ensures.read a.bytes a.has in stream_end (place_of (g.F.Feed.reader c.loop-taken.feed)) (place_of (g.F.Feed.reader c.next.new.self)) a.bytes r.0 rest ending a.stream (r.1 ∙ ap (λ v. got v (place_of (g.F.Feed.reader c.next.new.self)) r.0) c.in-Ok-None.field-0-is))
    (λ place bs items t.
    let r = c.in-Ok-None.ensures.read t.rest t.holds.2 in
    takes_last place bs items (c.args.room - c.loop-taken.batch.count) (c.args.room - c.loop-taken.batch.count) (g.F.Feed.reader c.loop-taken.feed) (g.F.Feed.reader c.next.new.self) (g.F.Feed.left c.loop-taken.feed) (g.F.Feed.left c.next.new.self) (place_of (g.F.Feed.reader c.next.new.self)) r.0 t (r.1 ∙ ap (λ v. got v (place_of (g.F.Feed.reader c.next.new.self)) r.0) c.in-Ok-None.field-0-is) c.in-Ok-None.ensures.ahead r.2)

pub returns-in-Err-added-clause-batch : goal.returns-in-Err-added-clause-batch
returns-in-Err-added-clause-batch g c =
    let same : c.add_item-read.result.1 ≡ c.loop-taken.batch = at_on_err c.add_item-read.result.2 c.in-Err-added.why c.add_item-read.ensures.same c.in-Err-added.is in
    let stop = Stopped (Some c.in-Ok-Some.item.number) c.in-Err-added.why in
    subst (IsGathered stop c.args.room) (sym same) (gathered_ended stop c.args.room c.loop-taken.batch (stopped_other (Some c.in-Ok-Some.item.number) c.in-Err-added.why) c.loop-taken.invariant.batch (omega (arith, c.loop-taken.invariant.count, c.loop-taken-test.true, c.min-taken-end.ensures)) (omega (arith, c.loop-taken.invariant.count, c.loop-taken-test.true, c.min-taken-end.ensures)) c.loop-taken.invariant.low)

pub returns-in-Err-added-clause-done : goal.returns-in-Err-added-clause-done
returns-in-Err-added-clause-done g c told =
    let same : c.add_item-read.result.1 ≡ c.loop-taken.batch = at_on_err c.add_item-read.result.2 c.in-Err-added.why c.add_item-read.ensures.same c.in-Err-added.is in
    let stop = Stopped (Some c.in-Ok-Some.item.number) c.in-Err-added.why in
    let dir : dir_of c.loop-taken.store ≡ dir_of c.args.store = ap (λ (held : Contents). the_dir (directory held)) (c.loop-taken.invariant.kept.reads told) in
    let gave = gives_item g.F.Feed c.in-Ok-Some.field-0 c.in-Ok-Some.item c.loop-taken.feed c.next.new.self c.in-Ok-Some.field-0-is c.in-Ok-Some.ensures.read c.in-Ok-Some.ensures.ahead in
    let now = with_puts (dir_of c.loop-taken.store) c.add_item-read.result.1.txn in
    let reason = at_err (λ (why : Why). HasReason why ⊥ (Rose (g.S.Site.disk_faults (site_of c.loop-taken.store)) (g.S.Site.disk_faults (site_of c.add_item-read.result.0))) (λ (name : Name). IsTrue g.S.Site.tells_reads → IsDamagedInList now name))
    c.add_item-read.result.2 c.in-Err-added.why c.add_item-read.ensures.reason c.in-Err-added.is in
    subst (λ (batch : Batch). DoesBatch g.F.Feed (dir_of c.args.store) stop c.args.room c.args.batch.last batch c.args.feed.now c.next.new.self) (sym same)
    (does_ended g.F.Feed stop (dir_of c.args.store) c.args.room c.args.batch.last c.loop-taken.batch c.args.feed.now c.loop-taken.feed c.next.new.self (stopped_other (Some c.in-Ok-Some.item.number) c.in-Err-added.why) (c.loop-taken.invariant.done told)
    (λ items rest ending q holds a.
    let n = item_ahead g.F.Feed c.in-Ok-Some.item c.loop-taken.feed c.next.new.self gave rest ending a in
    let over : IsState now (fold q items) = subst (λ (d : Dir). IsState d (fold q items)) (λ j. with_puts (sym dir j) (sym same j).txn) holds.state in
    refused_stop c.in-Err-added.why c.in-Ok-Some.item.number (c.args.room - c.loop-taken.batch.count) rest ending _ _ (at_err IsPartReason c.add_item-read.result.2 c.in-Err-added.why c.add_item-read.ensures.part c.in-Err-added.is) reason (λ name damaged. sound now (fold q items) name over (damaged told)) (number_cut (c.args.room - c.loop-taken.batch.count) c.in-Ok-Some.item rest n.0 (omega (arith, c.loop-taken.invariant.count, c.loop-taken-test.true, c.min-taken-end.ensures)) n.1)))

pub returns-in-Err-added-clause-read : goal.returns-in-Err-added-clause-read
returns-in-Err-added-clause-read g c =
    let same : c.add_item-read.result.1 ≡ c.loop-taken.batch = at_on_err c.add_item-read.result.2 c.in-Err-added.why c.add_item-read.ensures.same c.in-Err-added.is in
    let stop = Stopped (Some c.in-Ok-Some.item.number) c.in-Err-added.why in
    let gave = gives_item g.F.Feed c.in-Ok-Some.field-0 c.in-Ok-Some.item c.loop-taken.feed c.next.new.self c.in-Ok-Some.field-0-is c.in-Ok-Some.ensures.read c.in-Ok-Some.ensures.ahead in
    subst (λ (batch : Batch). ReadsBatch g.F.Feed stop c.args.room c.args.batch.last batch c.args.feed.now c.next.new.self) (sym same)
    (read_ended g.F.Feed stop c.args.room c.args.batch.last c.loop-taken.batch c.args.feed.now c.loop-taken.feed c.next.new.self (stopped_other (Some c.in-Ok-Some.item.number) c.in-Err-added.why) c.loop-taken.invariant.read c.next.ensures.through c.next.ensures.later (λ rest ending a. part_by_stream c.in-Err-added.why (c.args.room - c.loop-taken.batch.count) rest ending (at_err IsPartReason c.add_item-read.result.2 c.in-Err-added.why c.add_item-read.ensures.part c.in-Err-added.is))
    (λ place bs items t.
    let r = gave.read t.rest t.holds.2 in
    takes_refused place bs items (c.args.room - c.loop-taken.batch.count) (c.args.room - c.loop-taken.batch.count) (g.F.Feed.reader c.loop-taken.feed) (g.F.Feed.reader c.next.new.self) (g.F.Feed.left c.loop-taken.feed) (g.F.Feed.left c.next.new.self) c.in-Ok-Some.item r.0 c.in-Err-added.why t r.1 gave.ahead r.2 (omega (arith, c.loop-taken.invariant.count, c.loop-taken-test.true, c.min-taken-end.ensures)) (at_err IsPartReason c.add_item-read.result.2 c.in-Err-added.why c.add_item-read.ensures.part c.in-Err-added.is)))

pub returns-in-Err-added-clause-reason : goal.returns-in-Err-added-clause-reason
returns-in-Err-added-clause-reason g c =
    let start = g.S.Site.disk_faults (site_of c.args.store) in
    let before = g.S.Site.disk_faults (site_of c.loop-taken.store) in
    let after = g.S.Site.disk_faults (site_of c.add_item-read.result.0) in
    let dir : IsTrue g.S.Site.tells_reads → dir_of c.loop-taken.store ≡ dir_of c.args.store = λ told. ap (λ (held : Contents). the_dir (directory held)) (c.loop-taken.invariant.kept.reads told) in
    let reason = at_err (λ (why : Why). HasReason why ⊥ (Rose before after) (λ (name : Name). IsTrue g.S.Site.tells_reads → IsDamagedInList (with_puts (dir_of c.loop-taken.store) c.add_item-read.result.1.txn) name))
    c.add_item-read.result.2 c.in-Err-added.why c.add_item-read.ensures.reason c.in-Err-added.is in
    reason_map c.in-Err-added.why ⊥ (Rose (g.F.Feed.faults c.args.feed.now) (g.F.Feed.faults c.next.new.self)) (Rose before after) (Rose start after) _ _ (λ bad. absurd bad)
    (λ rose. rose_earlier start before after c.loop-taken.invariant.kept.disk_faults_are rose)
    (λ name damaged told. subst (λ (d : Dir). IsDamagedInList (with_puts d c.add_item-read.result.1.txn) name) (dir told) (damaged told)) reason

pub returns-in-Err-added-clause-numbered : goal.returns-in-Err-added-clause-numbered
returns-in-Err-added-clause-numbered g c told =
    let item = c.in-Ok-Some.item in
    let same : c.add_item-read.result.1 ≡ c.loop-taken.batch = at_on_err c.add_item-read.result.2 c.in-Err-added.why c.add_item-read.ensures.same c.in-Err-added.is in
    let dir : dir_of c.loop-taken.store ≡ dir_of c.args.store = ap (λ (held : Contents). the_dir (directory held)) (c.loop-taken.invariant.kept.reads told) in
    let files = with_puts (dir_of c.args.store) c.add_item-read.result.1.txn in
    numbered_own (IsOfNext (λ (ahead : List Item) (ending : StreamEnd). IsAhead (g.F.Feed.reader c.args.feed.now) (g.F.Feed.left c.args.feed.now) ahead ending) c.add_item-read.result.1.count files) files item c.in-Err-added.why
    (λ name reads asked. record {
      item = item;
      number = refl;
      reads = reads;
      asked = asked.0;
      none = asked.1;
      next = λ ahead ending a.
          let i = c.loop-taken.invariant.read.streamed ahead ending a in
          let n = item_ahead g.F.Feed item c.loop-taken.feed c.next.new.self (gives_item g.F.Feed c.in-Ok-Some.field-0 c.in-Ok-Some.item c.loop-taken.feed c.next.new.self c.in-Ok-Some.field-0-is c.in-Ok-Some.ensures.read c.in-Ok-Some.ensures.ahead) i.rest ending i.ends in
          (i.items, n.0, i.split ∙ ap (λ (t : List Item). i.items ++ t) n.1, ap (λ (batch : Batch). batch.count) same ∙ i.count_is);
    })
    (at_err (NamesOwn item) c.add_item-read.result.2 c.in-Err-added.why c.add_item-read.ensures.own c.in-Err-added.is)
    (at_err (NamesAsked files item) c.add_item-read.result.2 c.in-Err-added.why
    (subst (λ (d : Dir). IfErr c.add_item-read.result.2 (NamesAsked (with_puts d c.add_item-read.result.1.txn) item)) dir (c.add_item-read.ensures.asked told)) c.in-Err-added.is)

pub returns-then-batch-ge-MAX_SIZE-clause-kept : goal.returns-then-batch-ge-MAX_SIZE-clause-kept
returns-then-batch-ge-MAX_SIZE-clause-kept g c =
    kept_on c.args.store c.loop-taken.store c.add_item-read.result.0 c.loop-taken.invariant.kept c.add_item-read.ensures.kept

pub returns-then-batch-ge-MAX_SIZE-clause-batch : goal.returns-then-batch-ge-MAX_SIZE-clause-batch
returns-then-batch-ge-MAX_SIZE-clause-batch g c =
    let counted : c.add_item-read.result.1.count ≡ c.loop-taken.batch.count + 1 = at_on_ok c.add_item-read.result.2 c.in_default.field-0 c.add_item-read.ensures.counted c.in_default.is in record {
      batch = c.add_item-read.ensures.batch;
      few = omega (arith, counted, c.loop-taken.invariant.count, c.loop-taken-test.true, c.min-taken-end.ensures);
      full = (omega (arith, counted), inr (inl c.if-batch-ge-MAX_SIZE.true));
      in_time = just_full c.loop-taken.batch c.add_item-read.result.1 c.in-Ok-Some.item.number c.loop-taken.invariant.batch (omega (arith, c.loop-taken.invariant.count, c.loop-taken-test.true, c.min-taken-end.ensures)) c.loop-taken.invariant.low (at_on_ok c.add_item-read.result.2 c.in_default.field-0 c.add_item-read.ensures.next c.in_default.is);
    }

pub returns-then-batch-ge-MAX_SIZE-clause-done : goal.returns-then-batch-ge-MAX_SIZE-clause-done
returns-then-batch-ge-MAX_SIZE-clause-done g c told =
    let dir : dir_of c.loop-taken.store ≡ dir_of c.args.store = ap (λ (held : Contents). the_dir (directory held)) (c.loop-taken.invariant.kept.reads told) in
    let d = (at_on_ok c.add_item-read.result.2 c.in_default.field-0 (c.add_item-read.ensures.adds told) c.in_default.is) in
    does_next g.F.Feed (dir_of c.args.store) c.args.room c.args.batch.last c.loop-taken.batch c.add_item-read.result.1 c.args.feed.now c.loop-taken.feed c.next.new.self c.in-Ok-Some.item (c.loop-taken.invariant.done told) (gives_item g.F.Feed c.in-Ok-Some.field-0 c.in-Ok-Some.item c.loop-taken.feed c.next.new.self c.in-Ok-Some.field-0-is c.in-Ok-Some.ensures.read c.in-Ok-Some.ensures.ahead)
    (λ last q items holds. same_dir (dir_of c.args.store) (dir_of c.loop-taken.store) last c.loop-taken.batch c.add_item-read.result.1 c.in-Ok-Some.item dir (at_on_ok c.add_item-read.result.2 c.in_default.field-0 (c.add_item-read.ensures.done told) c.in_default.is) q items holds)
    (d.0, d.1, adds_over (dir_of c.args.store) (dir_of c.loop-taken.store) c.loop-taken.batch c.add_item-read.result.1 d.0 dir d.2)

pub returns-then-batch-ge-MAX_SIZE-clause-read : goal.returns-then-batch-ge-MAX_SIZE-clause-read
returns-then-batch-ge-MAX_SIZE-clause-read g c =
    read_next g.F.Feed c.args.room c.args.batch.last c.loop-taken.batch c.add_item-read.result.1 c.args.feed.now c.loop-taken.feed c.next.new.self c.in-Ok-Some.item c.loop-taken.invariant.read (gives_item g.F.Feed c.in-Ok-Some.field-0 c.in-Ok-Some.item c.loop-taken.feed c.next.new.self c.in-Ok-Some.field-0-is c.in-Ok-Some.ensures.read c.in-Ok-Some.ensures.ahead) c.in-Ok-Some.ensures.sound c.next.ensures.through c.next.ensures.later (at_on_ok c.add_item-read.result.2 c.in_default.field-0 c.add_item-read.ensures.next c.in_default.is)

pub loop-taken-preserved : goal.loop-taken-preserved
loop-taken-preserved g c =
    let counted : c.add_item-read.result.1.count ≡ c.loop-taken.batch.count + 1 = at_on_ok c.add_item-read.result.2 c.in_default.field-0 c.add_item-read.ensures.counted c.in_default.is in record {
      kept = kept_on c.args.store c.loop-taken.store c.add_item-read.result.0 c.loop-taken.invariant.kept c.add_item-read.ensures.kept;
      batch = c.add_item-read.ensures.batch;
      count = omega (arith, counted, c.loop-taken.invariant.count);
      sound = c.in-Ok-Some.ensures.sound;
      low = omega (arith, c.if-batch-ge-MAX_SIZE.false);
      just = λ some. just_full c.loop-taken.batch c.add_item-read.result.1 c.in-Ok-Some.item.number c.loop-taken.invariant.batch (omega (arith, c.loop-taken.invariant.count, c.loop-taken-test.true, c.min-taken-end.ensures)) c.loop-taken.invariant.low (at_on_ok c.add_item-read.result.2 c.in_default.field-0 c.add_item-read.ensures.next c.in_default.is);
      done = λ told.
          let dir : dir_of c.loop-taken.store ≡ dir_of c.args.store = ap (λ (held : Contents). the_dir (directory held)) (c.loop-taken.invariant.kept.reads told) in
          let d = (at_on_ok c.add_item-read.result.2 c.in_default.field-0 (c.add_item-read.ensures.adds told) c.in_default.is) in
          does_next g.F.Feed (dir_of c.args.store) c.args.room c.args.batch.last c.loop-taken.batch c.add_item-read.result.1 c.args.feed.now c.loop-taken.feed c.next.new.self c.in-Ok-Some.item (c.loop-taken.invariant.done told) (gives_item g.F.Feed c.in-Ok-Some.field-0 c.in-Ok-Some.item c.loop-taken.feed c.next.new.self c.in-Ok-Some.field-0-is c.in-Ok-Some.ensures.read c.in-Ok-Some.ensures.ahead)
          (λ last q items holds. same_dir (dir_of c.args.store) (dir_of c.loop-taken.store) last c.loop-taken.batch c.add_item-read.result.1 c.in-Ok-Some.item dir (at_on_ok c.add_item-read.result.2 c.in_default.field-0 (c.add_item-read.ensures.done told) c.in_default.is) q items holds)
          (d.0, d.1, adds_over (dir_of c.args.store) (dir_of c.loop-taken.store) c.loop-taken.batch c.add_item-read.result.1 d.0 dir d.2);
      read = read_next g.F.Feed c.args.room c.args.batch.last c.loop-taken.batch c.add_item-read.result.1 c.args.feed.now c.loop-taken.feed c.next.new.self c.in-Ok-Some.item c.loop-taken.invariant.read (gives_item g.F.Feed c.in-Ok-Some.field-0 c.in-Ok-Some.item c.loop-taken.feed c.next.new.self c.in-Ok-Some.field-0-is c.in-Ok-Some.ensures.read c.in-Ok-Some.ensures.ahead) c.in-Ok-Some.ensures.sound c.next.ensures.through c.next.ensures.later (at_on_ok c.add_item-read.result.2 c.in_default.field-0 c.add_item-read.ensures.next c.in_default.is);
    }

pub returns-clause-batch : goal.returns-clause-batch
returns-clause-batch g c =
    record {
      batch = c.loop-taken.invariant.batch;
      few = omega (arith, c.loop-taken.invariant.count, c.min-taken-end.ensures, c.loop-taken-test.false, c.loop-taken.auto.taken-end);
      full = full_counted c.loop-taken.batch c.args.room (omega (arith, c.if-room-eq0.false)) (omega (arith, c.loop-taken.invariant.count, c.min-taken-end.ensures, c.loop-taken-test.false, c.loop-taken.auto.taken-end));
      in_time = c.loop-taken.invariant.just (omega (arith, c.loop-taken.invariant.count, c.min-taken-end.ensures, c.loop-taken-test.false, c.if-room-eq0.false));
    }

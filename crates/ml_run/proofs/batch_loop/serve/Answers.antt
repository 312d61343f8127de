use Rattle.std.proofs.Common.{◌≡◌, ⊎_elim, ◌≤◌, ◌-◌, ◌+◌, ◌*◌, ◌/◌, ℕ, sym, ap, refl, subst, length, Some, None, IsTrue, arith, List, [], ◌++◌, ◌∙◌, append_assoc}
use Rattle.ml_base.specs.Bytes.{Text}
use Rattle.ml_ending.specs.declared.lines.Why.{Why}
use Rattle.ml_base.specs.Dir.{with_puts}
use Rattle.ml_base.specs.Faults.{Rose}
use Rattle.ml_base.specs.declared.names.Name.{Name}
use Rattle.ml_site.specs.Disk.{Contents}
use Rattle.ml_journal.specs.Log.{directory}
use Rattle.ml_journal.specs.Kept.{kept_itself}
use Rattle.ml_journal.specs.Stores.{site_of, the_dir}
use Rattle.ml_plain.specs.Histories.{fold}
use Rattle.ml_plain.specs.Replies.{is_status}
use Rattle.std.proofs.lemmas.List.{append-nil}
use Rattle.ml_run.specs.declared.batches.BatchEnd.{BatchEnd}
use Rattle.ml_stream.specs.Stream.{StreamEnd}
use Rattle.ml_stream.specs.Items.{place_of}
use Rattle.ml_run.specs.Batches.{EndsNumbered, IsAhead, IsOfNext, IsEnd, EndsWithReason, IsFullBatch, Reads, TakesSome}
use Rattle.ml_run.specs.Leaving.{dir_of}
use Rattle.ml_run.specs.Endings.{Brings, HasRead, IsServing}
use Rattle.ml_run.proofs.Ahead.{fresh_left, fresh_ahead}
use Rattle.ml_run.proofs.ItemPaths.{next_of_all, numbered_map}
use Rattle.ml_ending.proofs.Said.{at_site}
use Rattle.ml_run.specs.Settling.{KeepsFaults, LeavesSettling}
use Rattle.ml_run.proofs.Leaving.{shown}
use Rattle.ml_run.proofs.Whole.{round, first_serving, round_next}
use Rattle.ml_run.proofs.ServedList.{list_last, list_refused, list_stopped, stream_failing}
use Rattle.ml_ending.proofs.Finished.{rose_earlier, finished_syncs}
use Rattle.ml_run.proofs.Causes.{refused_status, end_reason, refused_causes, refused_counts, refused_rest, refused_syncs}
use Rattle.ml_run.proofs.Spent.{costs_of, spent_next, spent_none, spent_other, spent_bound}
use Rattle.ml_list.specs.Damage.{IsDamagedInList}
use Rattle.ml_run.proofs.Named.{finished_named, refused_named, end_found, committed_dir}
use Rattle.ml_plain.specs.declared.Item.{Item}
use Rattle.ml_run.specs.declared.batches.BatchEnd.TheVariants.{Stopped}
use Rattle.ml_run.proofs.Taking.{takes_none}
use Rattle.ml_run.proofs.Taken.{takes_joined, few_taken, more_only}
use Rattle.ml_run.proofs.Streamed.{settled_not, all_read, read_next, read_split, each_answered, failing_not, failing_whole, finished_more, finished_or, finished_whole, quiet_last, stop_unanswered, finished_why, refused_failing}
use Rattle.ml_run.specs.Anywhere.{GathersDone}
use Rattle.ml_run.proofs.Anywhere.{first_done}
use Rattle.ml_run.proofs.ServedAnywhere.{not_answered, served_last, served_next, served_refused}
use Rattle.ml_run.proofs.batch_loop.serve.Goals as goal

pub batches-init : goal.batches-init
batches-init g c =
    let start = site_of c.args.store in
    let reader = g.F.Feed.reader c.args.feed.now in
    let left = g.F.Feed.left c.args.feed.now in record {
      empty = c.empty_batch-batch.ensures.empty;
      sound = c.requires.ready.sound;
      through = refl;
      few = omega arith;
      taken = λ bytes is. (
        [],
        refl,
        takes_none 0 bytes reader left (sym c.requires.ready.fresh.place) c.requires.ready.fresh.ahead (fresh_left reader left bytes c.requires.ready.fresh is (g.met.F.Feed.room c.args.feed.now bytes c.requires.ready.sound is)),
      );
      streamed = λ all ending b. record {
        done = [];
        ahead = all;
        split = refl;
        count = refl;
        lines = [];
        answers = (refl, c.empty_batch-batch.ensures.last);
        out = λ t. sym (append-nil (g.S.Site.output start));
        stream = fresh_ahead reader left b.bytes all ending c.requires.ready.fresh b.left_is (g.met.F.Feed.room c.args.feed.now b.bytes c.requires.ready.sound b.left_is) b.stream;
      };
      input_later = omega arith;
      disk_later = omega arith;
      output_later = omega arith;
      so_far = λ told all ending q b.
          first_serving g.S.Site start c.args.limit c.empty_batch-batch.result.last reader left all ending q b.state (kept_itself g.met.S.Site.only_now c.args.store).instants c.empty_batch-batch.ensures.last
          (fresh_ahead reader left b.bytes all ending c.requires.ready.fresh b.left_is (g.met.F.Feed.room c.args.feed.now b.bytes c.requires.ready.sound b.left_is) b.stream);
      anywhere = λ told files here. record {
        done = [];
        has = first_done g.S.Site files start here (kept_itself g.met.S.Site.only_now c.args.store).instants;
        count = refl;
        items = λ all ending b. (all, refl, fresh_ahead reader left b.bytes all ending c.requires.ready.fresh b.left_is (g.met.F.Feed.room c.args.feed.now b.bytes c.requires.ready.sound b.left_is) b.stream);
      };
      spent = λ told is. (0, omega arith, λ lt. refl, spent_none (g.S.Site.syncs start) (g.S.Site.log_bytes start) (length (g.S.Site.disk start).reads.log) (omega (arith, ap length is)));
    }

-- a bound in which there are at most eight others
eight : (mine answered start now others paid : ℕ) → answered ≡ mine → others ≤ 8 → now ≤ start + others + 2 * (mine / 16) + paid → now ≤ start + 8 + 2 * (answered / 16) + paid
eight mine answered start now others paid is few bound = subst (λ (n : ℕ). now ≤ start + 8 + 2 * (n / 16) + paid) (sym is) (omega (arith, few, bound))

-- what was put out once a batch was answered
put_next : (start now read settled lines given more : Text) → now ≡ start ++ lines → read ≡ now → settled ≡ read ++ given → given ≡ more → settled ≡ start ++ (lines ++ more)
put_next start now read settled lines given more is same put whole =
    put ∙ ap (λ (o : Text). o ++ given) (same ∙ is) ∙ ap (λ (t : Text). (start ++ lines) ++ t) whole ∙ append_assoc start lines more

pub returns-in-Err-clause-list : goal.returns-in-Err-clause-list
returns-in-Err-clause-list g c told all ending q b =
    let i = c.batches.invariant.so_far told all ending q b in
    let s = (c.gather-read.ensures.done told).gathered i.ahead ending (fold q i.done) i.stream (shown _ (fold q i.done) i.served.state) in
    let t = c.batches.invariant.taken b.bytes b.left_is in
    list_refused g.F.Feed g.S.Site c.args.limit c.batches.answered c.batches.batch.last c.args.feed.now c.batches.feed c.gather-read.new.feed (site_of c.args.store) c.batches.now c.gather-read.result.0 c.in-Err.site c.end_refused.result.1 c.end_refused.result.0 all ending q b i
    c.gather-read.result.1 c.gather-read.result.2 s c.as_slice.result.now c.as_slice.ensures c.gather-read.ensures.batch.few c.batches.invariant.few g.met.S.Site.all_has_reads g.met.S.Site.reads_as_image told c.gather-read.ensures.kept
    c.in-Err.why c.in-Err.ensures.refused (at_site (LeavesSettling g.S.Site c.gather-read.result.1.txn c.as_slice.result.now (site_of c.gather-read.result.0)) c.settle.result _ c.in-Err.is c.settle.ensures.instants)
    t (c.gather-read.ensures.read.taken t.2.rest t.2.holds.1 t.2.holds.2) c.gather-read.ensures.batch.batch c.end_refused.ensures.refuses c.end_refused.ensures.answered

pub returns-in-Err-clause-closed : goal.returns-in-Err-clause-closed
returns-in-Err-clause-closed g c =
    let never = refused_status g.S.Site (site_of c.gather-read.result.0) c.in-Err.site c.end_refused.result.1 c.end_refused.result.0.status c.gather-read.result.1.first c.in-Err.why c.in-Err.ensures.refused.refused c.end_refused.ensures.refuses in record {
      rest = λ none one two told. absurd (refused_rest g.S.Site (site_of c.gather-read.result.0) c.in-Err.site c.end_refused.result.1 (g.S.Site.disk_faults (site_of c.args.store)) c.end_refused.result.0.status c.gather-read.result.1.first c.in-Err.why
          (omega (arith, c.batches.invariant.disk_later, c.gather-read.ensures.kept.disk_faults_are)) c.in-Err.ensures.refused.refused c.end_refused.ensures.refuses none one two);
      settled = λ ok t. absurd (never (λ e. settled_not c.end_refused.result.0.status 71 refl ok e) (λ e. settled_not c.end_refused.result.0.status 73 refl ok e) (λ e. settled_not c.end_refused.result.0.status 111 refl ok e));
      gate = λ some one two three t. absurd (never one two three);
    }

pub returns-in-Err-clause-counts : goal.returns-in-Err-clause-counts
returns-in-Err-clause-counts g c =
    let faults = at_site (KeepsFaults g.S.Site (site_of c.gather-read.result.0)) c.settle.result _ c.in-Err.is c.settle.ensures.faults in
    let counts = refused_counts g.S.Site c.in-Err.site c.end_refused.result.1 c.end_refused.result.0.status c.gather-read.result.1.first c.in-Err.why c.end_refused.ensures.refuses in
    let causes = refused_causes g.S.Site (site_of c.gather-read.result.0) c.in-Err.site c.end_refused.result.1 (g.S.Site.disk_faults (site_of c.args.store)) (g.S.Site.output_faults (site_of c.args.store)) c.end_refused.result.0.status c.gather-read.result.1.first c.in-Err.why
    (Rose (g.F.Feed.faults c.args.feed.now) (g.F.Feed.faults c.gather-read.new.feed)) (omega (arith, c.batches.invariant.disk_later, c.gather-read.ensures.kept.disk_faults_are)) (omega (arith, c.batches.invariant.output_later, c.gather-read.ensures.kept.output_faults_are))
    (omega (arith, c.batches.invariant.output_later, c.gather-read.ensures.kept.output_faults_are, faults.output)) c.in-Err.ensures.refused.refused c.end_refused.ensures.refuses in record {
      statuses = causes.known;
      few = omega (arith, c.end_refused.ensures.answered, c.batches.invariant.few);
      of_input = causes.of_input;
      input_later = omega (arith, c.batches.invariant.input_later, c.gather-read.ensures.read.later);
      site = record {
        of_disk = causes.of_disk;
        of_output = causes.of_output;
        disk_later = omega (arith, counts.0, c.batches.invariant.disk_later, c.gather-read.ensures.kept.disk_faults_are, faults.disk);
        output_later = omega (arith, counts.1, c.batches.invariant.output_later, c.gather-read.ensures.kept.output_faults_are, faults.output);
      };
    }

pub returns-in-Err-clause-syncs : goal.returns-in-Err-clause-syncs
returns-in-Err-clause-syncs g c told is =
    let sp = c.batches.invariant.spent told is in
    let kept = c.gather-read.ensures.kept in
    let counts = refused_syncs g.S.Site c.in-Err.site c.end_refused.result.1 c.end_refused.result.0.status c.gather-read.result.1.first c.in-Err.why c.end_refused.ensures.refuses told in
    let last = c.in-Err.ensures.refused.spends told in
    let bound = spent_bound (g.S.Site.syncs (site_of c.args.store)) (g.S.Site.syncs (site_of c.batches.now)) (g.S.Site.syncs c.end_refused.result.1) (g.S.Site.log_bytes (site_of c.args.store)) (g.S.Site.log_bytes (site_of c.batches.now)) (g.S.Site.log_bytes c.end_refused.result.1)
    (length (g.S.Site.disk (site_of c.batches.now)).reads.log) c.batches.answered sp.0 5 sp.3
    (record { few = omega (arith, last.few, counts.0, kept.syncs_are told); stay = omega (arith, last.stay, counts.0, kept.syncs_are told); bytes_stay = omega (arith, last.bytes_stay, counts.1, kept.log_bytes_are told) }) in
    eight c.batches.answered c.end_refused.result.0.answered (g.S.Site.syncs (site_of c.args.store)) (g.S.Site.syncs c.end_refused.result.1) (sp.0 + 5 + 1) ((g.S.Site.log_bytes c.end_refused.result.1 - g.S.Site.log_bytes (site_of c.args.store)) / 1_048_576) c.end_refused.ensures.answered (omega (arith, sp.1)) bound

pub returns-in-Last-clause-list : goal.returns-in-Last-clause-list
returns-in-Last-clause-list g c told all ending q b =
    let i = c.batches.invariant.so_far told all ending q b in
    let s = (c.gather-read.ensures.done told).gathered i.ahead ending (fold q i.done) i.stream (shown _ (fold q i.done) i.served.state) in
    let t = c.batches.invariant.taken b.bytes b.left_is in
    list_last g.F.Feed g.S.Site c.args.limit c.batches.answered c.batches.batch.last c.args.feed.now c.batches.feed c.gather-read.new.feed (site_of c.args.store) c.batches.now c.gather-read.result.0 (site_of c.in-Ok.settled) c.finish.result.1 c.finish.result.0 all ending q b i
    c.gather-read.result.1 c.gather-read.result.2 s c.as_slice.result.now c.as_slice.ensures c.gather-read.ensures.batch.few c.batches.invariant.few g.met.S.Site.all_has_reads g.met.S.Site.reads_as_image told c.gather-read.ensures.kept
    c.in-Ok.ensures.done (at_site (LeavesSettling g.S.Site c.gather-read.result.1.txn c.as_slice.result.now (site_of c.gather-read.result.0)) c.settle.result _ c.in-Ok.is c.settle.ensures.instants)
    t (c.gather-read.ensures.read.taken t.2.rest t.2.holds.1 t.2.holds.2) c.in-Last.is c.finish.ensures.finishes c.finish.ensures.answered

pub returns-in-Last-clause-syncs : goal.returns-in-Last-clause-syncs
returns-in-Last-clause-syncs g c told is =
    let sp = c.batches.invariant.spent told is in
    let kept = c.gather-read.ensures.kept in
    let spends = costs_of g.S.Site c.batches.now c.gather-read.result.0 (site_of c.in-Ok.settled) c.gather-read.result.1.txn c.as_slice.result.now told (g.met.S.Site.all_has_reads told) kept c.in-Ok.ensures.done in
    let here = spent_other (g.S.Site.syncs (site_of c.args.store)) (g.S.Site.syncs (site_of c.batches.now)) (g.S.Site.syncs (site_of c.in-Ok.settled)) (g.S.Site.log_bytes (site_of c.args.store)) (g.S.Site.log_bytes (site_of c.batches.now)) (g.S.Site.log_bytes (site_of c.in-Ok.settled)) (length (g.S.Site.disk (site_of c.batches.now)).reads.log) (length (g.S.Site.disk (site_of c.in-Ok.settled)).reads.log) c.batches.answered c.gather-read.result.1.count sp.0 c.gather-read.result.1.txn sp.3 spends in
    let f = finished_syncs g.S.Site (site_of c.in-Ok.settled) c.finish.result.1 None c.finish.result.0.status c.gather-read.result.1.last c.finish.ensures.finishes told in
    let bound = spent_bound (g.S.Site.syncs (site_of c.args.store)) (g.S.Site.syncs (site_of c.in-Ok.settled)) (g.S.Site.syncs c.finish.result.1) (g.S.Site.log_bytes (site_of c.args.store)) (g.S.Site.log_bytes (site_of c.in-Ok.settled)) (g.S.Site.log_bytes c.finish.result.1)
    (length (g.S.Site.disk (site_of c.in-Ok.settled)).reads.log) (c.batches.answered + c.gather-read.result.1.count) (sp.0 + 2) 3 here (record { few = f.0; stay = f.1; bytes_stay = f.2 }) in
    eight (c.batches.answered + c.gather-read.result.1.count) c.finish.result.0.answered (g.S.Site.syncs (site_of c.args.store)) (g.S.Site.syncs c.finish.result.1) (sp.0 + 2 + 3 + 1) ((g.S.Site.log_bytes c.finish.result.1 - g.S.Site.log_bytes (site_of c.args.store)) / 1_048_576) c.finish.ensures.answered (omega (arith, sp.1)) bound

pub returns-in-Stopped-clause-list : goal.returns-in-Stopped-clause-list
returns-in-Stopped-clause-list g c told all ending q b =
    let i = c.batches.invariant.so_far told all ending q b in
    let s = (c.gather-read.ensures.done told).gathered i.ahead ending (fold q i.done) i.stream (shown _ (fold q i.done) i.served.state) in
    let t = c.batches.invariant.taken b.bytes b.left_is in
    list_stopped g.F.Feed g.S.Site c.args.limit c.batches.answered c.batches.batch.last c.args.feed.now c.batches.feed c.gather-read.new.feed (site_of c.args.store) c.batches.now c.gather-read.result.0 (site_of c.in-Ok.settled) c.finish-in-Stopped.result.1 c.finish-in-Stopped.result.0 all ending q b i
    c.gather-read.result.1 c.gather-read.result.2 s c.as_slice.result.now c.as_slice.ensures c.gather-read.ensures.batch.few c.batches.invariant.few g.met.S.Site.all_has_reads g.met.S.Site.reads_as_image told c.gather-read.ensures.kept
    c.in-Ok.ensures.done (at_site (LeavesSettling g.S.Site c.gather-read.result.1.txn c.as_slice.result.now (site_of c.gather-read.result.0)) c.settle.result _ c.in-Ok.is c.settle.ensures.instants)
    t (c.gather-read.ensures.read.taken t.2.rest t.2.holds.1 t.2.holds.2) c.in-Stopped.number c.in-Stopped.why _ _ c.in-Stopped.is
    (end_reason c.gather-read.result.2 _ _ _ _ (λ rose. rose_earlier _ _ _ c.batches.invariant.input_later rose) c.gather-read.ensures.reason) c.gather-read.ensures.batch.batch.last c.finish-in-Stopped.ensures.finishes c.finish-in-Stopped.ensures.answered

pub returns-in-Stopped-clause-syncs : goal.returns-in-Stopped-clause-syncs
returns-in-Stopped-clause-syncs g c told is =
    let sp = c.batches.invariant.spent told is in
    let kept = c.gather-read.ensures.kept in
    let spends = costs_of g.S.Site c.batches.now c.gather-read.result.0 (site_of c.in-Ok.settled) c.gather-read.result.1.txn c.as_slice.result.now told (g.met.S.Site.all_has_reads told) kept c.in-Ok.ensures.done in
    let here = spent_other (g.S.Site.syncs (site_of c.args.store)) (g.S.Site.syncs (site_of c.batches.now)) (g.S.Site.syncs (site_of c.in-Ok.settled)) (g.S.Site.log_bytes (site_of c.args.store)) (g.S.Site.log_bytes (site_of c.batches.now)) (g.S.Site.log_bytes (site_of c.in-Ok.settled)) (length (g.S.Site.disk (site_of c.batches.now)).reads.log) (length (g.S.Site.disk (site_of c.in-Ok.settled)).reads.log) c.batches.answered c.gather-read.result.1.count sp.0 c.gather-read.result.1.txn sp.3 spends in
    let f = finished_syncs g.S.Site (site_of c.in-Ok.settled) c.finish-in-Stopped.result.1 (Some (c.in-Stopped.number, c.in-Stopped.why)) c.finish-in-Stopped.result.0.status c.gather-read.result.1.last c.finish-in-Stopped.ensures.finishes told in
    let bound = spent_bound (g.S.Site.syncs (site_of c.args.store)) (g.S.Site.syncs (site_of c.in-Ok.settled)) (g.S.Site.syncs c.finish-in-Stopped.result.1) (g.S.Site.log_bytes (site_of c.args.store)) (g.S.Site.log_bytes (site_of c.in-Ok.settled)) (g.S.Site.log_bytes c.finish-in-Stopped.result.1)
    (length (g.S.Site.disk (site_of c.in-Ok.settled)).reads.log) (c.batches.answered + c.gather-read.result.1.count) (sp.0 + 2) 3 here (record { few = f.0; stay = f.1; bytes_stay = f.2 }) in
    eight (c.batches.answered + c.gather-read.result.1.count) c.finish-in-Stopped.result.0.answered (g.S.Site.syncs (site_of c.args.store)) (g.S.Site.syncs c.finish-in-Stopped.result.1) (sp.0 + 2 + 3 + 1) ((g.S.Site.log_bytes c.finish-in-Stopped.result.1 - g.S.Site.log_bytes (site_of c.args.store)) / 1_048_576) c.finish-in-Stopped.ensures.answered (omega (arith, sp.1)) bound

pub batches-preserved : goal.batches-preserved
batches-preserved g c =
    let faults = at_site (KeepsFaults g.S.Site (site_of c.gather-read.result.0)) c.settle.result _ c.in-Ok.is c.settle.ensures.faults in
    let kept = c.gather-read.ensures.kept in
    let time = at_site (LeavesSettling g.S.Site c.gather-read.result.1.txn c.as_slice.result.now (site_of c.gather-read.result.0)) c.settle.result _ c.in-Ok.is c.settle.ensures.instants in
    let full = subst (λ (e : BatchEnd). IsFullBatch e c.gather-read.result.1 (c.args.limit - c.batches.answered)) c.in-Full.is c.gather-read.ensures.batch.full in record {
      empty = c.empty_batch-batch-in-Full.ensures.empty;
      sound = c.gather-read.ensures.read.sound c.in-Full.is;
      through = c.gather-read.ensures.read.through ∙ c.batches.invariant.through;
      few = omega (arith, c.batches.invariant.few, c.gather-read.ensures.batch.few);
      taken = λ bytes is.
          let t = c.batches.invariant.taken bytes is in
          takes_joined bytes c.batches.answered c.gather-read.result.1.count 0 (c.args.limit - c.batches.answered - c.gather-read.result.1.count) 0 (g.F.Feed.reader c.batches.feed) (g.F.Feed.reader c.gather-read.new.feed) (g.F.Feed.left c.batches.feed) (g.F.Feed.left c.gather-read.new.feed) t
          (subst (λ (e : BatchEnd). TakesSome e (place_of (g.F.Feed.reader c.batches.feed)) t.2.rest c.gather-read.result.1.count (c.args.limit - c.batches.answered - c.gather-read.result.1.count) (g.F.Feed.reader c.gather-read.new.feed) (g.F.Feed.left c.gather-read.new.feed)) c.in-Full.is (c.gather-read.ensures.read.taken t.2.rest t.2.holds.1 t.2.holds.2));
      streamed = λ all ending b.
          let h = c.batches.invariant.streamed all ending b in
          subst (λ (n : ℕ). HasRead (c.batches.answered + c.gather-read.result.1.count) n (λ (lines : Text). IsTrue g.S.Site.tells_all → g.S.Site.output (site_of c.in-Ok.settled) ≡ g.S.Site.output (site_of c.args.store) ++ lines) (g.F.Feed.reader c.gather-read.new.feed) (g.F.Feed.left c.gather-read.new.feed) all ending) (sym c.empty_batch-batch-in-Full.ensures.last)
          (read_next c.batches.answered c.batches.batch.last (λ (lines : Text). IsTrue g.S.Site.tells_all → g.S.Site.output (site_of c.batches.now) ≡ g.S.Site.output (site_of c.args.store) ++ lines)
          (λ (lines : Text). IsTrue g.S.Site.tells_all → g.S.Site.output (site_of c.in-Ok.settled) ≡ g.S.Site.output (site_of c.args.store) ++ lines) c.gather-read.result.1 (g.F.Feed.reader c.batches.feed) (g.F.Feed.reader c.gather-read.new.feed) (g.F.Feed.left c.batches.feed) (g.F.Feed.left c.gather-read.new.feed) all ending (c.args.limit - c.batches.answered - c.gather-read.result.1.count) h
          (subst (λ (e : BatchEnd). Reads e c.batches.batch.last c.gather-read.result.1 (c.args.limit - c.batches.answered - c.gather-read.result.1.count) (g.F.Feed.reader c.gather-read.new.feed) (g.F.Feed.left c.gather-read.new.feed) h.ahead ending) c.in-Full.is (c.gather-read.ensures.read.streamed h.ahead ending h.stream))
          (λ lines put t. put_next (g.S.Site.output (site_of c.args.store)) (g.S.Site.output (site_of c.batches.now)) (g.S.Site.output (site_of c.gather-read.result.0)) (g.S.Site.output (site_of c.in-Ok.settled)) lines c.as_slice.result.now c.gather-read.result.1.lines (put t) (kept.output_is t) (c.in-Ok.ensures.done.put t) c.as_slice.ensures));
      input_later = omega (arith, c.batches.invariant.input_later, c.gather-read.ensures.read.later);
      disk_later = omega (arith, c.batches.invariant.disk_later, kept.disk_faults_are, faults.disk);
      output_later = omega (arith, c.batches.invariant.output_later, kept.output_faults_are, faults.output);
      so_far = λ told all ending q b.
          let i = c.batches.invariant.so_far told all ending q b in
          let kept = c.gather-read.ensures.kept in
          let s = (c.gather-read.ensures.done told).gathered i.ahead ending (fold q i.done) i.stream (shown _ (fold q i.done) i.served.state) in
          let r = round g.S.Site (site_of c.args.store) c.batches.now c.gather-read.result.0 (site_of c.in-Ok.settled) c.args.limit c.batches.answered c.batches.batch.last (g.F.Feed.reader c.batches.feed) (g.F.Feed.reader c.gather-read.new.feed) (g.F.Feed.left c.batches.feed) (g.F.Feed.left c.gather-read.new.feed) all ending q i
          c.gather-read.result.1 c.gather-read.result.2 s c.as_slice.result.now c.as_slice.ensures c.gather-read.ensures.batch.few c.batches.invariant.few g.met.S.Site.all_has_reads told kept c.in-Ok.ensures.done time in
          let end = subst (λ (e : BatchEnd). IsEnd e (c.args.limit - c.batches.answered - c.gather-read.result.1.count) (g.F.Feed.reader c.gather-read.new.feed) (g.F.Feed.left c.gather-read.new.feed) s.rest ending) c.in-Full.is s.ends in
          subst (λ (n : ℕ). IsServing g.S.Site (site_of c.args.store) (site_of c.in-Ok.settled) c.args.limit (c.batches.answered + c.gather-read.result.1.count) n (g.F.Feed.reader c.gather-read.new.feed) (g.F.Feed.left c.gather-read.new.feed) all ending q) (sym c.empty_batch-batch-in-Full.ensures.last)
          (round_next g.S.Site (site_of c.args.store) (site_of c.in-Ok.settled) c.args.limit (c.batches.answered + c.gather-read.result.1.count) c.gather-read.result.1.last (g.F.Feed.reader c.gather-read.new.feed) (g.F.Feed.left c.gather-read.new.feed) all s.rest ending q r end);
      anywhere = λ told files here.
          served_next g.S.Site files (site_of c.args.store) c.batches.now c.gather-read.result.0 (site_of c.in-Ok.settled) c.batches.answered (g.F.Feed.reader c.batches.feed) (g.F.Feed.reader c.gather-read.new.feed) (g.F.Feed.left c.batches.feed) (g.F.Feed.left c.gather-read.new.feed) (g.F.Feed.left c.args.feed.now)
          c.gather-read.result.1 c.as_slice.result.now g.met.S.Site.all_has_reads told (c.batches.invariant.anywhere told files here)
          (subst (λ (e : BatchEnd). GathersDone (dir_of c.batches.now) c.gather-read.result.1 e (g.F.Feed.reader c.batches.feed) (g.F.Feed.reader c.gather-read.new.feed) (g.F.Feed.left c.batches.feed) (g.F.Feed.left c.gather-read.new.feed)) c.in-Full.is (c.gather-read.ensures.done told).done)
          c.as_slice.ensures kept c.in-Ok.ensures.done time;
      spent = λ told is.
          let sp = c.batches.invariant.spent told is in
          let kept = c.gather-read.ensures.kept in
          let spends = costs_of g.S.Site c.batches.now c.gather-read.result.0 (site_of c.in-Ok.settled) c.gather-read.result.1.txn c.as_slice.result.now told (g.met.S.Site.all_has_reads told) kept c.in-Ok.ensures.done in
          spent_next (g.S.Site.syncs (site_of c.args.store)) (g.S.Site.syncs (site_of c.batches.now)) (g.S.Site.syncs (site_of c.in-Ok.settled)) (g.S.Site.log_bytes (site_of c.args.store)) (g.S.Site.log_bytes (site_of c.batches.now)) (g.S.Site.log_bytes (site_of c.in-Ok.settled)) (length (g.S.Site.disk (site_of c.batches.now)).reads.log) (length (g.S.Site.disk (site_of c.in-Ok.settled)).reads.log) c.batches.answered c.gather-read.result.1.count c.args.limit sp.0 c.gather-read.result.1.size c.gather-read.result.1.txn sp.3 sp.2 spends c.gather-read.ensures.batch.batch.size full.0 c.gather-read.ensures.batch.few full.1;
    }

pub returns-in-Err-clause-named : goal.returns-in-Err-clause-named
returns-in-Err-clause-named g c told is = absurd (refused_named g.S.Site (site_of c.gather-read.result.0) c.in-Err.site c.end_refused.result.1 c.end_refused.result.0.status c.gather-read.result.1.first c.in-Err.why c.in-Err.ensures.refused.refused c.end_refused.ensures.refuses is)

pub returns-in-Stopped-clause-named : goal.returns-in-Stopped-clause-named
returns-in-Stopped-clause-named g c told is =
    let same : the_dir (directory (g.S.Site.disk (site_of c.gather-read.result.0)).reads) ≡ dir_of c.batches.now = ap (λ (held : Contents). the_dir (directory held)) (c.gather-read.ensures.kept.reads told) in
    let now = committed_dir (directory (g.S.Site.disk (site_of c.gather-read.result.0)).reads) (directory (g.S.Site.disk (site_of c.in-Ok.settled)).reads) (dir_of c.batches.now) c.gather-read.result.1.txn (c.settle.ensures.whole told) same (c.in-Ok.ensures.done.dir told) in
    let reason = subst (λ (e : BatchEnd). EndsWithReason e (Rose (g.F.Feed.faults c.batches.feed) (g.F.Feed.faults c.gather-read.new.feed)) (Rose (g.S.Site.disk_faults (site_of c.batches.now)) (g.S.Site.disk_faults (site_of c.gather-read.result.0))) (λ (name : Name). IsTrue g.S.Site.tells_reads → IsDamagedInList (with_puts (dir_of c.batches.now) c.gather-read.result.1.txn) name)) c.in-Stopped.is c.gather-read.ensures.reason in
    let ahead_is : List Item → StreamEnd → Type 0 = λ ahead ending. IsAhead (g.F.Feed.reader c.batches.feed) (g.F.Feed.left c.batches.feed) ahead ending in
    let next = IsOfNext (Brings (g.F.Feed.left c.args.feed.now)) c.finish-in-Stopped.result.0.answered in
    let after = with_puts (dir_of c.batches.now) c.gather-read.result.1.txn in
    let numbered = numbered_map (IsOfNext ahead_is c.gather-read.result.1.count after) (next after) c.in-Stopped.number c.in-Stopped.why
    (λ who name of. next_of_all (Brings (g.F.Feed.left c.args.feed.now)) ahead_is c.batches.answered c.gather-read.result.1.count c.finish-in-Stopped.result.0.answered after who name c.finish-in-Stopped.ensures.answered
    (λ all ending b. let h = c.batches.invariant.streamed all ending b in (h.done, h.ahead, h.split, h.count, h.stream)) of)
    (subst (EndsNumbered (IsOfNext ahead_is c.gather-read.result.1.count after)) c.in-Stopped.is (c.gather-read.ensures.numbered told)) in
    finished_named g.S.Site next (site_of c.in-Ok.settled) c.finish-in-Stopped.result.1 c.finish-in-Stopped.result.0.status c.gather-read.result.1.last c.in-Stopped.number c.in-Stopped.why (directory (g.S.Site.disk (site_of c.args.store)).reads) c.finish-in-Stopped.ensures.finishes c.gather-read.ensures.batch.batch.last is told
    (end_found next c.in-Stopped.number c.in-Stopped.why (Rose (g.F.Feed.faults c.batches.feed) (g.F.Feed.faults c.gather-read.new.feed)) (Rose (g.S.Site.disk_faults (site_of c.batches.now)) (g.S.Site.disk_faults (site_of c.gather-read.result.0))) (IsTrue g.S.Site.tells_reads) (directory (g.S.Site.disk (site_of c.args.store)).reads) (with_puts (dir_of c.batches.now) c.gather-read.result.1.txn) (directory (g.S.Site.disk (site_of c.in-Ok.settled)).reads) reason told now numbered)

pub returns-in-Err-clause-read : goal.returns-in-Err-clause-read
returns-in-Err-clause-read g c = record {
  stream = stream_failing g.F.Feed g.S.Site (g.F.Feed.left c.args.feed.now) c.args.limit (site_of c.args.store) c.end_refused.result.1 c.end_refused.result.0 (refused_failing g.S.Site (site_of c.gather-read.result.0) c.in-Err.site c.end_refused.result.1 c.end_refused.result.0.status c.gather-read.result.1.first c.in-Err.why c.in-Err.ensures.refused.refused c.end_refused.ensures.refuses);
  few = λ bytes is.
      let t = c.batches.invariant.taken bytes is in
      few_taken (g.F.Feed.left c.args.feed.now) (g.F.Feed.left c.batches.feed) (g.F.Feed.left c.gather-read.new.feed) bytes c.end_refused.result.0.status c.args.limit c.batches.answered c.gather-read.result.1.count 0 (c.args.limit - c.batches.answered - c.gather-read.result.1.count) (g.F.Feed.reader c.batches.feed) (g.F.Feed.reader c.gather-read.new.feed) c.gather-read.result.2 is
      (omega (arith, c.batches.invariant.few, c.gather-read.ensures.batch.few)) refl t (c.gather-read.ensures.read.taken t.2.rest t.2.holds.1 t.2.holds.2)
      (λ e. absurd (failing_not c.end_refused.result.0.status 72 refl (refused_failing g.S.Site (site_of c.gather-read.result.0) c.in-Err.site c.end_refused.result.1 c.end_refused.result.0.status c.gather-read.result.1.first c.in-Err.why c.in-Err.ensures.refused.refused c.end_refused.ensures.refuses) e));
  through = c.gather-read.ensures.read.through ∙ c.batches.invariant.through;
}

pub returns-in-Last-clause-read : goal.returns-in-Last-clause-read
returns-in-Last-clause-read g c = record {
  stream = record {
    streamed = λ all ending b. let h = c.batches.invariant.streamed all ending b in
        let r = subst (λ (e : BatchEnd). Reads e c.batches.batch.last c.gather-read.result.1 (c.args.limit - c.batches.answered - c.gather-read.result.1.count) (g.F.Feed.reader c.gather-read.new.feed) (g.F.Feed.left c.gather-read.new.feed) h.ahead ending) c.in-Last.is (c.gather-read.ensures.read.streamed h.ahead ending h.stream) in
        finished_whole g.S.Site (site_of c.in-Ok.settled) c.finish.result.1 c.finish.result.0.status c.gather-read.result.1.last c.args.limit c.finish.result.0.answered all ending c.finish.ensures.finishes c.gather-read.ensures.batch.batch.last r.ends.1
        (all_read c.batches.answered c.gather-read.result.1.count c.finish.result.0.answered all h.done r.items r.rest (read_split all h.done h.ahead r.items r.rest h.split r.split) h.count r.count_is r.ends.0 c.finish.ensures.answered);
    answers = λ all ending b is. let h = c.batches.invariant.streamed all ending b in
        let kept = c.gather-read.ensures.kept in
        let r = subst (λ (e : BatchEnd). Reads e c.batches.batch.last c.gather-read.result.1 (c.args.limit - c.batches.answered - c.gather-read.result.1.count) (g.F.Feed.reader c.gather-read.new.feed) (g.F.Feed.left c.gather-read.new.feed) h.ahead ending) c.in-Last.is (c.gather-read.ensures.read.streamed h.ahead ending h.stream) in
        ⊎_elim
        (λ quiet. each_answered (IsTrue g.S.Site.tells_all) c.batches.answered c.batches.batch.last c.finish.result.0.status (λ (lines : Text). IsTrue g.S.Site.tells_all → g.S.Site.output (site_of c.batches.now) ≡ g.S.Site.output (site_of c.args.store) ++ lines) c.gather-read.result.1 (g.F.Feed.reader c.batches.feed) (g.F.Feed.reader c.gather-read.new.feed) (g.F.Feed.left c.batches.feed) (g.F.Feed.left c.gather-read.new.feed) all ending (c.args.limit - c.batches.answered - c.gather-read.result.1.count)
        (g.S.Site.output (site_of c.args.store)) (g.S.Site.output c.finish.result.1) h r quiet.0
        (λ t lines put. quiet.1 t ∙ put_next (g.S.Site.output (site_of c.args.store)) (g.S.Site.output (site_of c.batches.now)) (g.S.Site.output (site_of c.gather-read.result.0)) (g.S.Site.output (site_of c.in-Ok.settled)) lines c.as_slice.result.now c.gather-read.result.1.lines (put t) (kept.output_is t) (c.in-Ok.ensures.done.put t) c.as_slice.ensures))
        (λ failing. absurd (failing_whole c.finish.result.0.status failing is))
        (quiet_last g.S.Site (site_of c.in-Ok.settled) c.finish.result.1 c.finish.result.0.status c.gather-read.result.1.last c.finish.ensures.finishes);
  };
  few = λ bytes is.
      let t = c.batches.invariant.taken bytes is in
      few_taken (g.F.Feed.left c.args.feed.now) (g.F.Feed.left c.batches.feed) (g.F.Feed.left c.gather-read.new.feed) bytes c.finish.result.0.status c.args.limit c.batches.answered c.gather-read.result.1.count 0 (c.args.limit - c.batches.answered - c.gather-read.result.1.count) (g.F.Feed.reader c.batches.feed) (g.F.Feed.reader c.gather-read.new.feed) c.gather-read.result.2 is
      (omega (arith, c.batches.invariant.few, c.gather-read.ensures.batch.few)) refl t (c.gather-read.ensures.read.taken t.2.rest t.2.holds.1 t.2.holds.2)
      (λ e. absurd (finished_more g.S.Site (site_of c.in-Ok.settled) c.finish.result.1 c.finish.result.0.status c.gather-read.result.1.last c.finish.ensures.finishes c.gather-read.ensures.batch.batch.last e));
  through = c.gather-read.ensures.read.through ∙ c.batches.invariant.through;
}

pub returns-in-Stopped-clause-read : goal.returns-in-Stopped-clause-read
returns-in-Stopped-clause-read g c = record {
  stream = record {
    streamed = λ all ending b. let h = c.batches.invariant.streamed all ending b in
        let r = subst (λ (e : BatchEnd). Reads e c.batches.batch.last c.gather-read.result.1 (c.args.limit - c.batches.answered - c.gather-read.result.1.count) (g.F.Feed.reader c.gather-read.new.feed) (g.F.Feed.left c.gather-read.new.feed) h.ahead ending) c.in-Stopped.is (c.gather-read.ensures.read.streamed h.ahead ending h.stream) in
        finished_why g.S.Site (site_of c.in-Ok.settled) c.finish-in-Stopped.result.1 (c.in-Stopped.number, c.in-Stopped.why) c.finish-in-Stopped.result.0.status c.gather-read.result.1.last c.args.limit c.batches.answered c.gather-read.result.1.count c.finish-in-Stopped.result.0.answered all h.done r.items r.rest ending
        c.finish-in-Stopped.ensures.finishes (read_split all h.done h.ahead r.items r.rest h.split r.split) h.count r.count_is (omega (arith, c.batches.invariant.few, c.gather-read.ensures.batch.few)) c.finish-in-Stopped.ensures.answered r.ends;
    answers = λ all ending b is. let h = c.batches.invariant.streamed all ending b in
        let r = subst (λ (e : BatchEnd). Reads e c.batches.batch.last c.gather-read.result.1 (c.args.limit - c.batches.answered - c.gather-read.result.1.count) (g.F.Feed.reader c.gather-read.new.feed) (g.F.Feed.left c.gather-read.new.feed) h.ahead ending) c.in-Stopped.is (c.gather-read.ensures.read.streamed h.ahead ending h.stream) in
        absurd (⊎_elim (λ same. stop_unanswered c.in-Stopped.why (c.args.limit - c.batches.answered - c.gather-read.result.1.count) r.rest ending r.ends (ap is_status (sym same) ∙ is)) (λ failing. failing_whole c.finish-in-Stopped.result.0.status failing is)
        (finished_or g.S.Site (site_of c.in-Ok.settled) c.finish-in-Stopped.result.1 (c.in-Stopped.number, c.in-Stopped.why) c.finish-in-Stopped.result.0.status c.gather-read.result.1.last c.finish-in-Stopped.ensures.finishes));
  };
  few = λ bytes is.
      let t = c.batches.invariant.taken bytes is in
      few_taken (g.F.Feed.left c.args.feed.now) (g.F.Feed.left c.batches.feed) (g.F.Feed.left c.gather-read.new.feed) bytes c.finish-in-Stopped.result.0.status c.args.limit c.batches.answered c.gather-read.result.1.count 0 (c.args.limit - c.batches.answered - c.gather-read.result.1.count) (g.F.Feed.reader c.batches.feed) (g.F.Feed.reader c.gather-read.new.feed) c.gather-read.result.2 is
      (omega (arith, c.batches.invariant.few, c.gather-read.ensures.batch.few)) refl t (c.gather-read.ensures.read.taken t.2.rest t.2.holds.1 t.2.holds.2)
      (λ e. (
        c.in-Stopped.number,
        c.in-Stopped.is ∙ ap (λ (w : Why). Stopped c.in-Stopped.number w) (⊎_elim (λ s. more_only c.in-Stopped.why (sym s ∙ e)) (λ f. absurd (failing_not c.finish-in-Stopped.result.0.status 72 refl f e))
            (finished_or g.S.Site (site_of c.in-Ok.settled) c.finish-in-Stopped.result.1 (c.in-Stopped.number, c.in-Stopped.why) c.finish-in-Stopped.result.0.status c.gather-read.result.1.last c.finish-in-Stopped.ensures.finishes)),
      ));
  through = c.gather-read.ensures.read.through ∙ c.batches.invariant.through;
}

pub returns-in-Last-clause-anywhere : goal.returns-in-Last-clause-anywhere
returns-in-Last-clause-anywhere g c told files here =
    let kept = c.gather-read.ensures.kept in
    let time = at_site (LeavesSettling g.S.Site c.gather-read.result.1.txn c.as_slice.result.now (site_of c.gather-read.result.0)) c.settle.result _ c.in-Ok.is c.settle.ensures.instants in
    served_last g.S.Site files (site_of c.args.store) c.batches.now c.gather-read.result.0 (site_of c.in-Ok.settled) c.finish.result.1 c.args.limit c.batches.answered c.finish.result.0.status c.finish.result.0.answered c.gather-read.result.1.last (g.F.Feed.reader c.batches.feed) (g.F.Feed.reader c.gather-read.new.feed) (g.F.Feed.left c.batches.feed) (g.F.Feed.left c.gather-read.new.feed) (g.F.Feed.left c.args.feed.now)
    c.gather-read.result.1 c.gather-read.result.2 c.as_slice.result.now None g.met.S.Site.all_has_reads told (c.batches.invariant.anywhere told files here) (c.gather-read.ensures.done told).done
    c.as_slice.ensures kept c.in-Ok.ensures.done time c.finish.ensures.finishes c.finish.ensures.answered (omega (arith, c.batches.invariant.few, c.gather-read.ensures.batch.few))
    (λ ok t. ⊎_elim (λ quiet. quiet.1 t) (λ failing. absurd (failing_whole c.finish.result.0.status failing ok))
    (quiet_last g.S.Site (site_of c.in-Ok.settled) c.finish.result.1 c.finish.result.0.status c.gather-read.result.1.last c.finish.ensures.finishes))

pub returns-in-Stopped-clause-anywhere : goal.returns-in-Stopped-clause-anywhere
returns-in-Stopped-clause-anywhere g c told files here =
    let reason = subst (λ (e : BatchEnd). EndsWithReason e (Rose (g.F.Feed.faults c.batches.feed) (g.F.Feed.faults c.gather-read.new.feed)) (Rose (g.S.Site.disk_faults (site_of c.batches.now)) (g.S.Site.disk_faults (site_of c.gather-read.result.0))) (λ (name : Name). IsTrue g.S.Site.tells_reads → IsDamagedInList (with_puts (dir_of c.batches.now) c.gather-read.result.1.txn) name)) c.in-Stopped.is c.gather-read.ensures.reason in
    let kept = c.gather-read.ensures.kept in
    let time = at_site (LeavesSettling g.S.Site c.gather-read.result.1.txn c.as_slice.result.now (site_of c.gather-read.result.0)) c.settle.result _ c.in-Ok.is c.settle.ensures.instants in
    served_last g.S.Site files (site_of c.args.store) c.batches.now c.gather-read.result.0 (site_of c.in-Ok.settled) c.finish-in-Stopped.result.1 c.args.limit c.batches.answered c.finish-in-Stopped.result.0.status c.finish-in-Stopped.result.0.answered c.gather-read.result.1.last (g.F.Feed.reader c.batches.feed) (g.F.Feed.reader c.gather-read.new.feed) (g.F.Feed.left c.batches.feed) (g.F.Feed.left c.gather-read.new.feed) (g.F.Feed.left c.args.feed.now)
    c.gather-read.result.1 c.gather-read.result.2 c.as_slice.result.now (Some (c.in-Stopped.number, c.in-Stopped.why)) g.met.S.Site.all_has_reads told (c.batches.invariant.anywhere told files here) (c.gather-read.ensures.done told).done
    c.as_slice.ensures kept c.in-Ok.ensures.done time c.finish-in-Stopped.ensures.finishes c.finish-in-Stopped.ensures.answered (omega (arith, c.batches.invariant.few, c.gather-read.ensures.batch.few))
    (λ ok t. absurd (⊎_elim (λ same. not_answered c.in-Stopped.why c.finish-in-Stopped.result.0.status _ _ _ reason same ok) (λ failing. failing_whole c.finish-in-Stopped.result.0.status failing ok)
    (finished_or g.S.Site (site_of c.in-Ok.settled) c.finish-in-Stopped.result.1 (c.in-Stopped.number, c.in-Stopped.why) c.finish-in-Stopped.result.0.status c.gather-read.result.1.last c.finish-in-Stopped.ensures.finishes)))

pub returns-in-Err-clause-anywhere : goal.returns-in-Err-clause-anywhere
returns-in-Err-clause-anywhere g c told files here =
    let kept = c.gather-read.ensures.kept in
    served_refused g.S.Site files (site_of c.args.store) c.batches.now c.gather-read.result.0 c.in-Err.site c.end_refused.result.1 c.args.limit c.batches.answered c.end_refused.result.0.status c.end_refused.result.0.answered (g.F.Feed.reader c.batches.feed) (g.F.Feed.reader c.gather-read.new.feed) (g.F.Feed.left c.batches.feed) (g.F.Feed.left c.gather-read.new.feed) (g.F.Feed.left c.args.feed.now)
    c.gather-read.result.1 c.gather-read.result.2 c.as_slice.result.now c.in-Err.why g.met.S.Site.all_has_reads told
    (c.batches.invariant.anywhere told files here) (c.gather-read.ensures.done told).done c.gather-read.ensures.batch.batch c.as_slice.ensures kept c.in-Err.ensures.refused (at_site (LeavesSettling g.S.Site c.gather-read.result.1.txn c.as_slice.result.now (site_of c.gather-read.result.0)) c.settle.result _ c.in-Err.is c.settle.ensures.instants)
    c.end_refused.ensures.refuses c.end_refused.ensures.answered c.batches.invariant.few c.gather-read.ensures.batch.few

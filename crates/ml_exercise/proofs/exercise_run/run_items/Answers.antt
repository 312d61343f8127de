use Rattle.std.proofs.Common.{◌≡◌, ◌∙◌, sym, IsTrue, List, Some, ap, ap₂, subst, arith}
use Rattle.ml_base.specs.Bytes.{Text}
use Rattle.ml_generated.specs.Generated.{generated_left}
use Rattle.ml_generated.specs.Items.{generated}
use Rattle.ml_generated.proofs.Streams.{items_read}
use Rattle.ml_plain.specs.Histories.{State}
use Rattle.ml_plain.specs.declared.Item.{Item}
use Rattle.ml_journal.specs.Calls.{Leaves}
use Rattle.ml_journal.specs.Log.{directory}
use Rattle.ml_run.specs.Anywhere.{AtEachInstant}
use Rattle.ml_run.specs.Endings.{Begins, Brings, Names}
use Rattle.ml_run.specs.Batches.{IsOfNext}
use Rattle.ml_run.specs.Leaving.{HasState, IsAfterSome}
use Rattle.ml_run.proofs.ServedAnywhere.{items_at}
use Rattle.ml_run.proofs.Unfailing.{never_fails}
use Rattle.ml_stream.specs.Stream.{End}
use Rattle.ml_stream.specs.Writing.{stream_text}
use Rattle.ml_exercise.specs.Running.{items_for}
use Rattle.ml_exercise.proofs.Lists.{all_taken, count_is}
use Rattle.ml_exercise.proofs.Statuses.{items_known, never_broken, never_more, none_rose}
use Rattle.ml_exercise.proofs.exercise_run.run_items.Goals as goal

pub returns : goal.returns
returns g c =
    let config = c.args.config.now in
    let count = c.args.count in
    let items = items_for config count in
    let status = c.run-site.result.0.status in
    let old = g.S.Site.disk c.args.site in
    let held = (g.S.Site.disk c.run-site.result.1).reads in
    let out = g.S.Site.output c.run-site.result.1 in
    let few = c.requires.count in
    let is : generated_left c.new-items.result ≡ stream_text items = c.new-items.ensures ∙ ap₂ (λ (l h : Text). stream_text (generated l h count)) c.as_slice.ensures c.as_slice-2.ensures in
    let stream = items_read 0 config.local config.host 1 count c.requires.range.local c.requires.range.host (omega (arith, few)) in
    let brings : Brings (Some (generated_left c.new-items.result)) items End = record { bytes = stream_text items; left_is = ap Some is; stream = stream } in
    let begins : (q : State) → HasState (directory old.reads) q → Begins (Some (generated_left c.new-items.result)) old.reads items End q =
    λ q state. record { bytes = stream_text items; left_is = ap Some is; stream = stream; state = state } in
    let tells = c.run-site.ensures.stream.streamed items End brings in
    let long = count_is config count in
    record {
      answered = c.run-site.result.0.answered;
      known = items_known status c.run-site.ensures.counts.statuses (λ e. never_broken (tells.broken e).0) (λ e. never_more count (items) long (tells.more e).1) (λ e. none_rose (c.run-site.ensures.counts.of_input e));
      whole = λ r q state. never_fails (IsTrue g.S.Site.tells_all) _ status count c.run-site.result.0.answered held out items End q (g.S.Site.output c.args.site) none_rose (c.run-site.ensures.whole r items End q (begins q state));
      at_rest = λ rest q state. subst (λ (all : List Item). Leaves g.S.Site c.args.site c.run-site.result.1 (IsAfterSome q all (g.S.Site.output c.args.site))) (all_taken config count) (c.run-site.ensures.crashes.at_rest rest items End q (begins q state));
      all = λ ok. (tells.whole ok).1 ∙ long;
      anywhere = λ r files here. (
        items_at g.S.Site (AtEachInstant g.S.Site c.args.site c.run-site.result.1) (Brings (Some (generated_left c.new-items.result))) (Brings (Some (stream_text items))) count status c.run-site.result.0.answered c.args.site c.run-site.result.1 files
            (λ all ending b. subst (λ (left : Text). Brings (Some left) all ending) (sym is) b) (c.run-site.ensures.anywhere r files here).0,
        (c.run-site.ensures.anywhere r files here).1,
      );
      closed = c.run-site.ensures.closed;
      counts = c.run-site.ensures.counts.site;
      named = λ r e. subst (λ (left : Text). Names (IsTrue g.S.Site.tells_all) (IsOfNext (Brings (Some left)) c.run-site.result.0.answered) (directory old.reads) (directory held) out) is (c.run-site.ensures.refusals.named r e);
    }

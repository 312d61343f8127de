use Rattle.std.proofs.Common.{◌≡◌, IsTrue, [], ◌∷◌, Some, arith}
use Rattle.ml_journal.specs.Log.{directory}
use Rattle.ml_plain.specs.Histories.{State}
use Rattle.ml_stream.specs.Stream.{End}
use Rattle.ml_stream.specs.Writing.{spelled_item}
use Rattle.ml_run.specs.Endings.{Begins, Brings}
use Rattle.ml_run.specs.Batches.{IsOfNext}
use Rattle.ml_run.specs.Leaving.{HasState}
use Rattle.ml_run.specs.Single.{IsAlone}
use Rattle.ml_run.proofs.Complete.{answers_all}
use Rattle.ml_run.proofs.InHand.{alone_next, begins_item, brings_item, none_rose, status_known}
use Rattle.ml_run.proofs.Named.{names_map}
use Rattle.ml_run.proofs.Unfailing.{never_fails}
use Rattle.ml_run.specs.Anywhere.{AtEachInstant}
use Rattle.ml_run.proofs.ServedAnywhere.{items_of_one}
use Rattle.ml_run.proofs.runs.run_held.Goals as goal

pub returns : goal.returns
returns g c =
    let item = g.K.InHand.item in
    let old = g.S.Site.disk c.args.site in
    let new = g.S.Site.disk c.run_feed.result.1 in
    let output = g.S.Site.output c.run_feed.result.1 in
    let before = g.S.Site.output c.args.site in
    let told = IsTrue g.S.Site.tells_all in
    let status = c.run_feed.result.0.status in
    let answered = c.run_feed.result.0.answered in
    let brings = brings_item item c.requires.ranges c.requires.typed in
    let begins : (q : State) → HasState (directory old.reads) q → Begins (Some (spelled_item item)) old.reads (item ∷ []) End q = λ q s. begins_item item old.reads q c.requires.ranges c.requires.typed s in
    let tells = c.run_feed.ensures.read.stream.streamed (item ∷ []) End brings in
    let never : status ≡ 74 → ⊥ = λ e. none_rose (c.run_feed.ensures.counts.of_input e) in record {
      known = status_known status answered item never tells c.run_feed.ensures.counts.statuses;
      few = c.run_feed.ensures.counts.few;
      done = λ is. (tells.whole is).1;
      whole = λ t q s. never_fails told _ status 1 answered new.reads output (item ∷ []) End q before none_rose (c.run_feed.ensures.list t (item ∷ []) End q (begins q s)).whole;
      complete = λ t q s. answers_all told _ status 1 answered new.reads output (item ∷ []) q before (omega arith) (c.run_feed.ensures.list t (item ∷ []) End q (begins q s)).whole;
      instants = λ t q s. (c.run_feed.ensures.list (g.met.S.Site.all_has_reads t) (item ∷ []) End q (begins q s)).instants.0 t;
      at_rest = λ rest q s t. (c.run_feed.ensures.list (g.met.S.Site.all_has_reads t) (item ∷ []) End q (begins q s)).instants.1 rest t;
      anywhere = λ t files here. (items_of_one g.S.Site (AtEachInstant g.S.Site c.args.site c.run_feed.result.1) item status answered c.args.site c.run_feed.result.1 files brings (c.run_feed.ensures.anywhere t files here).0, (c.run_feed.ensures.anywhere t files here).1);
      answers = λ is. c.run_feed.ensures.read.stream.answers (item ∷ []) End brings is;
      closed = c.run_feed.ensures.closed;
      refusals = record {
        nolist = c.run_feed.ensures.refusals.nolist;
        named = λ t e. names_map told (IsOfNext (Brings (Some (spelled_item item))) answered) (IsOfNext (IsAlone item) answered) (directory old.reads) (directory new.reads) output
            (λ files who name of. alone_next item answered files who name c.requires.ranges c.requires.typed of) (c.run_feed.ensures.refusals.named t e);
      };
      counts = c.run_feed.ensures.counts.site;
      syncs = λ t. let bound = c.run_feed.ensures.syncs t in let few = c.run_feed.ensures.counts.few in omega (arith, bound, few);
    }

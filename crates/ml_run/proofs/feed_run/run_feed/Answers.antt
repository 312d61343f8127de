use Rattle.std.proofs.Common.{arith, None, ap, ◌∙◌, ◌≡◌, ◌⊎◌, inl, inr, ⊎_elim, sym, refl, subst, take, IsTrue, []}
use Rattle.ml_journal.specs.Log.{directory}
use Rattle.ml_journal.specs.Stores.{site_of}
use Rattle.ml_ending.specs.declared.lines.Why.{Why}
use Rattle.ml_ending.specs.declared.lines.Why.TheVariants as whys
use Rattle.ml_ending.proofs.Said.{at_site, unopened_said, untouched}
use Rattle.ml_run.proofs.Opening.{opened_said, opened_then, open_why, begins_same, list_instants}
use Rattle.ml_ending.specs.Stops.{status_of_why}
use Rattle.ml_journal.specs.Calls.{Leaves}
use Rattle.ml_run.proofs.ServedList.{list_before, list_unopened, reads_nothing}
use Rattle.ml_run.proofs.Streamed.{is_failing, open_failing, said_failing, stream_before}
use Rattle.ml_run.specs.Anywhere.{AtEachInstant}
use Rattle.ml_run.specs.Endings.{Brings}
use Rattle.ml_run.proofs.Anywhere.{each_instant, opened_done, said_done}
use Rattle.ml_run.proofs.ServedAnywhere.{early_items, items_before}
use Rattle.ml_run.proofs.feed_run.run_feed.Goals as goal

pub returns-in_default-clause-list : goal.returns-in_default-clause-list
returns-in_default-clause-list g c told all ending q b =
    list_unopened g.F.Feed g.S.Site c.args.limit c.args.feed.now c.args.site c.args.site c.say.result.1 c.say.result.0 whys.Memory all ending q b told (λ r. refl) (λ t. refl) c.say.ensures.answered (inl refl) c.say.ensures.says
    (λ t. inl (unopened_said g.S.Site c.args.site c.args.site c.say.result.1 c.say.result.0.status whys.Memory (untouched g.S.Site g.met.S.Site.only_now c.args.site t) c.say.ensures.says t))

pub returns-in-Ok-open-clause-list : goal.returns-in-Ok-open-clause-list
returns-in-Ok-open-clause-list g c told all ending q b =
    let now = site_of c.in-Ok-open.store in
    let put : IsTrue g.S.Site.tells_all → g.S.Site.output now ≡ g.S.Site.output c.args.site = λ t. (at_site (λ s. g.S.Site.output s ≡ g.S.Site.output c.args.site) c.open.result _ c.in-Ok-open.is (c.open.ensures.keeps.output t)) in
    let b' = begins_same (g.F.Feed.left c.args.feed.now) (g.S.Site.disk c.args.site).reads (g.S.Site.disk now).reads all ending q (at_site (λ s. directory (g.S.Site.disk s).reads ≡ directory (g.S.Site.disk c.args.site).reads) c.open.result _ c.in-Ok-open.is (c.open.ensures.same told)) b in
    list_before g.F.Feed g.S.Site (Leaves g.S.Site now c.run_opened.result.1) (AtEachInstant g.S.Site c.args.site c.run_opened.result.1) c.args.limit c.args.feed.now c.run_opened.new.feed c.args.site now c.run_opened.result.1 c.run_opened.result.0 all ending q put
    (λ run. list_instants g.S.Site c.args.site c.run_opened.result.1 q (take c.args.limit all) b.state (λ t. opened_then g.S.Site c.args.site now c.run_opened.result.1 q (take c.args.limit all) b.state (put t) (c.in-Ok-open.ensures.instants t) (run t)))
    (c.run_opened.ensures.list told all ending q b')

pub returns-in-Err-clause-list : goal.returns-in-Err-clause-list
returns-in-Err-clause-list g c told all ending q b =
    let why : (c.not_opened.result ≡ whys.Memory) ⊎ (c.not_opened.result ≡ whys.Disk) = subst (λ (w : Why). (w ≡ whys.Memory) ⊎ (w ≡ whys.Disk)) (sym c.not_opened.ensures)
    (open_why c.in-Err.error (directory (g.S.Site.disk c.args.site).reads) q b.state (c.in-Err.ensures.damaged told)) in
    let put : IsTrue g.S.Site.tells_all → g.S.Site.output c.in-Err.site ≡ g.S.Site.output c.args.site = λ t. (at_site (λ s. g.S.Site.output s ≡ g.S.Site.output c.args.site) c.open.result _ c.in-Err.is (c.open.ensures.keeps.output t)) in
    list_unopened g.F.Feed g.S.Site c.args.limit c.args.feed.now c.args.site c.in-Err.site c.say-in-Err.result.1 c.say-in-Err.result.0 c.not_opened.result all ending q b told (λ r. (at_site (λ s. directory (g.S.Site.disk s).reads ≡ directory (g.S.Site.disk c.args.site).reads) c.open.result _ c.in-Err.is (c.open.ensures.same r))) put c.say-in-Err.ensures.answered why c.say-in-Err.ensures.says
    (λ t. ⊎_elim
    (λ early. inl (unopened_said g.S.Site c.args.site c.in-Err.site c.say-in-Err.result.1 c.say-in-Err.result.0.status c.not_opened.result early.1 c.say-in-Err.ensures.says t))
    (λ late. inr (record {
      synced = late.synced;
      first = late.first;
      rest = late.rest;
      same = late.same;
      until = late.until;
      since = opened_said g.S.Site c.args.site late.synced c.in-Err.site c.say-in-Err.result.1 q (take c.args.limit all) c.say-in-Err.result.0.status c.not_opened.result b.state (put t) late.since c.say-in-Err.ensures.says t;
    }))
    (c.in-Err.ensures.instants_err t))

pub returns-in_default-clause-read : goal.returns-in_default-clause-read
returns-in_default-clause-read g c = reads_nothing g.F.Feed g.S.Site c.args.limit c.args.feed.now c.args.site c.say.result.1 c.say.result.0 (said_failing g.S.Site c.args.site c.say.result.1 c.say.result.0.status None whys.Memory c.say.ensures.says refl)

pub returns-in-Ok-open-clause-read : goal.returns-in-Ok-open-clause-read
returns-in-Ok-open-clause-read g c = record {
  stream = stream_before g.S.Site (g.F.Feed.left c.args.feed.now) c.run_opened.result.0.status c.args.limit c.run_opened.result.0.answered c.args.site (site_of c.in-Ok-open.store) c.run_opened.result.1 (λ t. (at_site (λ s. g.S.Site.output s ≡ g.S.Site.output c.args.site) c.open.result _ c.in-Ok-open.is (c.open.ensures.keeps.output t))) c.run_opened.ensures.read.stream;
  few = c.run_opened.ensures.read.few;
  through = c.run_opened.ensures.read.through;
}

pub returns-in-Err-clause-read : goal.returns-in-Err-clause-read
returns-in-Err-clause-read g c =
    reads_nothing g.F.Feed g.S.Site c.args.limit c.args.feed.now c.args.site c.say-in-Err.result.1 c.say-in-Err.result.0
    (said_failing g.S.Site c.in-Err.site c.say-in-Err.result.1 c.say-in-Err.result.0.status None c.not_opened.result c.say-in-Err.ensures.says (ap (λ (w : Why). is_failing (status_of_why w)) c.not_opened.ensures ∙ open_failing c.in-Err.error))

pub returns-in_default-clause-anywhere : goal.returns-in_default-clause-anywhere
returns-in_default-clause-anywhere g c told files here = (
  early_items g.S.Site (AtEachInstant g.S.Site c.args.site c.say.result.1) (Brings (g.F.Feed.left c.args.feed.now)) c.args.limit c.say.result.0.status c.say.result.0.answered c.args.site c.say.result.1 files c.say.ensures.answered
      (ap directory (c.say.ensures.says.reads told) ∙ here) (said_failing g.S.Site c.args.site c.say.result.1 c.say.result.0.status None whys.Memory c.say.ensures.says refl)
      (each_instant g.S.Site files [] c.args.site c.say.result.1 here (λ t. inl (unopened_said g.S.Site c.args.site c.args.site c.say.result.1 c.say.result.0.status whys.Memory (untouched g.S.Site g.met.S.Site.only_now c.args.site t) c.say.ensures.says t))),
  λ some. absurd (omega (arith, some, c.say.ensures.answered)),
)

pub returns-in-Ok-open-clause-anywhere : goal.returns-in-Ok-open-clause-anywhere
returns-in-Ok-open-clause-anywhere g c told files here =
    let now = site_of c.in-Ok-open.store in
    let same = at_site (λ s. directory (g.S.Site.disk s).reads ≡ directory (g.S.Site.disk c.args.site).reads) c.open.result _ c.in-Ok-open.is (c.open.ensures.same told) in
    let put : IsTrue g.S.Site.tells_all → g.S.Site.output now ≡ g.S.Site.output c.args.site = λ t. at_site (λ s. g.S.Site.output s ≡ g.S.Site.output c.args.site) c.open.result _ c.in-Ok-open.is (c.open.ensures.keeps.output t) in (
      items_before g.S.Site (Leaves g.S.Site now c.run_opened.result.1) (AtEachInstant g.S.Site c.args.site c.run_opened.result.1) (Brings (g.F.Feed.left c.args.feed.now)) c.args.limit c.run_opened.result.0.status c.run_opened.result.0.answered c.args.site now c.run_opened.result.1 files put
          (λ done run. each_instant g.S.Site files done c.args.site c.run_opened.result.1 here (λ t. opened_done g.S.Site files done c.args.site now c.run_opened.result.1 here (put t) (c.in-Ok-open.ensures.instants t) (run t)))
          (c.run_opened.ensures.anywhere told files (same ∙ here)).0,
      (c.run_opened.ensures.anywhere told files (same ∙ here)).1,
    )

pub returns-in-Err-clause-anywhere : goal.returns-in-Err-clause-anywhere
returns-in-Err-clause-anywhere g c told files here =
    let same = at_site (λ s. directory (g.S.Site.disk s).reads ≡ directory (g.S.Site.disk c.args.site).reads) c.open.result _ c.in-Err.is (c.open.ensures.same told) in (
      early_items g.S.Site (AtEachInstant g.S.Site c.args.site c.say-in-Err.result.1) (Brings (g.F.Feed.left c.args.feed.now)) c.args.limit c.say-in-Err.result.0.status c.say-in-Err.result.0.answered c.args.site c.say-in-Err.result.1 files c.say-in-Err.ensures.answered
          (ap directory (c.say-in-Err.ensures.says.reads told) ∙ same ∙ here)
          (said_failing g.S.Site c.in-Err.site c.say-in-Err.result.1 c.say-in-Err.result.0.status None c.not_opened.result c.say-in-Err.ensures.says (ap (λ (w : Why). is_failing (status_of_why w)) c.not_opened.ensures ∙ open_failing c.in-Err.error))
          (each_instant g.S.Site files [] c.args.site c.say-in-Err.result.1 here (λ t. ⊎_elim
          (λ early. inl (unopened_said g.S.Site c.args.site c.in-Err.site c.say-in-Err.result.1 c.say-in-Err.result.0.status c.not_opened.result early.1 c.say-in-Err.ensures.says t))
          (λ late. inr (record {
            synced = late.synced;
            first = late.first;
            rest = late.rest;
            same = late.same;
            until = late.until;
            since = said_done g.S.Site files c.args.site late.synced c.in-Err.site c.say-in-Err.result.1 c.say-in-Err.result.0.status c.not_opened.result here (at_site (λ s. g.S.Site.output s ≡ g.S.Site.output c.args.site) c.open.result _ c.in-Err.is (c.open.ensures.keeps.output t)) late.since c.say-in-Err.ensures.says t;
          }))
          (c.in-Err.ensures.instants_err t))),
      λ some. absurd (omega (arith, some, c.say-in-Err.ensures.answered)),
    )

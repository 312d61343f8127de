use Rattle.std.proofs.Common.{ap, refl, ◌∙◌, ◌≡◌, ◌⊎◌, sym, subst, arith, [], take, None, Some, Option}
use Rattle.ml_site.specs.Disk.{Contents}
use Rattle.ml_journal.specs.Log.{directory}
use Rattle.ml_journal.specs.Kept.{kept_itself}
use Rattle.ml_journal.specs.Stores.{site_of, the_dir}
use Rattle.ml_ending.specs.declared.lines.Why.{Why}
use Rattle.ml_ending.specs.declared.lines.Why.TheVariants as whys
use Rattle.ml_run.specs.Leaving.{dir_of}
use Rattle.ml_run.specs.Endings.{Begins, Brings}
use Rattle.ml_run.proofs.Leaving.{shown}
use Rattle.ml_run.proofs.ServedList.{list_before, list_early, reads_nothing}
use Rattle.ml_run.proofs.Opening.{still_then, part_why}
use Rattle.ml_ending.specs.Stops.{status_of_why}
use Rattle.ml_journal.specs.Calls.{Leaves}
use Rattle.ml_run.proofs.Streamed.{is_failing, finished_failing, part_failing, stream_before}
use Rattle.ml_run.proofs.Anywhere.{finished_dir, finished_done, first_done, still_done}
use Rattle.ml_run.proofs.ServedAnywhere.{early_items, items_before}
use Rattle.ml_list.specs.Loading.{HasConfig, IsLoaded}
use Rattle.ml_run.proofs.feed_run.run_opened.Goals as goal

pub returns-in-Ok-Some-clause-list : goal.returns-in-Ok-Some-clause-list
returns-in-Ok-Some-clause-list g c told all ending q b =
    let kept = c.load.ensures.reads.kept in
    let start = site_of c.args.store in
    let now = site_of c.load.new.files in
    let b' = subst (λ (held : Contents). Begins (g.F.Feed.left c.args.feed.now) held all ending q) (sym (kept.reads told)) b in
    list_before g.F.Feed g.S.Site (Leaves g.S.Site now c.serve.result.1) (Leaves g.S.Site start c.serve.result.1) c.args.limit c.args.feed.now c.serve.new.feed start now c.serve.result.1 c.serve.result.0 all ending q kept.output_is
    (still_then g.S.Site start now c.serve.result.1 q (take c.args.limit all) g.met.S.Site.all_has_reads b.state kept.instants kept.output_is) (c.serve.ensures.list told all ending q b')

pub returns-in-Err-clause-list : goal.returns-in-Err-clause-list
returns-in-Err-clause-list g c told all ending q b =
    let kept = c.load.ensures.reads.kept in
    let start = site_of c.args.store in
    let now = site_of c.load.new.files in
    let end = c.finish-in-Err.result.1 in
    let b' = subst (λ (held : Contents). Begins (g.F.Feed.left c.args.feed.now) held all ending q) (sym (kept.reads told)) b in
    let why : (c.why_of.result ≡ whys.Memory) ⊎ (c.why_of.result ≡ whys.Disk) = subst (λ (w : Why). (w ≡ whys.Memory) ⊎ (w ≡ whys.Disk)) (sym c.why_of.ensures)
    (part_why c.in-Err.error (c.in-Err.ensures.sound told q (shown (directory (g.S.Site.disk start).reads) q b.state))) in
    list_before g.F.Feed g.S.Site (Leaves g.S.Site now end) (Leaves g.S.Site start end) c.args.limit c.args.feed.now c.args.feed.now start now end c.finish-in-Err.result.0 all ending q kept.output_is
    (still_then g.S.Site start now end q (take c.args.limit all) g.met.S.Site.all_has_reads b.state kept.instants kept.output_is)
    (list_early g.F.Feed g.S.Site c.args.limit c.args.feed.now now end c.finish-in-Err.result.0 c.why_of.result all ending q b' g.met.S.Site.all_has_reads g.met.S.Site.reads_as_image told (kept_itself g.met.S.Site.only_now c.load.new.files).instants why c.finish-in-Err.ensures.finishes c.finish-in-Err.ensures.answered)

pub returns-in-Ok-Some-clause-read : goal.returns-in-Ok-Some-clause-read
returns-in-Ok-Some-clause-read g c =
    let before = stream_before g.S.Site (g.F.Feed.left c.args.feed.now) c.serve.result.0.status c.args.limit c.serve.result.0.answered (site_of c.args.store) (site_of c.load.new.files) c.serve.result.1 c.load.ensures.reads.kept.output_is c.serve.ensures.read.stream in
    record { stream = before; few = c.serve.ensures.read.few; through = c.serve.ensures.read.through }

pub returns-in-Ok-None-clause-read : goal.returns-in-Ok-None-clause-read
returns-in-Ok-None-clause-read g c = reads_nothing g.F.Feed g.S.Site c.args.limit c.args.feed.now (site_of c.args.store) c.finish.result.1 c.finish.result.0 (finished_failing g.S.Site (site_of c.load.new.files) c.finish.result.1 (None, whys.NoList) c.finish.result.0.status 0 c.finish.ensures.finishes refl)

pub returns-in-Err-clause-read : goal.returns-in-Err-clause-read
returns-in-Err-clause-read g c = reads_nothing g.F.Feed g.S.Site c.args.limit c.args.feed.now (site_of c.args.store) c.finish-in-Err.result.1 c.finish-in-Err.result.0 (finished_failing g.S.Site (site_of c.load.new.files) c.finish-in-Err.result.1 (None, c.why_of.result) c.finish-in-Err.result.0.status 0 c.finish-in-Err.ensures.finishes (ap (λ (w : Why). is_failing (status_of_why w)) c.why_of.ensures ∙ part_failing c.in-Err.error))

pub returns-in-Ok-Some-clause-anywhere : goal.returns-in-Ok-Some-clause-anywhere
returns-in-Ok-Some-clause-anywhere g c told files here =
    let kept = c.load.ensures.reads.kept in
    let now = site_of c.load.new.files in (
      items_before g.S.Site (Leaves g.S.Site now c.serve.result.1) (Leaves g.S.Site (site_of c.args.store) c.serve.result.1) (Brings (g.F.Feed.left c.args.feed.now)) c.args.limit c.serve.result.0.status c.serve.result.0.answered (site_of c.args.store) now c.serve.result.1 files kept.output_is
          (λ done run. still_done g.S.Site files done (site_of c.args.store) now c.serve.result.1 here kept.instants kept.output_is run)
          (c.serve.ensures.anywhere told files (ap directory (kept.reads told) ∙ here)),
      λ some. let dir : dir_of c.args.store ≡ files = ap the_dir here in subst HasConfig dir (subst (λ (found : Option (Unit {0})). IsLoaded found (dir_of c.args.store)) c.in-Ok-Some.field-0-is (c.in-Ok-Some.ensures.value told)),
    )

pub returns-in-Ok-None-clause-anywhere : goal.returns-in-Ok-None-clause-anywhere
returns-in-Ok-None-clause-anywhere g c told files here =
    let kept = c.load.ensures.reads.kept in
    let now = site_of c.load.new.files in
    let dir : directory (g.S.Site.disk now).reads ≡ Some files = ap directory (kept.reads told) ∙ here in
    let has = first_done g.S.Site files now dir (kept_itself g.met.S.Site.only_now c.load.new.files).instants in (
      items_before g.S.Site (Leaves g.S.Site now c.finish.result.1) (Leaves g.S.Site (site_of c.args.store) c.finish.result.1) (Brings (g.F.Feed.left c.args.feed.now)) c.args.limit c.finish.result.0.status c.finish.result.0.answered (site_of c.args.store) now c.finish.result.1 files kept.output_is
          (λ done run. still_done g.S.Site files done (site_of c.args.store) now c.finish.result.1 here kept.instants kept.output_is run)
          (early_items g.S.Site (Leaves g.S.Site now c.finish.result.1) (Brings (g.F.Feed.left c.args.feed.now)) c.args.limit c.finish.result.0.status c.finish.result.0.answered now c.finish.result.1 files c.finish.ensures.answered
          (finished_dir g.S.Site files now now c.finish.result.1 [] (Some (None, whys.NoList)) c.finish.result.0.status 0 told has c.finish.ensures.finishes)
          (finished_failing g.S.Site now c.finish.result.1 (None, whys.NoList) c.finish.result.0.status 0 c.finish.ensures.finishes refl)
          (finished_done g.S.Site files now now c.finish.result.1 [] (Some (None, whys.NoList)) c.finish.result.0.status 0 has c.finish.ensures.finishes)),
      λ some. absurd (omega (arith, some, c.finish.ensures.answered)),
    )

pub returns-in-Err-clause-anywhere : goal.returns-in-Err-clause-anywhere
returns-in-Err-clause-anywhere g c told files here =
    let kept = c.load.ensures.reads.kept in
    let now = site_of c.load.new.files in
    let dir : directory (g.S.Site.disk now).reads ≡ Some files = ap directory (kept.reads told) ∙ here in
    let has = first_done g.S.Site files now dir (kept_itself g.met.S.Site.only_now c.load.new.files).instants in (
      items_before g.S.Site (Leaves g.S.Site now c.finish-in-Err.result.1) (Leaves g.S.Site (site_of c.args.store) c.finish-in-Err.result.1) (Brings (g.F.Feed.left c.args.feed.now)) c.args.limit c.finish-in-Err.result.0.status c.finish-in-Err.result.0.answered (site_of c.args.store) now c.finish-in-Err.result.1 files kept.output_is
          (λ done run. still_done g.S.Site files done (site_of c.args.store) now c.finish-in-Err.result.1 here kept.instants kept.output_is run)
          (early_items g.S.Site (Leaves g.S.Site now c.finish-in-Err.result.1) (Brings (g.F.Feed.left c.args.feed.now)) c.args.limit c.finish-in-Err.result.0.status c.finish-in-Err.result.0.answered now c.finish-in-Err.result.1 files c.finish-in-Err.ensures.answered
          (finished_dir g.S.Site files now now c.finish-in-Err.result.1 [] (Some (None, c.why_of.result)) c.finish-in-Err.result.0.status 0 told has c.finish-in-Err.ensures.finishes)
          (finished_failing g.S.Site now c.finish-in-Err.result.1 (None, c.why_of.result) c.finish-in-Err.result.0.status 0 c.finish-in-Err.ensures.finishes (ap (λ (w : Why). is_failing (status_of_why w)) c.why_of.ensures ∙ part_failing c.in-Err.error))
          (finished_done g.S.Site files now now c.finish-in-Err.result.1 [] (Some (None, c.why_of.result)) c.finish-in-Err.result.0.status 0 has c.finish-in-Err.ensures.finishes)),
      λ some. absurd (omega (arith, some, c.finish-in-Err.ensures.answered)),
    )

use Rattle.std.proofs.Common.{Option, ap, sym, subst, rules}
use Rattle.ml_base.specs.Bytes.{Text}
use Rattle.ml_stream.specs.Stream.{End}
use Rattle.ml_run.specs.Anywhere.{RunsAnywhere}
use Rattle.ml_run.specs.Endings.{Begins, Brings}
use Rattle.ml_run.proofs.Complete.{answers_all}
use Rattle.ml_run.proofs.Taken.{taken_same}
use Rattle.ml_run.proofs.Whole.{runs_same}
use Rattle.ml_run.proofs.runs.run.Goals as goal

pub returns-clause-whole : goal.returns-clause-whole
returns-clause-whole g c told all ending q b =
    let left = ap g.I.Source.left c.new-feed.ensures.input in
    runs_same _ _ _ _ _ _ _ _ _ _ all ending q _ (ap g.I.Source.faults c.new-feed.ensures.input) (search rules) (c.run_feed.ensures.list told all ending q (subst (λ (o : Option Text). Begins o (g.S.Site.disk c.args.site).reads all ending q) (sym left) b)).whole

pub returns-clause-complete : goal.returns-clause-complete
returns-clause-complete g c told all q b few =
    let left = ap g.I.Source.left c.new-feed.ensures.input in
    answers_all _ _ _ _ _ _ _ all q _ few (c.run_feed.ensures.list told all End q (subst (λ (o : Option Text). Begins o (g.S.Site.disk c.args.site).reads all End q) (sym left) b)).whole

pub returns-clause-crashes : goal.returns-clause-crashes
returns-clause-crashes g c =
    let left = ap g.I.Source.left c.new-feed.ensures.input in record {
      instants = λ t all ending q b. (c.run_feed.ensures.list (g.met.S.Site.all_has_reads t) all ending q (subst (λ (o : Option Text). Begins o (g.S.Site.disk c.args.site).reads all ending q) (sym left) b)).instants.0 t;
      at_rest = λ rest all ending q b t. (c.run_feed.ensures.list (g.met.S.Site.all_has_reads t) all ending q (subst (λ (o : Option Text). Begins o (g.S.Site.disk c.args.site).reads all ending q) (sym left) b)).instants.1 rest t;
    }

pub returns-clause-taken : goal.returns-clause-taken
returns-clause-taken g c told all ending q b =
    let left = ap g.I.Source.left c.new-feed.ensures.input in
    taken_same _ _ _ _ _ left (search rules) (c.run_feed.ensures.list told all ending q (subst (λ (o : Option Text). Begins o (g.S.Site.disk c.args.site).reads all ending q) (sym left) b)).taken

pub returns-clause-anywhere : goal.returns-clause-anywhere
returns-clause-anywhere g c =
    let left = ap g.I.Source.left c.new-feed.ensures.input in
    subst (λ (o : Option Text). RunsAnywhere g.S.Site (Brings o) c.args.limit c.run_feed.result.0.status c.run_feed.result.0.answered c.args.site c.run_feed.result.1) left c.run_feed.ensures.anywhere

use Rattle.std.proofs.Common.{◌≡◌, Option, ⊎_elim, inl, Err, IsTrue, subst, sym, ◌∙◌, rules}
use Rattle.ml_base.specs.Dir.{Dir}
use Rattle.ml_journal.specs.Log.{directory}
use Rattle.ml_journal.specs.Stores.{site_of}
use Rattle.ml_ending.specs.declared.lines.Why.{Why}
use Rattle.ml_ending.proofs.Said.{at_site, unopened_said}
use Rattle.ml_ending.specs.Endings.{Opens}
use Rattle.ml_reading.specs.Readings.{IsLeftByReading, IsRefusal, IsOutcome, Reads}
use Rattle.ml_reading.proofs.Outcomes.{said_gives, open_outcome, gives_from}
use Rattle.ml_reading.proofs.Given.{reads_from, said_reads, open_refusal, opened_reading, refused_reading, reading_from_rest}
use Rattle.ml_reading.proofs.reading_command.read_list.Goals as goal

pub returns-in-Ok : goal.returns-in-Ok
returns-in-Ok g c =
    let m = g.Q.Question.meaning c.args.question.now in
    let put : IsTrue g.S.Site.tells_all → g.S.Site.output (site_of c.in-Ok.store) ≡ g.S.Site.output c.args.site =
    λ t. at_site (λ s. g.S.Site.output s ≡ g.S.Site.output c.args.site) c.open.result _ c.in-Ok.is (c.open.ensures.keeps.output t) in
    let same : IsTrue g.S.Site.tells_reads → directory (g.S.Site.disk (site_of c.in-Ok.store)).reads ≡ directory (g.S.Site.disk c.args.site).reads =
    λ told. at_site (λ s. directory (g.S.Site.disk s).reads ≡ directory (g.S.Site.disk c.args.site).reads) c.open.result _ c.in-Ok.is (c.open.ensures.same told) in
    let instants : IsTrue g.S.Site.tells_all → Opens g.S.Site c.args.site c.answer_from_store.result.1 (IsLeftByReading m (directory (g.S.Site.disk c.args.site).reads) (g.S.Site.output c.args.site)) =
    λ t. opened_reading g.S.Site c.args.site (site_of c.in-Ok.store) c.answer_from_store.result.1 m (c.in-Ok.ensures.instants t) (same (g.met.S.Site.all_has_reads t)) (put t) (c.answer_from_store.ensures.instants t) in
    record {
      given = λ told. subst (λ (d : Option Dir). Reads (IsTrue g.S.Site.tells_all) c.answer_from_store.result.0 m d (g.S.Site.output c.args.site) (g.S.Site.output c.answer_from_store.result.1)) (same told)
          (reads_from (IsTrue g.S.Site.tells_all) c.answer_from_store.result.0 m (directory (g.S.Site.disk (site_of c.in-Ok.store)).reads) (g.S.Site.output (site_of c.in-Ok.store)) (g.S.Site.output c.args.site) (g.S.Site.output c.answer_from_store.result.1)
          put (c.answer_from_store.ensures.given told));
      complete = λ told files q is state. gives_from (IsTrue g.S.Site.tells_all) c.answer_from_store.result.0 (m.of_list q.plain) (g.S.Site.output (site_of c.in-Ok.store)) (g.S.Site.output c.args.site) (g.S.Site.output c.answer_from_store.result.1)
          put (c.answer_from_store.ensures.complete told files q (same told ∙ is) state);
      nolist = search rules;
      same = search rules;
      instants = instants;
      at_rest = λ rest t. reading_from_rest g.S.Site c.args.site c.answer_from_store.result.1 m rest (instants t);
      rest = search rules;
      gate = search rules;
      known = search rules;
      of_disk = search rules;
      of_output = search rules;
      disk_later = search rules;
      output_later = search rules;
      syncs = search rules;
    }

pub returns-in-Err : goal.returns-in-Err
returns-in-Err g c =
    let m = g.Q.Question.meaning c.args.question.now in
    let dir = directory (g.S.Site.disk c.args.site).reads in
    let put : IsTrue g.S.Site.tells_all → g.S.Site.output c.in-Err.site ≡ g.S.Site.output c.args.site =
    λ t. at_site (λ s. g.S.Site.output s ≡ g.S.Site.output c.args.site) c.open.result _ c.in-Err.is (c.open.ensures.keeps.output t) in
    let instants : IsTrue g.S.Site.tells_all → Opens g.S.Site c.args.site c.stop.result.1 (IsLeftByReading m dir (g.S.Site.output c.args.site)) = λ t. ⊎_elim
    (λ early. inl (unopened_said g.S.Site c.args.site c.in-Err.site c.stop.result.1 c.stop.result.0 c.not_opened.result early.1 c.stop.ensures t))
    (λ late. refused_reading g.S.Site c.args.site c.in-Err.site c.stop.result.1 m c.stop.result.0 c.not_opened.result late (put t) c.stop.ensures t)
    (c.in-Err.ensures.instants_err t) in
    record {
      given = λ told. said_reads g.S.Site c.in-Err.site c.stop.result.1 (g.S.Site.output c.args.site) m dir c.stop.result.0 c.not_opened.result put
          (subst (λ (w : Why). IsRefusal w m dir) (sym c.not_opened.ensures) (open_refusal c.in-Err.error m dir (c.in-Err.ensures.damaged told))) c.stop.ensures;
      complete = λ told files q is state.
          let answer = m.of_list q.plain in
          said_gives g.S.Site c.in-Err.site c.stop.result.1 (g.S.Site.output c.args.site) c.stop.result.0 answer c.not_opened.result put
          (subst (λ (w : Why). IsOutcome answer (Err w)) (sym c.not_opened.ensures) (open_outcome c.in-Err.error answer dir files is (c.in-Err.ensures.damaged told))) c.stop.ensures;
      nolist = search rules;
      same = search rules;
      instants = instants;
      at_rest = λ rest t. reading_from_rest g.S.Site c.args.site c.stop.result.1 m rest (instants t);
      rest = search rules;
      gate = search rules;
      known = search rules;
      of_disk = search rules;
      of_output = search rules;
      disk_later = search rules;
      output_later = search rules;
      syncs = search rules;
    }

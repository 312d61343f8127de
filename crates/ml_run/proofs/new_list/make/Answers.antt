use Rattle.std.proofs.Common.{IsTrue, ◌≡◌, inl, ⊎_elim, refl, subst, sym, ◌∙◌}
use Rattle.ml_config.specs.FirstFiles.{first_puts}
use Rattle.ml_journal.specs.Log.{directory}
use Rattle.ml_journal.specs.Stores.{site_of}
use Rattle.ml_ending.specs.declared.lines.Why.{Why}
use Rattle.ml_ending.specs.declared.lines.Why.TheVariants as whys
use Rattle.ml_run.specs.Making.{IsUnmade, made_text}
use Rattle.ml_ending.proofs.Said.{at_site, untouched, unopened_said}
use Rattle.ml_run.proofs.MadeLists.{made_state, said_makes, opened_makes, opened_making, refused_making, making_from_rest, open_unmade}
use Rattle.ml_run.proofs.new_list.make.Goals as goal

pub returns-in_default-clause-makes : goal.returns-in_default-clause-makes
returns-in_default-clause-makes g c told =
    said_makes g.S.Site c.args.site c.args.site c.stop.result.1 (directory (g.S.Site.disk c.args.site).reads) (first_puts c.args.config.now c.args.key.now) (made_text c.args.config.now) c.stop.result.0 whys.Memory told (λ t. refl) (inl refl) c.stop.ensures

pub returns-in_default-clause-instants : goal.returns-in_default-clause-instants
returns-in_default-clause-instants g c t =
    inl (unopened_said g.S.Site c.args.site c.args.site c.stop.result.1 c.stop.result.0 whys.Memory (untouched g.S.Site g.met.S.Site.only_now c.args.site t) c.stop.ensures t)

pub returns-in_default-clause-at_rest : goal.returns-in_default-clause-at_rest
returns-in_default-clause-at_rest g c rest t =
    making_from_rest g.S.Site c.args.site c.stop.result.1 (first_puts c.args.config.now c.args.key.now) (made_text c.args.config.now) rest (returns-in_default-clause-instants g c t)

pub returns-in-Ok-open-clause-makes : goal.returns-in-Ok-open-clause-makes
returns-in-Ok-open-clause-makes g c told =
    opened_makes g.S.Site c.args.site (site_of c.in-Ok-open.store) c.make_if_absent.result.1 _ (first_puts c.args.config.now c.args.key.now) _ (made_text c.args.config.now) c.make_if_absent.result.0 c.in-Ok.ensures.puts (c.as_slice.ensures ∙ c.in-Ok.ensures.line)
    (at_site (λ s. directory (g.S.Site.disk s).reads ≡ directory (g.S.Site.disk c.args.site).reads) c.open.result _ c.in-Ok-open.is (c.open.ensures.same told)) (λ t. at_site (λ s. g.S.Site.output s ≡ g.S.Site.output c.args.site) c.open.result _ c.in-Ok-open.is (c.open.ensures.keeps.output t)) (c.make_if_absent.ensures.makes told)

pub returns-in-Ok-open-clause-instants : goal.returns-in-Ok-open-clause-instants
returns-in-Ok-open-clause-instants g c t =
    opened_making g.S.Site c.args.site (site_of c.in-Ok-open.store) c.make_if_absent.result.1 _ (first_puts c.args.config.now c.args.key.now) _ (made_text c.args.config.now) c.in-Ok.ensures.puts (c.as_slice.ensures ∙ c.in-Ok.ensures.line) (c.in-Ok-open.ensures.instants t)
    (at_site (λ s. directory (g.S.Site.disk s).reads ≡ directory (g.S.Site.disk c.args.site).reads) c.open.result _ c.in-Ok-open.is (c.open.ensures.same (g.met.S.Site.all_has_reads t))) (at_site (λ s. g.S.Site.output s ≡ g.S.Site.output c.args.site) c.open.result _ c.in-Ok-open.is (c.open.ensures.keeps.output t)) (c.make_if_absent.ensures.instants t)

pub returns-in-Ok-open-clause-at_rest : goal.returns-in-Ok-open-clause-at_rest
returns-in-Ok-open-clause-at_rest g c rest t =
    making_from_rest g.S.Site c.args.site c.make_if_absent.result.1 (first_puts c.args.config.now c.args.key.now) (made_text c.args.config.now) rest (returns-in-Ok-open-clause-instants g c t)

pub returns-clause-makes : goal.returns-clause-makes
returns-clause-makes g c told =
    let dir = directory (g.S.Site.disk c.args.site).reads in
    said_makes g.S.Site c.args.site c.in-Err.site c.stop-in-Err.result.1 dir (first_puts c.args.config.now c.args.key.now) (made_text c.args.config.now) c.stop-in-Err.result.0 c.not_opened.result told (λ t. at_site (λ s. g.S.Site.output s ≡ g.S.Site.output c.args.site) c.open.result _ c.in-Err.is (c.open.ensures.keeps.output t))
    (subst (λ (w : Why). IsUnmade w dir (first_puts c.args.config.now c.args.key.now) (directory (g.S.Site.disk c.in-Err.site).reads)) (sym c.not_opened.ensures)
    (open_unmade c.in-Err.error dir (directory (g.S.Site.disk c.in-Err.site).reads) (first_puts c.args.config.now c.args.key.now) (at_site (λ s. directory (g.S.Site.disk s).reads ≡ directory (g.S.Site.disk c.args.site).reads) c.open.result _ c.in-Err.is (c.open.ensures.same told)) (c.in-Err.ensures.damaged told))) c.stop-in-Err.ensures

pub returns-clause-instants : goal.returns-clause-instants
returns-clause-instants g c t = ⊎_elim
    (λ early. inl (unopened_said g.S.Site c.args.site c.in-Err.site c.stop-in-Err.result.1 c.stop-in-Err.result.0 c.not_opened.result early.1 c.stop-in-Err.ensures t))
    (λ late. refused_making g.S.Site c.args.site c.in-Err.site c.stop-in-Err.result.1 (first_puts c.args.config.now c.args.key.now) (made_text c.args.config.now) c.stop-in-Err.result.0 c.not_opened.result late (at_site (λ s. g.S.Site.output s ≡ g.S.Site.output c.args.site) c.open.result _ c.in-Err.is (c.open.ensures.keeps.output t)) c.stop-in-Err.ensures t)
    (c.in-Err.ensures.instants_err t)

pub returns-clause-at_rest : goal.returns-clause-at_rest
returns-clause-at_rest g c rest t =
    making_from_rest g.S.Site c.args.site c.stop-in-Err.result.1 (first_puts c.args.config.now c.args.key.now) (made_text c.args.config.now) rest (returns-clause-instants g c t)

pub returns-in_default-clause-state : goal.returns-in_default-clause-state
returns-in_default-clause-state g c told sound files found none zero = made_state (IsTrue g.S.Site.tells_all) c.stop.result.0 (directory (g.S.Site.disk c.args.site).reads) files c.args.config.now c.args.key.now (made_text c.args.config.now) (g.S.Site.output c.args.site) (g.S.Site.disk c.stop.result.1).reads (g.S.Site.output c.stop.result.1)
    sound c.told-key found none zero (returns-in_default-clause-makes g c told)

pub returns-in-Ok-open-clause-state : goal.returns-in-Ok-open-clause-state
returns-in-Ok-open-clause-state g c told sound files found none zero = made_state (IsTrue g.S.Site.tells_all) c.make_if_absent.result.0 (directory (g.S.Site.disk c.args.site).reads) files c.args.config.now c.args.key.now (made_text c.args.config.now) (g.S.Site.output c.args.site) (g.S.Site.disk c.make_if_absent.result.1).reads (g.S.Site.output c.make_if_absent.result.1)
    sound c.told-key found none zero (returns-in-Ok-open-clause-makes g c told)

pub returns-clause-state : goal.returns-clause-state
returns-clause-state g c told sound files found none zero = made_state (IsTrue g.S.Site.tells_all) c.stop-in-Err.result.0 (directory (g.S.Site.disk c.args.site).reads) files c.args.config.now c.args.key.now (made_text c.args.config.now) (g.S.Site.output c.args.site) (g.S.Site.disk c.stop-in-Err.result.1).reads (g.S.Site.output c.stop-in-Err.result.1)
    sound c.told-key found none zero (returns-clause-makes g c told)

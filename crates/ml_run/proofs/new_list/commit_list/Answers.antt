use Rattle.std.proofs.Common.{◌≡◌, ◌⊎◌, subst, sym}
use Rattle.ml_journal.specs.Calls.{ChangesDirectory}
use Rattle.ml_journal.specs.Log.{directory}
use Rattle.ml_journal.specs.Stores.{site_of}
use Rattle.ml_ending.specs.declared.lines.Why.{Why}
use Rattle.ml_ending.specs.declared.lines.Why.TheVariants as whys
use Rattle.ml_ending.proofs.Said.{at_site, commit_why}
use Rattle.ml_run.proofs.MadeLists.{told_makes, told_making, said_makes, said_making, commit_making, commit_images, either_unmade}
use Rattle.ml_run.proofs.new_list.commit_list.Goals as goal

pub returns-in-Ok-clause-makes : goal.returns-in-Ok-clause-makes
returns-in-Ok-clause-makes g c told =
    let start = site_of c.args.store in
    told_makes g.S.Site start (site_of c.in-Ok.store) c.give_text.result.1 (directory (g.S.Site.disk start).reads) c.args.txn.now c.args.line.now c.give_text.result.0 told
    (λ t. at_site (λ s. g.S.Site.output s ≡ g.S.Site.output start) c.commit.result _ c.in-Ok.is (c.commit.ensures.keeps.output t)) (c.commit.ensures.whole told) (c.in-Ok.ensures.done told) c.give_text.ensures

pub returns-in-Ok-clause-instants : goal.returns-in-Ok-clause-instants
returns-in-Ok-clause-instants g c t =
    let start = site_of c.args.store in
    let changes = at_site (λ s. ChangesDirectory g.S.Site c.args.txn.now start s) c.commit.result _ c.in-Ok.is c.commit.ensures.directory in
    told_making g.S.Site start (site_of c.in-Ok.store) c.give_text.result.1 (directory (g.S.Site.disk start).reads) c.args.txn.now c.args.line.now c.give_text.result.0
    (commit_making g.S.Site start (site_of c.in-Ok.store) c.args.txn.now c.args.line.now changes t)
    (at_site (λ s. g.S.Site.output s ≡ g.S.Site.output start) c.commit.result _ c.in-Ok.is (c.commit.ensures.keeps.output t)) (c.commit.ensures.whole (g.met.S.Site.all_has_reads t)) (c.in-Ok.ensures.done (g.met.S.Site.all_has_reads t)) c.give_text.ensures t

pub returns-in-Err-clause-makes : goal.returns-in-Err-clause-makes
returns-in-Err-clause-makes g c told =
    let start = site_of c.args.store in
    let changes = at_site (λ s. ChangesDirectory g.S.Site c.args.txn.now start s) c.commit.result _ c.in-Err.is c.commit.ensures.directory in
    said_makes g.S.Site start c.in-Err.site c.stop.result.1 (directory (g.S.Site.disk start).reads) c.args.txn.now c.args.line.now c.stop.result.0 c.why_refused.result told
    (λ t. at_site (λ s. g.S.Site.output s ≡ g.S.Site.output start) c.commit.result _ c.in-Err.is (c.commit.ensures.keeps.output t))
    (either_unmade c.why_refused.result (directory (g.S.Site.disk start).reads) (directory (g.S.Site.disk c.in-Err.site).reads) c.args.txn.now (subst (λ (w : Why). (w ≡ whys.Memory) ⊎ (w ≡ whys.Disk)) (sym c.why_refused.ensures) (commit_why c.in-Err.error)) (changes.any told)) c.stop.ensures

pub returns-in-Err-clause-instants : goal.returns-in-Err-clause-instants
returns-in-Err-clause-instants g c t =
    let start = site_of c.args.store in
    let changes = at_site (λ s. ChangesDirectory g.S.Site c.args.txn.now start s) c.commit.result _ c.in-Err.is c.commit.ensures.directory in
    said_making g.S.Site start c.in-Err.site c.stop.result.1 (g.S.Site.output start) (directory (g.S.Site.disk start).reads) c.args.txn.now c.args.line.now c.stop.result.0 c.why_refused.result
    (commit_making g.S.Site start c.in-Err.site c.args.txn.now c.args.line.now changes t) (commit_images g.S.Site start c.in-Err.site c.args.txn.now changes t)
    (at_site (λ s. g.S.Site.output s ≡ g.S.Site.output start) c.commit.result _ c.in-Err.is (c.commit.ensures.keeps.output t)) c.stop.ensures t

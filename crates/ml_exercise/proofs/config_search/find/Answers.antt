use Rattle.std.proofs.Common.{◌≡◌, ◌≤◌, ◌∙◌, ap, subst, IsTrue, Option, Result, Ok, Err, arith}
use Rattle.std.specs.Prelude.{IfOk}
use Rattle.ml_base.specs.Dir.{Dir}
use Rattle.ml_config.specs.Configuration.{IsConfig}
use Rattle.ml_config.specs.declared.configuration.Config.{Config}
use Rattle.ml_site.specs.Disk.{IsAtRest, Now}
use Rattle.ml_site.specs.Instants.{FromFirstSync}
use Rattle.ml_site.specs.declared.site.Site.{Ghosts}
use Rattle.ml_site.proofs.Steps.{first_then}
use Rattle.ml_journal.specs.Kept.{IsStill}
use Rattle.ml_journal.specs.Log.{directory}
use Rattle.ml_journal.specs.Instants.{IsOld}
use Rattle.ml_journal.specs.Stores.{site_of}
use Rattle.ml_ending.specs.declared.lines.Why.{Why}
use Rattle.ml_ending.proofs.Said.{at_site}
use Rattle.ml_exercise.specs.Finding.{Finds, HasConfig}
use Rattle.ml_exercise.proofs.config_search.find.Goals as goal

-- what is found holds whatever else is known
found_of : {S : Type 0} (ghosts : Ghosts S) (old new : S) (r : Result Config Why) → IfOk r IsConfig → (IsTrue ghosts.tells_reads → IfOk r (HasConfig (directory (ghosts.disk old).reads)))
    → (IsTrue ghosts.tells_reads → directory (ghosts.disk new).reads ≡ directory (ghosts.disk old).reads) → (IsTrue ghosts.tells_all → ghosts.output new ≡ ghosts.output old)
    → (IsTrue ghosts.tells_all → FromFirstSync ghosts.instant ghosts.left_since ghosts.disk ghosts.output ghosts.syncs old new (Now (ghosts.disk old) (ghosts.output old)) (IsOld (directory (ghosts.disk old).reads) (ghosts.output old)))
    → (IsTrue ghosts.tells_all → IsAtRest (ghosts.disk new)) → ghosts.disk_faults old ≤ ghosts.disk_faults new → ghosts.output_faults old ≤ ghosts.output_faults new → IfOk r (λ config. Finds ghosts old new config)
found_of {S} ghosts old new (Ok config) range has same put instants rest disk out =
    record { range = range; found = has; same = same; output = put; instants = instants; rest = rest; disk_later = disk; output_later = out }
found_of {S} ghosts old new (Err why) range has same put instants rest disk out = tt

pub returns-in-Ok-clause-found : goal.returns-in-Ok-clause-found
returns-in-Ok-clause-found g c =
    let ghosts = g.S.Site in
    let start = c.args.site in
    let now = site_of c.in-Ok.store in
    let new = c.look.result.1 in
    let put : IsTrue ghosts.tells_all → ghosts.output now ≡ ghosts.output start = λ t. at_site (λ s. ghosts.output s ≡ ghosts.output start) c.open.result _ c.in-Ok.is (c.open.ensures.keeps.output t) in
    let same : IsTrue ghosts.tells_reads → directory (ghosts.disk now).reads ≡ directory (ghosts.disk start).reads =
    λ r. at_site (λ s. directory (ghosts.disk s).reads ≡ directory (ghosts.disk start).reads) c.open.result _ c.in-Ok.is (c.open.ensures.same r) in
    let disk : ghosts.disk_faults start ≤ ghosts.disk_faults now = at_site (λ s. ghosts.disk_faults start ≤ ghosts.disk_faults s) c.open.result _ c.in-Ok.is c.open.ensures.keeps.faults in
    let others : ghosts.output_faults now ≡ ghosts.output_faults start = at_site (λ s. ghosts.output_faults s ≡ ghosts.output_faults start) c.open.result _ c.in-Ok.is c.open.ensures.keeps.others in
    let later = c.look.ensures.disk_later in
    let later_out = c.look.ensures.output_later in
    found_of ghosts start new c.look.result.0 c.look.ensures.range
    (λ r. subst (λ (d : Option Dir). IfOk c.look.result.0 (HasConfig d)) (same r) (c.look.ensures.config r))
    (λ r. ap directory (c.look.ensures.reads r) ∙ same r)
    (λ t. c.look.ensures.output t ∙ put t)
    (λ t. first_then ghosts.instant ghosts.left_since ghosts.disk ghosts.output ghosts.syncs start now new (Now (ghosts.disk start) (ghosts.output start)) (IsOld (directory (ghosts.disk start).reads) (ghosts.output start)) (IsStill ghosts now)
    (c.in-Ok.ensures.instants t) (c.look.ensures.instants t) (λ left out p. (ap directory p.0 ∙ same (g.met.S.Site.all_has_reads t), p.1 ∙ put t)))
    c.look.ensures.rest (omega (arith, disk, later)) (omega (arith, others, later_out))

use Rattle.std.proofs.Common.{subst, Result}
use Rattle.std.specs.Prelude.{IfErr, IfOk}
use Rattle.ml_config.specs.declared.configuration.Config.{Config}
use Rattle.ml_ending.specs.declared.lines.Why.{Why}
use Rattle.ml_exercise.specs.Finding.{Finds, Misses}
use Rattle.ml_exercise.proofs.Found.{found_then}
use Rattle.ml_exercise.proofs.Missed.{missed}
use Rattle.ml_exercise.proofs.exercise_run.exercise.Goals as goal

pub returns-in-Ok : goal.returns-in-Ok
returns-in-Ok g c =
    let mid = c.find-found.result.1 in
    let finds : Finds g.S.Site c.args.site mid c.in-Ok.config = subst (λ (r : Result Config Why). IfOk r (λ config. Finds g.S.Site c.args.site mid config)) c.in-Ok.is c.find-found.ensures.found in
    found_then g.S.Site g.met.S.Site.all_has_reads c.args.site mid c.exercise_list.result.1 c.in-Ok.config c.args.count c.exercise_list.result.0 finds c.exercise_list.ensures

pub returns-in-Err : goal.returns-in-Err
returns-in-Err g c =
    let mid = c.find-found.result.1 in
    let miss : Misses g.S.Site c.args.site mid c.in-Err.why = subst (λ (r : Result Config Why). IfErr r (λ why. Misses g.S.Site c.args.site mid why)) c.in-Err.is c.find-found.ensures.missed in
    missed g.S.Site g.met.S.Site.all_has_reads c.args.count c.args.site mid c.stop.result.1 c.in-Err.why c.stop.result.0 miss c.stop.ensures

use Rattle.std.proofs.Common.{◌≡◌, true, IfOk, sym, ap, subst}
use Rattle.std.proofs.lemmas.Result.{IfOk-weaker}
use Rattle.ml_base.specs.Dir.{touches_only}
use Rattle.ml_base.specs.ReadFiles.{NamesDamaged}
use Rattle.ml_base.proofs.DamagedNames.{ok_both}
use Rattle.ml_plain.specs.declared.Act.{Act}
use Rattle.ml_plain.specs.Steps.{act_step}
use Rattle.ml_plain.specs.Histories.{floor_asked}
use Rattle.ml_acts.specs.Doing.{DoesList}
use Rattle.ml_list.specs.Asked.{IsDamagedForAct}
use Rattle.ml_acts.specs.Growing.{is_of_time}
use Rattle.ml_list.specs.Damage.{is_read_by}
use Rattle.ml_list.specs.Written.{is_written_by_act, is_written_under_act}
use Rattle.ml_list.proofs.Asked.{timed_named}
use Rattle.ml_list.specs.Looked.{AlikeForAct}
use Rattle.ml_list.proofs.Steps.{plain_does}
use Rattle.ml_list.proofs.Written.{time_listed}
use Rattle.ml_list.specs.Found.{FoundByAct}
use Rattle.ml_list.proofs.item_effects.effect.Goals as goal

pub returns-in-Timed-clause-value : goal.returns-in-Timed-clause-value
returns-in-Timed-clause-value g c told =
    let old = g.F.Files.map c.args.files in
    let item = c.args.item.now in
    ok_both c.run_timed.result.1 _ _ _ (λ done value own dir q alike is.
    let does = value dir q.plain (subst (λ (a : Act). AlikeForAct a old dir) c.in-Timed.is alike) is.list in
    plain_does is_of_time time_listed dir q item done is (ap floor_asked c.in-Timed.is) own (subst (λ (a : Act). DoesList dir done (act_step q.plain item.moment a)) (sym c.in-Timed.is) does))
    (c.run_timed.ensures.value told) c.run_timed.ensures.act.own

pub returns-in-Timed-clause-sound : goal.returns-in-Timed-clause-sound
returns-in-Timed-clause-sound g c told dir q alike is =
    c.run_timed.ensures.sound told dir q.plain (subst (λ (a : Act). AlikeForAct a (g.F.Files.map c.args.files) dir) c.in-Timed.is alike) is.list

pub returns-in-Timed-clause-names : goal.returns-in-Timed-clause-names
returns-in-Timed-clause-names g c =
    let dir = g.F.Files.map c.args.files in
    subst (λ (a : Act). NamesDamaged g.F.Files (λ name. is_read_by a name ≡ true) (IsDamagedForAct dir a) c.run_timed.result.1) (sym c.in-Timed.is)
    (timed_named g.F.Files c.run_timed.result.1 dir c.run_timed.ensures.act.names)

pub returns-in-Timed-clause-written : goal.returns-in-Timed-clause-written
returns-in-Timed-clause-written g c told =
    subst (λ (a : Act). IfOk c.run_timed.result.1 (λ done. touches_only (is_written_by_act a) done.0 ≡ true)) (sym c.in-Timed.is) c.run_timed.ensures.act.own

pub returns-in-Timed-clause-asked : goal.returns-in-Timed-clause-asked
returns-in-Timed-clause-asked g c told =
    IfOk-weaker c.run_timed.result.1 _ _ (λ done own k held. subst (λ (a : Act). touches_only (is_written_under_act k a) done.0 ≡ true) (sym c.in-Timed.is) own) c.run_timed.ensures.act.own

pub returns-in-Timed-clause-found : goal.returns-in-Timed-clause-found
returns-in-Timed-clause-found g c told = subst (λ (a : Act). IfOk c.run_timed.result.1 (FoundByAct (g.F.Files.map c.args.files) a)) (sym c.in-Timed.is) (c.run_timed.ensures.found told)

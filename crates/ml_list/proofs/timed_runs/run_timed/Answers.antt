use Rattle.std.proofs.Common.{Option, sym, subst, []}
use Rattle.std.proofs.lemmas.Result.{IfOk-weaker}
use Rattle.ml_base.specs.Dir.{Dir}
use Rattle.ml_base.specs.Bytes.{Text}
use Rattle.ml_config.specs.ConfigFile.{IsConfigFile, config_name}
use Rattle.ml_config.proofs.OneSpelling.{one_in_file}
use Rattle.ml_acts.specs.Asked.{IsDamagedOf, Undigested}
use Rattle.ml_acts.specs.Doing.{Alike}
use Rattle.ml_timed.specs.Reads.{is_seen_in_timed}
use Rattle.ml_acts.proofs.OfActs.{act_after}
use Rattle.ml_list.proofs.Delivered.{timed_more}
use Rattle.ml_acts.proofs.Found.{found_then}
use Rattle.ml_timed.specs.Found.{FoundInRun}
use Rattle.ml_list.specs.Found.{FoundByCounters, FoundToRun}
use Rattle.ml_list.proofs.timed_runs.run_timed.Goals as goal

pub returns-in-Ok-clause-value : goal.returns-in-Ok-clause-value
returns-in-Ok-clause-value g c told =
    let config = c.in-Ok.config in
    let same_map = g.met.F.Files.kept_map c.args.files c.configuration.new.files told c.configuration.ensures.reads.kept in
    let held = c.in-Ok.ensures.value told in
    IfOk-weaker c.run_unless_worn.result.1 _ _
    (λ done does dir p alike is.
    let file : IsConfigFile (dir config_name) config = subst (λ (f : Option Text). IsConfigFile f config) (sym alike.config) held in
    does dir p (subst (λ (d : Dir). Alike (is_seen_in_timed config.flags.d) d dir) (sym same_map) (alike.timed config held)) is (one_in_file (dir config_name) p.config config is.config file))
    (c.run_unless_worn.ensures.value told)

pub returns-in-Ok-clause-sound : goal.returns-in-Ok-clause-sound
returns-in-Ok-clause-sound g c told dir p alike is =
    let config = c.in-Ok.config in
    let same_map = g.met.F.Files.kept_map c.args.files c.configuration.new.files told c.configuration.ensures.reads.kept in
    c.run_unless_worn.ensures.sound told dir p (subst (λ (d : Dir). Alike (is_seen_in_timed config.flags.d) d dir) (sym same_map) (alike.timed config (c.in-Ok.ensures.value told))) is

pub returns-in-Err-clause-sound : goal.returns-in-Err-clause-sound
returns-in-Err-clause-sound g c told dir p alike is = c.in-Err.ensures.none

pub returns-in-Ok-clause-act : goal.returns-in-Ok-clause-act
returns-in-Ok-clause-act g c =
    let config = c.in-Ok.config in
    act_after g.F.Files (λ d. IsDamagedOf d Undigested) g.met.F.Files.kept_then g.met.F.Files.kept_map c.configuration.ensures.reads c.run_unless_worn.ensures.act (λ name e. timed_more config.flags.d name e)
    (λ told name e bad. record { config = config; held = c.in-Ok.ensures.value told; read = e; bad = bad })

pub returns-in-Ok-clause-found : goal.returns-in-Ok-clause-found
returns-in-Ok-clause-found g c told =
    let dir = g.F.Files.map c.args.files in
    let same = g.met.F.Files.kept_map c.args.files c.configuration.new.files told c.configuration.ensures.reads.kept in
    found_then c.run_unless_worn.result.1 dir (g.F.Files.map c.configuration.new.files) (λ d. FoundByCounters d (λ x. FoundInRun d [] x.0)) (FoundToRun dir) same
    (λ done is. record { config = c.in-Ok.config; held = c.in-Ok.ensures.value told; found = is }) (c.run_unless_worn.ensures.found told)

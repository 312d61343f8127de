use Rattle.std.proofs.Common.{◌≡◌, ◌∙◌, sym, true, List, Result, IfOk, subst}
use Rattle.std.proofs.lemmas.Result.{IfOk-weaker}
use Rattle.ml_base.specs.declared.part_error.PartError.{PartError}
use Rattle.ml_base.specs.declared.puts.Put.{Put}
use Rattle.ml_config.specs.ConfigFile.{IsConfigFile, config_name}
use Rattle.ml_config.specs.declared.configuration.Config.{Config}
use Rattle.ml_plain.specs.declared.Reply.{Reply}
use Rattle.ml_plain.specs.Directory.{IsState}
use Rattle.ml_plain.specs.Histories.{State, effect}
use Rattle.ml_list.specs.Applying.{Does}
use Rattle.ml_list.specs.Written.{is_written_by, is_written_by_act, is_written_under, is_written_under_act}
use Rattle.ml_list.proofs.Steps.{counted_by, counted_floor}
use Rattle.ml_base.specs.Dir.{Dir, touches_only}
use Rattle.ml_list.specs.Looked.{AlikeForAct}
use Rattle.ml_list.proofs.Looked.{err_only, reply_file_there}
use Rattle.ml_list.proofs.Written.{act_written, reply_written, act_under, reply_under}
use Rattle.ml_list.specs.Found.{FoundByAct}
use Rattle.ml_list.proofs.Finding.{found_now}
use Rattle.ml_list.proofs.item_effects.apply_counted.Goals as goal

pub returns-in-Ok-clause-value : goal.returns-in-Ok-clause-value
returns-in-Ok-clause-value g c told =
    let old = g.F.Files.map c.args.files in
    let item = c.args.item.now in
    let step = subst (λ (r : Result (List Put × Reply) PartError). IfOk r (λ done. (dir : Dir) (q : State) → AlikeForAct item.act old dir → IsState dir q → Does dir done (effect q item))) c.in-Ok.is (c.effect-files.ensures.value told) in
    IfOk-weaker c.with_reply_kept-kept.result _ _ (λ done h dir q alike is new.
    counted_by dir q item c.in-Ok.txn c.in-Ok.reply done (step dir q alike.act is)
    (λ there. h dir (effect q item).0 (λ some. (c.requires.known told).file some ∙ sym (reply_file_there old dir item.number some alike.number)) there (λ some. counted_floor q item new some)))
    c.with_reply_kept-kept.ensures.value

pub returns-in-Ok-clause-written : goal.returns-in-Ok-clause-written
returns-in-Ok-clause-written g c told =
    let item = c.args.item.now in
    let own = subst (λ (r : Result (List Put × Reply) PartError). IfOk r (λ done. touches_only (is_written_by_act item.act) done.0 ≡ true)) c.in-Ok.is (c.effect-files.ensures.written told) in
    IfOk-weaker c.with_reply_kept-kept.result _ _ (λ done more. more (is_written_by item) (act_written item c.in-Ok.txn own) (λ some. reply_written item some)) c.with_reply_kept-kept.ensures.written

pub returns-in-Ok-clause-sound : goal.returns-in-Ok-clause-sound
returns-in-Ok-clause-sound g c told dir q alike is = err_only c.with_reply_kept-kept.result c.with_reply_kept-kept.ensures.error

pub returns-in-Ok-clause-asked : goal.returns-in-Ok-clause-asked
returns-in-Ok-clause-asked g c told =
    let dir = g.F.Files.map c.args.files in
    let item = c.args.item.now in
    let own = subst (λ (r : Result (List Put × Reply) PartError). IfOk r (λ done. (k : Config) → IsConfigFile (dir config_name) k → touches_only (is_written_under_act k item.act) done.0 ≡ true)) c.in-Ok.is (c.effect-files.ensures.asked told) in
    IfOk-weaker c.with_reply_kept-kept.result _ _ (λ done more k held. more (is_written_under k item) (act_under k item c.in-Ok.txn (own k held)) (λ some. reply_under k item some)) c.with_reply_kept-kept.ensures.written

pub returns-in-Ok-clause-found : goal.returns-in-Ok-clause-found
returns-in-Ok-clause-found g c told =
    let dir = g.F.Files.map c.args.files in
    let item = c.args.item.now in
    let found = subst (λ (r : Result (List Put × Reply) PartError). IfOk r (FoundByAct dir item.act)) c.in-Ok.is (c.effect-files.ensures.found told) in
    found_now dir item.act (c.in-Ok.txn, c.in-Ok.reply) c.with_reply_kept-kept.result found c.with_reply_kept-kept.ensures.found

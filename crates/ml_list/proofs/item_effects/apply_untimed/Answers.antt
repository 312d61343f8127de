use Rattle.std.proofs.Common.{◌≡◌, true, IfOk, sym, ap, subst}
use Rattle.ml_base.specs.Dir.{same_name, touches_only}
use Rattle.ml_config.specs.KeyFile.{key_name}
use Rattle.ml_base.specs.ReadFiles.{NamesDamaged}
use Rattle.ml_queue.specs.Answers.{ids_name}
use Rattle.ml_list.specs.Asked.{IsDamagedForAct}
use Rattle.ml_list.specs.Damage.{is_read_by}
use Rattle.ml_list.specs.Written.{is_written_by_act, is_written_under_act}
use Rattle.ml_list.proofs.Asked.{acted_named, delivered_named}
use Rattle.ml_list.proofs.Damages.{part_named}
use Rattle.ml_list.proofs.Written.{delivered_under, key_listed}
use Rattle.ml_plain.specs.declared.Act.{Act}
use Rattle.ml_plain.specs.declared.Act.TheVariants.{Add, Remove, Sent, Rekey, Floor}
use Rattle.ml_plain.specs.Steps.{act_step}
use Rattle.ml_plain.specs.Histories.{effect_by, floor_asked}
use Rattle.ml_acts.specs.Doing.{DoesList, is_beside_mark}
use Rattle.ml_acts.proofs.Queued.{beside_listed}
use Rattle.ml_list.specs.Applying.{Does}
use Rattle.ml_base.proofs.DamagedNames.{ok_both}
use Rattle.ml_list.specs.Looked.{AlikeForAct}
use Rattle.ml_list.proofs.Looked.{mail_so}
use Rattle.ml_list.proofs.Steps.{delivered_so, plain_does}
use Rattle.std.proofs.lemmas.Result.{IfOk-weaker}
use Rattle.ml_base.specs.Bytes.{Text}
use Rattle.ml_list.specs.Found.{FoundByAct, FoundToDeliver}
use Rattle.ml_list.proofs.item_effects.apply_untimed.Goals as goal

pub returns-in-Deliver-clause-value : goal.returns-in-Deliver-clause-value
returns-in-Deliver-clause-value g c told =
    let old = g.F.Files.map c.args.files.now in
    let item = c.args.item.now in
    ok_both c.deliver.result _ _ _ (λ done value own dir q alike is.
    let there = mail_so old dir _ _ _ _ _ _ c.as_slice.ensures c.as_slice-in-Deliver.ensures c.as_slice-in-Deliver-2.ensures (subst (λ (a : Act). AlikeForAct a old dir) c.in-Deliver.is alike) in
    plain_does is_beside_mark beside_listed dir q item done is (ap floor_asked c.in-Deliver.is) own (subst (λ (a : Act). DoesList dir done (act_step q.plain item.moment a)) (sym c.in-Deliver.is)
    (delivered_so dir done item.moment _ _ _ _ _ _ q.plain c.as_slice.ensures c.as_slice-in-Deliver.ensures c.as_slice-in-Deliver-2.ensures (value dir q.plain there is.list))))
    (c.deliver.ensures.value told) c.deliver.ensures.act.own

pub returns-in-Deliver-clause-sound : goal.returns-in-Deliver-clause-sound
returns-in-Deliver-clause-sound g c told dir q alike is =
    let old = g.F.Files.map c.args.files.now in
    let there = mail_so old dir _ _ _ _ _ _ c.as_slice.ensures c.as_slice-in-Deliver.ensures c.as_slice-in-Deliver-2.ensures (subst (λ (a : Act). AlikeForAct a old dir) c.in-Deliver.is alike) in
    c.deliver.ensures.sound told dir q.plain there is.list

pub returns-in-Deliver-clause-names : goal.returns-in-Deliver-clause-names
returns-in-Deliver-clause-names g c =
    let dir = g.F.Files.map c.args.files.now in
    subst (λ (a : Act). NamesDamaged g.F.Files (λ name. is_read_by a name ≡ true) (IsDamagedForAct dir a) c.deliver.result) (sym c.in-Deliver.is)
    (delivered_named g.F.Files c.deliver.result dir _ _ _ _ _ _ c.as_slice.ensures c.as_slice-in-Deliver.ensures c.as_slice-in-Deliver-2.ensures c.deliver.ensures.act.names)

pub returns-in-Sent-clause-value : goal.returns-in-Sent-clause-value
returns-in-Sent-clause-value g c told =
    let old = g.F.Files.map c.args.files.now in
    let item = c.args.item.now in
    ok_both c.sent_entry.result _ _ _ (λ done value own dir q alike is.
    let does = value dir q.plain (subst (λ (a : Act). AlikeForAct a old dir) c.in-Sent.is alike) is.list in
    plain_does is_beside_mark beside_listed dir q item done is (ap floor_asked c.in-Sent.is) own (subst (λ (a : Act). DoesList dir done (act_step q.plain item.moment a)) (sym c.in-Sent.is) does))
    (c.sent_entry.ensures.value told) c.sent_entry.ensures.act.own

pub returns-in-Sent-clause-sound : goal.returns-in-Sent-clause-sound
returns-in-Sent-clause-sound g c told dir q alike is =
    c.sent_entry.ensures.sound told dir q.plain (subst (λ (a : Act). AlikeForAct a (g.F.Files.map c.args.files.now) dir) c.in-Sent.is alike) is.list

pub returns-in-Sent-clause-names : goal.returns-in-Sent-clause-names
returns-in-Sent-clause-names g c =
    let dir = g.F.Files.map c.args.files.now in
    subst (λ (a : Act). NamesDamaged g.F.Files (λ name. is_read_by a name ≡ true) (IsDamagedForAct dir a) c.sent_entry.result) (sym c.in-Sent.is)
    (acted_named g.F.Files c.sent_entry.result dir (Sent _) (λ name e. e) (part_named g.F.Files (λ name. same_name name ids_name ≡ true) c.sent_entry.result dir c.sent_entry.ensures.act.names))

pub returns-in-Add-clause-value : goal.returns-in-Add-clause-value
returns-in-Add-clause-value g c told =
    let old = g.F.Files.map c.args.files.now in
    let item = c.args.item.now in
    ok_both c.add_member.result _ _ _ (λ done value own dir q alike is.
    let does = value dir q.plain (subst (λ (a : Act). AlikeForAct a old dir) c.in-Add.is alike) is.list in
    plain_does is_beside_mark beside_listed dir q item done is (ap floor_asked c.in-Add.is) own (subst (λ (a : Act). DoesList dir done (act_step q.plain item.moment a)) (sym c.in-Add.is) does))
    (c.add_member.ensures.value told) c.add_member.ensures.act.own

pub returns-in-Add-clause-sound : goal.returns-in-Add-clause-sound
returns-in-Add-clause-sound g c told dir q alike is =
    c.add_member.ensures.sound told dir q.plain (subst (λ (a : Act). AlikeForAct a (g.F.Files.map c.args.files.now) dir) c.in-Add.is alike) is.list

pub returns-in-Remove-clause-value : goal.returns-in-Remove-clause-value
returns-in-Remove-clause-value g c told =
    let old = g.F.Files.map c.args.files.now in
    let item = c.args.item.now in
    ok_both c.remove_member.result _ _ _ (λ done value own dir q alike is.
    let does = value dir q.plain (subst (λ (a : Act). AlikeForAct a old dir) c.in-Remove.is alike) is.list in
    plain_does is_beside_mark beside_listed dir q item done is (ap floor_asked c.in-Remove.is) own (subst (λ (a : Act). DoesList dir done (act_step q.plain item.moment a)) (sym c.in-Remove.is) does))
    (c.remove_member.ensures.value told) c.remove_member.ensures.act.own

pub returns-in-Remove-clause-sound : goal.returns-in-Remove-clause-sound
returns-in-Remove-clause-sound g c told dir q alike is =
    c.remove_member.ensures.sound told dir q.plain (subst (λ (a : Act). AlikeForAct a (g.F.Files.map c.args.files.now) dir) c.in-Remove.is alike) is.list

pub returns-in-Rekey-clause-value : goal.returns-in-Rekey-clause-value
returns-in-Rekey-clause-value g c told =
    let old = g.F.Files.map c.args.files.now in
    let item = c.args.item.now in
    ok_both c.change_key.result _ _ _ (λ done value own dir q alike is.
    let does = value dir q.plain (subst (λ (a : Act). AlikeForAct a old dir) c.in-Rekey.is alike) is.list in
    plain_does (λ name. same_name name key_name) key_listed dir q item done is (ap floor_asked c.in-Rekey.is) own (subst (λ (a : Act). DoesList dir done (act_step q.plain item.moment a)) (sym c.in-Rekey.is) does))
    (c.change_key.ensures.value told) c.change_key.ensures.act.own

pub returns-in-Rekey-clause-sound : goal.returns-in-Rekey-clause-sound
returns-in-Rekey-clause-sound g c told dir q alike is =
    c.change_key.ensures.sound told dir q.plain (subst (λ (a : Act). AlikeForAct a (g.F.Files.map c.args.files.now) dir) c.in-Rekey.is alike) is.list

pub returns-in-Floor-clause-value : goal.returns-in-Floor-clause-value
returns-in-Floor-clause-value g c told =
    let old = g.F.Files.map c.args.files.now in
    let item = c.args.item.now in
    IfOk-weaker c.raise.result _ _
    (λ done h dir q alike is. subst (λ (a : Act). Does dir done (effect_by q item (floor_asked a))) (sym c.in-Floor.is) (h dir q (subst (λ (a : Act). AlikeForAct a old dir) c.in-Floor.is alike) is)) (c.raise.ensures.value told)

pub returns-in-Floor-clause-sound : goal.returns-in-Floor-clause-sound
returns-in-Floor-clause-sound g c told dir q alike is =
    c.raise.ensures.sound told dir q (subst (λ (a : Act). AlikeForAct a (g.F.Files.map c.args.files.now) dir) c.in-Floor.is alike) is

pub returns-in-Add-clause-names : goal.returns-in-Add-clause-names
returns-in-Add-clause-names g c =
    let dir = g.F.Files.map c.args.files.now in
    subst (λ (a : Act). NamesDamaged g.F.Files (λ name. is_read_by a name ≡ true) (IsDamagedForAct dir a) c.add_member.result) (sym c.in-Add.is)
    (acted_named g.F.Files c.add_member.result dir (Add _ _) (λ name e. e) c.add_member.ensures.act.names)

pub returns-in-Remove-clause-names : goal.returns-in-Remove-clause-names
returns-in-Remove-clause-names g c =
    let dir = g.F.Files.map c.args.files.now in
    subst (λ (a : Act). NamesDamaged g.F.Files (λ name. is_read_by a name ≡ true) (IsDamagedForAct dir a) c.remove_member.result) (sym c.in-Remove.is)
    (acted_named g.F.Files c.remove_member.result dir (Remove _ _) (λ name e. e) c.remove_member.ensures.act.names)

pub returns-in-Rekey-clause-names : goal.returns-in-Rekey-clause-names
returns-in-Rekey-clause-names g c =
    let dir = g.F.Files.map c.args.files.now in
    subst (λ (a : Act). NamesDamaged g.F.Files (λ name. is_read_by a name ≡ true) (IsDamagedForAct dir a) c.change_key.result) (sym c.in-Rekey.is)
    (acted_named g.F.Files c.change_key.result dir (Rekey _) (λ name e. e) c.change_key.ensures.act.names)

pub returns-in-Floor-clause-names : goal.returns-in-Floor-clause-names
returns-in-Floor-clause-names g c =
    let dir = g.F.Files.map c.args.files.now in
    subst (λ (a : Act). NamesDamaged g.F.Files (λ name. is_read_by a name ≡ true) (IsDamagedForAct dir a) c.raise.result) (sym c.in-Floor.is)
    (acted_named g.F.Files c.raise.result dir (Floor _) (λ name e. e) c.raise.ensures.names)

pub returns-in-Deliver-clause-written : goal.returns-in-Deliver-clause-written
returns-in-Deliver-clause-written g c told =
    subst (λ (a : Act). IfOk c.deliver.result (λ done. touches_only (is_written_by_act a) done.0 ≡ true)) (sym c.in-Deliver.is) c.deliver.ensures.act.own

pub returns-in-Add-clause-written : goal.returns-in-Add-clause-written
returns-in-Add-clause-written g c told =
    subst (λ (a : Act). IfOk c.add_member.result (λ done. touches_only (is_written_by_act a) done.0 ≡ true)) (sym c.in-Add.is) c.add_member.ensures.written

pub returns-in-Remove-clause-written : goal.returns-in-Remove-clause-written
returns-in-Remove-clause-written g c told =
    subst (λ (a : Act). IfOk c.remove_member.result (λ done. touches_only (is_written_by_act a) done.0 ≡ true)) (sym c.in-Remove.is) c.remove_member.ensures.written

pub returns-in-Sent-clause-written : goal.returns-in-Sent-clause-written
returns-in-Sent-clause-written g c told =
    subst (λ (a : Act). IfOk c.sent_entry.result (λ done. touches_only (is_written_by_act a) done.0 ≡ true)) (sym c.in-Sent.is) (c.sent_entry.ensures.written told)

pub returns-in-Rekey-clause-written : goal.returns-in-Rekey-clause-written
returns-in-Rekey-clause-written g c told =
    subst (λ (a : Act). IfOk c.change_key.result (λ done. touches_only (is_written_by_act a) done.0 ≡ true)) (sym c.in-Rekey.is) c.change_key.ensures.written

pub returns-in-Floor-clause-written : goal.returns-in-Floor-clause-written
returns-in-Floor-clause-written g c told =
    subst (λ (a : Act). IfOk c.raise.result (λ done. touches_only (is_written_by_act a) done.0 ≡ true)) (sym c.in-Floor.is) (c.raise.ensures.written told)

pub returns-in-Add-clause-asked : goal.returns-in-Add-clause-asked
returns-in-Add-clause-asked g c told =
    IfOk-weaker c.add_member.result _ _ (λ done own k held. subst (λ (a : Act). touches_only (is_written_under_act k a) done.0 ≡ true) (sym c.in-Add.is) own) c.add_member.ensures.written

pub returns-in-Remove-clause-asked : goal.returns-in-Remove-clause-asked
returns-in-Remove-clause-asked g c told =
    IfOk-weaker c.remove_member.result _ _ (λ done own k held. subst (λ (a : Act). touches_only (is_written_under_act k a) done.0 ≡ true) (sym c.in-Remove.is) own) c.remove_member.ensures.written

pub returns-in-Sent-clause-asked : goal.returns-in-Sent-clause-asked
returns-in-Sent-clause-asked g c told =
    IfOk-weaker c.sent_entry.result _ _ (λ done own k held. subst (λ (a : Act). touches_only (is_written_under_act k a) done.0 ≡ true) (sym c.in-Sent.is) own) (c.sent_entry.ensures.written told)

pub returns-in-Rekey-clause-asked : goal.returns-in-Rekey-clause-asked
returns-in-Rekey-clause-asked g c told =
    IfOk-weaker c.change_key.result _ _ (λ done own k held. subst (λ (a : Act). touches_only (is_written_under_act k a) done.0 ≡ true) (sym c.in-Rekey.is) own) c.change_key.ensures.written

pub returns-in-Floor-clause-asked : goal.returns-in-Floor-clause-asked
returns-in-Floor-clause-asked g c told =
    IfOk-weaker c.raise.result _ _ (λ done own k held. subst (λ (a : Act). touches_only (is_written_under_act k a) done.0 ≡ true) (sym c.in-Floor.is) own) (c.raise.ensures.written told)

pub returns-in-Deliver-clause-asked : goal.returns-in-Deliver-clause-asked
returns-in-Deliver-clause-asked g c told =
    IfOk-weaker c.deliver.result _ _
    (λ done own k held.
    subst (λ (a : Act). touches_only (is_written_under_act k a) done.0 ≡ true) (sym c.in-Deliver.is)
    (delivered_under k done.0 _ _ _ _ c.as_slice.ensures c.as_slice-in-Deliver.ensures (own k held)))
    (c.deliver.ensures.asked told)

pub returns-in-Add-clause-found : goal.returns-in-Add-clause-found
returns-in-Add-clause-found g c told = subst (λ (a : Act). IfOk c.add_member.result (FoundByAct (g.F.Files.map c.args.files.now) a)) (sym c.in-Add.is) (c.add_member.ensures.found told)

pub returns-in-Remove-clause-found : goal.returns-in-Remove-clause-found
returns-in-Remove-clause-found g c told = subst (λ (a : Act). IfOk c.remove_member.result (FoundByAct (g.F.Files.map c.args.files.now) a)) (sym c.in-Remove.is) (c.remove_member.ensures.found told)

pub returns-in-Sent-clause-found : goal.returns-in-Sent-clause-found
returns-in-Sent-clause-found g c told = subst (λ (a : Act). IfOk c.sent_entry.result (FoundByAct (g.F.Files.map c.args.files.now) a)) (sym c.in-Sent.is) (c.sent_entry.ensures.found told)

pub returns-in-Rekey-clause-found : goal.returns-in-Rekey-clause-found
returns-in-Rekey-clause-found g c told = subst (λ (a : Act). IfOk c.change_key.result (FoundByAct (g.F.Files.map c.args.files.now) a)) (sym c.in-Rekey.is) (c.change_key.ensures.found told)

pub returns-in-Floor-clause-found : goal.returns-in-Floor-clause-found
returns-in-Floor-clause-found g c told =
    subst (λ (a : Act). IfOk c.raise.result (FoundByAct (g.F.Files.map c.args.files.now) a)) (sym c.in-Floor.is) (IfOk-weaker c.raise.result _ _ (λ done any. tt) c.raise.ensures.files)

pub returns-in-Deliver-clause-found : goal.returns-in-Deliver-clause-found
returns-in-Deliver-clause-found g c told =
    let dir = g.F.Files.map c.args.files.now in
    let r = c.deliver.result in
    subst (λ (a : Act). IfOk r (FoundByAct dir a)) (sym c.in-Deliver.is)
    (subst (λ (t : Text). IfOk r (FoundToDeliver dir t c.in-Deliver.recipient c.in-Deliver.message)) c.as_slice.ensures
    (subst (λ (t : Text). IfOk r (FoundToDeliver dir c.as_slice.result.now t c.in-Deliver.message)) c.as_slice-in-Deliver.ensures
    (subst (λ (t : Text). IfOk r (FoundToDeliver dir c.as_slice.result.now c.as_slice-in-Deliver.result.now t)) c.as_slice-in-Deliver-2.ensures (c.deliver.ensures.found told))))

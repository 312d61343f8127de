use Rattle.std.proofs.Common.{◌≡◌, ◌≢◌, inl, inr, true, None, IfErr, subst, sym, IfOk, Some, refl}
use Rattle.std.proofs.lemmas.Bool.{or_left, or_right}
use Rattle.std.proofs.lemmas.Result.{IfOk-weaker}
use Rattle.ml_base.specs.Dir.{Dir}
use Rattle.ml_base.specs.PartErrors.{OnDamaged}
use Rattle.ml_base.proofs.DamagedNames.{err_damaged, on_both, on_damaged}
use Rattle.ml_list.specs.declared.item_effects.Lookup.{Lookup}
use Rattle.ml_list.specs.Again.{IsAgain}
use Rattle.ml_list.specs.Applying.{Repeats}
use Rattle.ml_list.specs.Asked.{IsDamagedFor, IsDamagedForAct}
use Rattle.ml_list.specs.Damage.{IsDamagedInList, is_looked_up, is_read_by, is_read_by_item}
use Rattle.ml_list.specs.Lookups.{answer_of}
use Rattle.ml_list.specs.Written.{WritesAsAsked}
use Rattle.ml_list.proofs.Again.{again_once, new_once}
use Rattle.ml_list.specs.Looked.{AlikeFor, AlikeForAct}
use Rattle.ml_list.proofs.Steps.{answered_does, new_does}
use Rattle.ml_acts.proofs.Found.{found_then}
use Rattle.ml_list.specs.Found.{FoundNow, FoundWhole}
use Rattle.ml_list.proofs.item_effects.apply_or_repeat.Goals as goal

pub returns-in-Ok-Answered-clause-value : goal.returns-in-Ok-Answered-clause-value
returns-in-Ok-Answered-clause-value g c told dir q alike is =
    let item = c.args.item.now in
    answered_does dir q item c.in-Ok-Answered.reply c.new.result c.new.ensures is
    (subst (λ (l : Lookup). Repeats q item.number (answer_of l)) c.in-Ok-Answered.field-0-is (c.in-Ok-Answered.ensures.value told dir q alike.number is))

pub returns-in-Ok-New-clause-value : goal.returns-in-Ok-New-clause-value
returns-in-Ok-New-clause-value g c told =
    let old = g.F.Files.map c.args.files in
    let item = c.args.item.now in
    let same = g.met.F.Files.kept_map c.args.files c.look_up.new.files told c.look_up.ensures.reads.kept in
    IfOk-weaker c.apply_counted.result.1 _ _ (λ done h dir q alike is.
    let new = subst (λ (l : Lookup). Repeats q item.number (answer_of l)) c.in-Ok-New.field-0-is (c.in-Ok-New.ensures.value told dir q alike.number is) in
    new_does dir q item done new (h dir q (subst (λ (d : Dir). AlikeFor item d dir) (sym same) alike) is new))
    (c.apply_counted.ensures.value told)

pub returns-in-Err-clause-sound : goal.returns-in-Err-clause-sound
returns-in-Err-clause-sound g c told dir q alike is = c.in-Err.ensures.sound told dir q alike.number is

pub returns-in-Ok-New-clause-sound : goal.returns-in-Ok-New-clause-sound
returns-in-Ok-New-clause-sound g c told dir q alike is =
    let item = c.args.item.now in
    let same = g.met.F.Files.kept_map c.args.files c.look_up.new.files told c.look_up.ensures.reads.kept in
    c.apply_counted.ensures.sound told dir q (subst (λ (d : Dir). AlikeForAct item.act d dir) (sym same) alike.act) is

pub returns-in-Err-clause-names : goal.returns-in-Err-clause-names
returns-in-Err-clause-names g c =
    let dir = g.F.Files.map c.args.files in
    let item = c.args.item.now in
    let e = c.in-Err.error in
    let failed = c.in-Err.ensures.names in
    record {
      named = on_damaged e (λ name. is_looked_up item.number name ≡ true) (λ name. is_read_by_item item name ≡ true) (λ name l. or_left (is_looked_up item.number name) (is_read_by item.act name) l) failed.named;
      damaged = λ told. on_both e (λ name. is_looked_up item.number name ≡ true) (IsDamagedInList dir) (IsDamagedFor dir item) (λ name l bad. record { damaged = bad; read = inl l }) failed.named (failed.damaged told);
    }

pub returns-in-Ok-New-clause-names : goal.returns-in-Ok-New-clause-names
returns-in-Ok-New-clause-names g c =
    let dir = g.F.Files.map c.args.files in
    let item = c.args.item.now in
    let r = c.apply_counted.result.1 in
    record {
      named = err_damaged r (λ name. is_read_by item.act name ≡ true) (λ name. is_read_by_item item name ≡ true) (λ name e. or_right (is_looked_up item.number name) (is_read_by item.act name) e) c.apply_counted.ensures.names.named;
      damaged = λ told.
          let same = g.met.F.Files.kept_map c.args.files c.look_up.new.files told c.look_up.ensures.reads.kept in
          err_damaged r (IsDamagedForAct dir item.act) (IsDamagedFor dir item) (λ name bad. record { damaged = bad.damaged; read = inr bad.read })
          (subst (λ (d : Dir). IfErr r (λ e. OnDamaged e (IsDamagedForAct d item.act))) same (c.apply_counted.ensures.names.damaged told));
    }

pub returns-in-Ok-Answered-clause-once : goal.returns-in-Ok-Answered-clause-once
returns-in-Ok-Answered-clause-once g c told =
    let dir = g.F.Files.map c.args.files in
    let number = c.args.item.now.number in
    again_once dir number c.in-Ok-Answered.reply c.new.result c.new.ensures (subst (λ (l : Lookup). number ≢ 0 → IsAgain dir number (answer_of l)) c.in-Ok-Answered.field-0-is (c.in-Ok-Answered.ensures.looked told))

pub returns-in-Ok-New-clause-once : goal.returns-in-Ok-New-clause-once
returns-in-Ok-New-clause-once g c told =
    let dir = g.F.Files.map c.args.files in
    let number = c.args.item.now.number in
    let found = subst (λ (l : Lookup). number ≢ 0 → IsAgain dir number (answer_of l)) c.in-Ok-New.field-0-is (c.in-Ok-New.ensures.looked told) in
    IfOk-weaker c.apply_counted.result.1 _ _ (λ done any. new_once dir number done found) c.apply_counted.ensures.files

pub returns-in-Ok-New-clause-asked : goal.returns-in-Ok-New-clause-asked
returns-in-Ok-New-clause-asked g c told =
    let same = g.met.F.Files.kept_map c.args.files c.look_up.new.files told c.look_up.ensures.reads.kept in
    subst (λ (d : Dir). IfOk c.apply_counted.result.1 (λ done. WritesAsAsked d c.args.item.now done.0)) same (c.apply_counted.ensures.asked told)

pub returns-in-Ok-New-clause-found : goal.returns-in-Ok-New-clause-found
returns-in-Ok-New-clause-found g c told =
    let dir = g.F.Files.map c.args.files in
    let item = c.args.item.now in
    let same = g.met.F.Files.kept_map c.args.files c.look_up.new.files told c.look_up.ensures.reads.kept in
    found_then c.apply_counted.result.1 dir (g.F.Files.map c.look_up.new.files) (λ d. FoundNow d item.act) (FoundWhole dir item) same (λ done is. inr is) (c.apply_counted.ensures.found told)

pub returns-in-Ok-Answered-clause-found : goal.returns-in-Ok-Answered-clause-found
returns-in-Ok-Answered-clause-found g c told =
    let dir = g.F.Files.map c.args.files in
    let number = c.args.item.now.number in
    let reply = c.in-Ok-Answered.reply in
    let looked = subst (λ (l : Lookup). number ≢ 0 → IsAgain dir number (answer_of l)) c.in-Ok-Answered.field-0-is (c.in-Ok-Answered.ensures.looked told) in
    let new = subst (λ (l : Lookup). number ≡ 0 → answer_of l ≡ None) c.in-Ok-Answered.field-0-is c.in-Ok-Answered.ensures.counts in
    let some : number ≢ 0 = λ zero. absurd (let bad : Some reply ≡ None = new zero in cc) in
    inl (record { counted = some; reply = reply; again = looked some; says = record { puts = c.new.ensures; is = refl } })

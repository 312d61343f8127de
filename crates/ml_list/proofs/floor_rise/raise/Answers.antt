use Rattle.std.proofs.Common.{◌≡◌, ◌∙◌, ◌*◌, ◌/◌, IfErr, true, refl, sym, ap, subst, arith, rules}
use Rattle.std.proofs.lemmas.Nat.{div_below}
use Rattle.ml_base.specs.Dir.{Dir, touches_only}
use Rattle.ml_plain.specs.Histories.{Kept, from_floor}
use Rattle.ml_plain.specs.KeptFiles.{IsRepliesFile, replies_name, floor_name}
use Rattle.ml_list.specs.Damage.{IsDamagedInList, IsNoReplies, is_read_by, replies, IsNoFloor}
use Rattle.ml_list.specs.Written.{is_up_to}
use Rattle.ml_list.proofs.Damages.{one_named}
use Rattle.ml_base.specs.PartErrors.{OnDamaged}
use Rattle.ml_base.specs.ReadFiles.{NamesDamaged}
use Rattle.ml_list.proofs.Looked.{cut_there, floor_there, floor_whole, replies_whole}
use Rattle.ml_list.proofs.Named.{reads_replies}
use Rattle.ml_plain.specs.declared.Act.TheVariants.{Floor}
use Rattle.ml_list.proofs.Steps.{raise_refused, raise_stays, raise_rises}
use Rattle.ml_list.proofs.Written.{rise_written}
use Rattle.ml_list.proofs.floor_rise.raise.Goals as goal

pub returns-then-not-may_rise-clause-value : goal.returns-then-not-may_rise-clause-value
returns-then-not-may_rise-clause-value g c told dir q alike is =
    raise_refused dir q c.args.number c.args.at c.in_ok-floor.floor is (floor_there (g.F.Files.map c.args.files.now) dir c.args.at alike c.in_ok-floor.floor (c.in_ok-floor.ensures.value told)) (c.new.result, c.plain.result)
    (sym c.may_rise.ensures ∙ c.if-not-may_rise.true) c.new.ensures c.plain.ensures

pub returns-then-at-floor-clause-value : goal.returns-then-at-floor-clause-value
returns-then-at-floor-clause-value g c told dir q alike is =
    raise_stays dir q c.args.number c.args.at c.in_ok-floor.floor is (floor_there (g.F.Files.map c.args.files.now) dir c.args.at alike c.in_ok-floor.floor (c.in_ok-floor.ensures.value told)) (c.new-then-at-floor.result, c.floored.result)
    (sym c.may_rise.ensures ∙ c.if-not-may_rise.false) c.if-at-floor.true c.new-then-at-floor.ensures c.floored.ensures

pub returns-in_err-txn-clause-names : goal.returns-in_err-txn-clause-names
returns-in_err-txn-clause-names g c =
    let dir = g.F.Files.map c.args.files.now in
    let at = c.args.at in
    let most = c.requires.most in
    let block = div_below at 512 1_953_125_000 (omega arith) (omega (arith, most)) in
    let names = one_named g.F.Files (λ name. is_read_by (Floor at) name ≡ true) _ (replies_name (at / 512)) (IsNoReplies (g.F.Files.map c.floor_of.new.files) (at / 512)) (IsDamagedInList dir) (reads_replies at)
    (λ told none. replies (at / 512) block refl (subst (λ (d : Dir). IsNoReplies d (at / 512)) (g.met.F.Files.kept_map c.args.files.now c.floor_of.new.files told c.floor_of.ensures.reads.kept) none)) c.in_err-txn.ensures.names in
    search rules

pub returns-clause-value : goal.returns-clause-value
returns-clause-value g c told dir q alike is =
    let old = g.F.Files.map c.args.files.now in
    let at = c.args.at in
    let most = c.requires.most in
    let same = g.met.F.Files.kept_map c.args.files.now c.floor_of.new.files told c.floor_of.ensures.reads.kept in
    let rise = c.in_ok-txn.ensures.value told in
    let left = subst (λ (d : Dir). (kept : Kept) → IsRepliesFile (512 * (at / 512)) (d (replies_name (at / 512))) kept → IsRepliesFile (512 * (at / 512)) rise.0 (from_floor at kept)) same rise.2 in
    raise_rises dir q c.args.number at c.in_ok-floor.floor is (floor_there old dir at alike c.in_ok-floor.floor (c.in_ok-floor.ensures.value told)) (c.in_ok-txn.txn, c.floored-2.result) rise.0
    (sym c.may_rise.ensures ∙ c.if-not-may_rise.false) c.if-at-floor.false most (div_below at 512 1_953_125_000 (omega arith) (omega (arith, most))) rise.1 c.floored-2.ensures
    (λ kept file. left kept (cut_there old dir at alike kept file))

pub returns-in_err-floor-clause-sound : goal.returns-in_err-floor-clause-sound
returns-in_err-floor-clause-sound g c told dir q alike is =
    let old = g.F.Files.map c.args.files.now in
    let names : NamesDamaged g.F.Files (λ name. name ≡ floor_name) (λ _. IsNoFloor old) c.from_residual.result = search rules in
    floor_whole old dir c.args.at alike q c.from_residual.result is (names.damaged told)

pub returns-in_err-txn-clause-sound : goal.returns-in_err-txn-clause-sound
returns-in_err-txn-clause-sound g c told dir q alike is =
    let old = g.F.Files.map c.args.files.now in
    let at = c.args.at in
    let most = c.requires.most in
    let same = g.met.F.Files.kept_map c.args.files.now c.floor_of.new.files told c.floor_of.ensures.reads.kept in
    let r = c.from_residual-in_err-txn.result in
    let names : NamesDamaged g.F.Files (λ name. name ≡ replies_name (at / 512)) (λ _. IsNoReplies (g.F.Files.map c.floor_of.new.files) (at / 512)) r = search rules in
    replies_whole old dir at alike q r is (div_below at 512 1_953_125_000 (omega arith) (omega (arith, most))) (subst (λ (d : Dir). IfErr r (λ e. OnDamaged e (λ _. IsNoReplies d (at / 512)))) same (names.damaged told))

pub returns-clause-written : goal.returns-clause-written
returns-clause-written g c told =
    let rise = c.in_ok-txn.ensures.value told in
    ap (touches_only (is_up_to (c.args.at / 512))) rise.1 ∙ rise_written c.in_ok-floor.floor c.args.at rise.0 c.if-at-floor.false

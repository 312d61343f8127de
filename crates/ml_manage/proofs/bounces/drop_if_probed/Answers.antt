use Rattle.std.proofs.Common.{◌≡◌, true, rules, sym, ◌∙◌, inl, inr, ◌⊎◌}
use Rattle.std.specs.Prelude.{◌||◌}
use Rattle.std.proofs.lemmas.Bool.{or_right}
use Rattle.ml_base.specs.Address.{key}
use Rattle.ml_bounce.specs.Answers.{IsNoFile}
use Rattle.ml_bounce.specs.Changes.{probe_failed}
use Rattle.ml_plain.specs.Answers.{ignored}
use Rattle.ml_plain.specs.Plain.{ledger_of}
use Rattle.ml_subs.specs.Subscribers.{is_touched}
use Rattle.ml_acts.specs.Doing.{is_entry_of, is_left_by}
use Rattle.ml_acts.proofs.Damages.{entry_named, ok_then}
use Rattle.ml_manage.proofs.Bounced.{dropped_so, ledger_is, mailed_ledger, spared}
use Rattle.ml_acts.proofs.Found.{found_then}
use Rattle.ml_acts.specs.Found.{Says}
use Rattle.ml_manage.specs.Found.{FoundToDrop, TellsLedger}
use Rattle.ml_manage.proofs.Apart.{kept_alike, left_last}
use Rattle.ml_acts.proofs.SetsApart.{entry_spared, entry_there}
use Rattle.ml_base.specs.PartErrors.{OnDamaged}
use Rattle.ml_base.proofs.DamagedNames.{on_damaged}
use Rattle.ml_bounce.specs.Files.{bucket_of}
use Rattle.ml_manage.proofs.bounces.drop_if_probed.Goals as goal

pub is_probed_at-requires : goal.is_probed_at-requires
is_probed_at-requires g c = mailed_ledger c.args.set c.requires

pub returns-in_err-is_probed-clause-act : goal.returns-in_err-is_probed-clause-act
returns-in_err-is_probed-clause-act g c =
    let set = c.args.set in
    let x = c.args.x.now in
    let names = entry_named g.F.Files (λ name. (is_touched set (key x) name || is_entry_of set x name) ≡ true) _ (g.F.Files.map c.args.files.now) set x (mailed_ledger set c.requires)
    (λ name e. or_right (is_touched set (key x) name) (is_entry_of set x name) e) c.in_err-is_probed.ensures.names in
    search rules

pub returns-then-not-is_probed-clause-found : goal.returns-then-not-is_probed-clause-found
returns-then-not-is_probed-clause-found g c told =
    let read = c.in_ok-is_probed.ensures.read told in
    ((read.0, read.1), inl (record { puts = c.new.ensures; is = c.plain.ensures }))

pub returns-clause-found : goal.returns-clause-found
returns-clause-found g c told =
    let dir = g.F.Files.map c.args.files.now in
    let set = c.args.set in
    let k = key c.args.x.now in
    let read = c.in_ok-is_probed.ensures.read told in
    let same = g.met.F.Files.kept_map c.args.files.now c.is_probed_at.new.files told c.is_probed_at.ensures.reads.kept in
    found_then c.drop_member.result dir (g.F.Files.map c.is_probed_at.new.files) (λ d. FoundToDrop d set k) (λ done. TellsLedger dir set k × (Says ignored done ⊎ FoundToDrop dir set k done)) same
    (λ done is. ((read.0, read.1), inr is)) (c.drop_member.ensures.found told)

pub returns-then-not-is_probed-clause-apart : goal.returns-then-not-is_probed-clause-apart
returns-then-not-is_probed-clause-apart g c told dir p alike is member =
    let old = g.F.Files.map c.args.files.now in
    let set = c.args.set in
    let x = c.args.x.now in
    let failed = probe_failed (key x) c.args.time (ledger_of p set) in
    let leads = c.in_ok-is_probed.ensures.value told dir (ledger_of p set) (entry_there set x old dir (mailed_ledger set c.requires) (left_last old dir set x alike)) (ledger_is dir p set c.requires is) in
    spared dir p x (c.new.result, c.plain.result) set failed is (sym leads ∙ c.if-not-is_probed.true) c.new.ensures c.plain.ensures

pub returns-clause-apart : goal.returns-clause-apart
returns-clause-apart g c told =
    let old = g.F.Files.map c.args.files.now in
    let set = c.args.set in
    let x = c.args.x.now in
    let same = g.met.F.Files.kept_map c.args.files.now c.is_probed_at.new.files told c.is_probed_at.ensures.reads.kept in
    ok_then c.drop_member.result
    (λ done does dir p alike is member.
    let failed = probe_failed (key x) c.args.time (ledger_of p set) in
    let leads = c.in_ok-is_probed.ensures.value told dir (ledger_of p set) (entry_there set x old dir (mailed_ledger set c.requires) (left_last old dir set x alike)) (ledger_is dir p set c.requires is) in
    dropped_so dir p x done set failed (sym leads ∙ c.if-not-is_probed.false)
    (does dir p (kept_alike (is_left_by set x) old (g.F.Files.map c.is_probed_at.new.files) dir same alike) is member))
    (c.drop_member.ensures.apart told)

pub returns-in_err-is_probed-clause-spared : goal.returns-in_err-is_probed-clause-spared
returns-in_err-is_probed-clause-spared g c told dir p alike is =
    let old = g.F.Files.map c.args.files.now in
    let set = c.args.set in
    let x = c.args.x.now in
    let e = c.in_err-is_probed.field-0.0 in
    let none : OnDamaged e (λ _. ⊥) =
    on_damaged e (λ _. IsNoFile old set (bucket_of (key x))) (λ _. ⊥) (λ name bad. entry_spared set x old dir p (mailed_ledger set c.requires) (left_last old dir set x alike) is bad) (c.in_err-is_probed.ensures.names.damaged told) in
    search rules

pub returns-clause-spared : goal.returns-clause-spared
returns-clause-spared g c told dir p alike is =
    let old = g.F.Files.map c.args.files.now in
    let set = c.args.set in
    let x = c.args.x.now in
    let same = g.met.F.Files.kept_map c.args.files.now c.is_probed_at.new.files told c.is_probed_at.ensures.reads.kept in
    c.drop_member.ensures.spared told dir p (kept_alike (is_left_by set x) old (g.F.Files.map c.is_probed_at.new.files) dir same alike) is

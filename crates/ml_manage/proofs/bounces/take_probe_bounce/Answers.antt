use Rattle.std.proofs.Common.{◌≡◌, ◌∙◌, true, sym, subst, false, ◌⊎◌, rules}
use Rattle.std.specs.Prelude.{◌&&◌, codes}
use Rattle.std.proofs.lemmas.Bool.{and_parts}
use Rattle.ml_base.specs.Address.{key}
use Rattle.ml_bounce.specs.Changes.{probe_failed}
use Rattle.ml_plain.specs.Mailing.{is_good}
use Rattle.ml_plain.specs.Plain.{is_in, ledger_of}
use Rattle.ml_acts.specs.Doing.{is_left_by}
use Rattle.ml_manage.proofs.Bounced.{not_dropped, was_dropped}
use Rattle.ml_acts.proofs.Found.{found_then}
use Rattle.ml_acts.specs.Found.{Says, TellsKeys}
use Rattle.ml_manage.specs.Found.{FoundToProbe, FoundToDrop, IfMember, TellsLedger}
use Rattle.ml_plain.specs.Answers as answers
use Rattle.ml_manage.proofs.Apart.{kept_alike, probe_left, probe_signed}
use Rattle.ml_acts.proofs.Damages.{ok_then}
use Rattle.ml_manage.proofs.Spared.{signed_none}
use Rattle.ml_acts.specs.Damaged.{IsDamaged}
use Rattle.ml_base.specs.PartErrors.{OnDamaged}
use Rattle.ml_base.proofs.DamagedNames.{on_both}
use Rattle.ml_manage.specs.Reads.{is_of_signed}
use Rattle.ml_manage.proofs.bounces.take_probe_bounce.Goals as goal

pub returns-then-not-branch-clause-found : goal.returns-then-not-branch-clause-found
returns-then-not-branch-clause-found g c told =
    let dir = g.F.Files.map c.args.files.now in
    record {
      counts = false;
      tells = subst (IfMember dir c.args.set (key c.args.x.now) (TellsKeys dir)) c.if-not-branch.true (c.in_ok-is_signed.ensures.found told);
      follows = record { puts = c.new.ensures; is = c.plain.ensures };
    }

pub returns-clause-found : goal.returns-clause-found
returns-clause-found g c told =
    let dir = g.F.Files.map c.args.files.now in
    let set = c.args.set in
    let k = key c.args.x.now in
    let same = g.met.F.Files.kept_map c.args.files.now c.is_signed.new.files told c.is_signed.ensures.reads.kept in
    found_then c.drop_if_probed.result dir (g.F.Files.map c.is_signed.new.files) (λ d done. TellsLedger d set k × (Says answers.ignored done ⊎ FoundToDrop d set k done)) (FoundToProbe dir set k) same
    (λ done is. record { counts = true; tells = subst (IfMember dir set k (TellsKeys dir)) c.if-not-branch.false (c.in_ok-is_signed.ensures.found told); follows = is }) (c.drop_if_probed.ensures.found told)

pub returns-then-not-branch-clause-apart : goal.returns-then-not-branch-clause-apart
returns-then-not-branch-clause-apart g c told dir p alike is =
    let set = c.args.set in
    let x = c.args.x.now in
    not_dropped dir p set (c.new.result, c.plain.result) (is_in p set x && is_good p (codes "probe") set c.args.time (key x) c.args.letters.now c.args.now) (probe_failed (key x) c.args.time (ledger_of p set)) x is
    (sym (c.in_ok-is_signed.ensures.apart told dir p (probe_signed (g.F.Files.map c.args.files.now) dir set x alike) is) ∙ c.if-not-branch.true) c.new.ensures c.plain.ensures

pub returns-clause-apart : goal.returns-clause-apart
returns-clause-apart g c told =
    let old = g.F.Files.map c.args.files.now in
    let set = c.args.set in
    let x = c.args.x.now in
    let same = g.met.F.Files.kept_map c.args.files.now c.is_signed.new.files told c.is_signed.ensures.reads.kept in
    ok_then c.drop_if_probed.result
    (λ done does dir p alike is.
    let counts = is_in p set x && is_good p (codes "probe") set c.args.time (key x) c.args.letters.now c.args.now in
    let yes : counts ≡ true = sym (c.in_ok-is_signed.ensures.apart told dir p (probe_signed old dir set x alike) is) ∙ c.if-not-branch.false in
    was_dropped dir p set done counts (probe_failed (key x) c.args.time (ledger_of p set)) x yes
    (does dir p (kept_alike (is_left_by set x) old (g.F.Files.map c.is_signed.new.files) dir same (probe_left old dir set x alike)) is (and_parts _ _ yes).0))
    (c.drop_if_probed.ensures.apart told)

pub returns-in_err-is_signed-clause-spared : goal.returns-in_err-is_signed-clause-spared
returns-in_err-is_signed-clause-spared g c told dir p alike is =
    let old = g.F.Files.map c.args.files.now in
    let set = c.args.set in
    let x = c.args.x.now in
    let e = c.in_err-is_signed.field-0.0 in
    let names = c.in_err-is_signed.ensures.names in
    let none : OnDamaged e (λ _. ⊥) =
    on_both e (λ name. is_of_signed set x name ≡ true) (IsDamaged old) (λ _. ⊥) (λ name own bad. signed_none old dir p is set x name own (probe_signed old dir set x alike name own) bad) names.named (names.damaged told) in
    search rules

pub returns-clause-spared : goal.returns-clause-spared
returns-clause-spared g c told dir p alike is =
    let old = g.F.Files.map c.args.files.now in
    let set = c.args.set in
    let x = c.args.x.now in
    let same = g.met.F.Files.kept_map c.args.files.now c.is_signed.new.files told c.is_signed.ensures.reads.kept in
    c.drop_if_probed.ensures.spared told dir p (kept_alike (is_left_by set x) old (g.F.Files.map c.is_signed.new.files) dir same (probe_left old dir set x alike)) is

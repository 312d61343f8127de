use Rattle.std.proofs.Common.{◌∙◌, sym, subst, true, false}
use Rattle.std.specs.Prelude.{◌&&◌, codes}
use Rattle.ml_base.specs.Address.{key}
use Rattle.ml_bounce.specs.Changes.{warn_failed}
use Rattle.ml_plain.specs.Mailing.{is_good}
use Rattle.ml_plain.specs.Plain.{is_in, ledger_of}
use Rattle.ml_acts.specs.Doing.{is_entry_of}
use Rattle.ml_manage.proofs.Bounced.{not_noted, noted}
use Rattle.ml_acts.proofs.Found.{found_then}
use Rattle.ml_acts.specs.Found.{TellsKeys}
use Rattle.ml_manage.specs.Found.{FoundToWarn, IfMember, TellsLedger}
use Rattle.ml_manage.proofs.Apart.{kept_alike, warning_entry, warning_signed}
use Rattle.ml_acts.proofs.Damages.{ok_then}
use Rattle.ml_manage.proofs.bounces.take_warning_bounce.Goals as goal

pub returns-then-not-branch-clause-found : goal.returns-then-not-branch-clause-found
returns-then-not-branch-clause-found g c told =
    let dir = g.F.Files.map c.args.files.now in
    record {
      counts = false;
      tells = subst (IfMember dir c.args.set (key c.args.x.now) (TellsKeys dir)) c.if-not-branch.true (c.in_ok-is_signed.ensures.found told);
      follows = record { puts = c.new.ensures; is = c.plain.ensures };
    }

pub returns-clause-found : goal.returns-clause-found
returns-clause-found g c told =
    let dir = g.F.Files.map c.args.files.now in
    let set = c.args.set in
    let k = key c.args.x.now in
    let same = g.met.F.Files.kept_map c.args.files.now c.is_signed.new.files told c.is_signed.ensures.reads.kept in
    found_then c.note_failed_warning.result dir (g.F.Files.map c.is_signed.new.files) (λ d done. TellsLedger d set k) (FoundToWarn dir set k) same
    (λ done is. record { counts = true; tells = subst (IfMember dir set k (TellsKeys dir)) c.if-not-branch.false (c.in_ok-is_signed.ensures.found told); follows = is }) (c.note_failed_warning.ensures.found told)

pub returns-then-not-branch-clause-apart : goal.returns-then-not-branch-clause-apart
returns-then-not-branch-clause-apart g c told dir p alike is =
    let set = c.args.set in
    let x = c.args.x.now in
    not_noted dir p set (c.new.result, c.plain.result) (is_in p set x && is_good p (codes "warn") set c.args.time (key x) c.args.letters.now c.args.now.seconds) (warn_failed (key x) c.args.time c.args.now.seconds (ledger_of p set)) is
    (sym (c.in_ok-is_signed.ensures.apart told dir p (warning_signed (g.F.Files.map c.args.files.now) dir set x alike) is) ∙ c.if-not-branch.true) c.new.ensures c.plain.ensures

pub returns-clause-apart : goal.returns-clause-apart
returns-clause-apart g c told =
    let old = g.F.Files.map c.args.files.now in
    let set = c.args.set in
    let x = c.args.x.now in
    let same = g.met.F.Files.kept_map c.args.files.now c.is_signed.new.files told c.is_signed.ensures.reads.kept in
    ok_then c.note_failed_warning.result
    (λ done does dir p alike is. noted dir p set done (is_in p set x && is_good p (codes "warn") set c.args.time (key x) c.args.letters.now c.args.now.seconds) (warn_failed (key x) c.args.time c.args.now.seconds (ledger_of p set))
    (sym (c.in_ok-is_signed.ensures.apart told dir p (warning_signed old dir set x alike) is) ∙ c.if-not-branch.false)
    (does dir p (kept_alike (is_entry_of set x) old (g.F.Files.map c.is_signed.new.files) dir same (warning_entry old dir set x alike)) is))
    (c.note_failed_warning.ensures.apart told)

use Rattle.std.proofs.Common.{◌||◌, ◌∙◌, sym, subst, false, true, ◌≡◌, rules}
use Rattle.std.proofs.lemmas.Bool.{or_right}
use Rattle.std.specs.Prelude.{◌&&◌}
use Rattle.ml_base.specs.Address.{key}
use Rattle.ml_bounce.specs.Changes.{note}
use Rattle.ml_plain.specs.Bouncing.{is_used}
use Rattle.ml_plain.specs.Plain.{is_in, ledger_of}
use Rattle.ml_acts.specs.Asked.{Count}
use Rattle.ml_acts.specs.Doing.{is_bucket_of, is_entry_of}
use Rattle.ml_acts.proofs.Asked.{entry_other}
use Rattle.ml_acts.proofs.OfActs.{act_beside}
use Rattle.ml_manage.specs.Reads.{is_counted_in}
use Rattle.ml_manage.proofs.Bounced.{not_noted, noted}
use Rattle.ml_base.proofs.ReadingLemmas.{kept_read}
use Rattle.ml_acts.proofs.Found.{found_then}
use Rattle.ml_manage.specs.Found.{FoundToNote, IfMember, TellsLedger, TellsUsed}
use Rattle.ml_manage.proofs.Apart.{bounce_entry, kept_alike}
use Rattle.ml_acts.proofs.Damages.{ok_then}
use Rattle.ml_manage.proofs.Spared.{entry_none, none_after}
use Rattle.ml_acts.specs.Damaged.{IsDamaged}
use Rattle.ml_base.specs.PartErrors.{OnDamaged}
use Rattle.ml_manage.proofs.bounces.take_bounce.Goals as goal

pub returns-clause-act : goal.returns-clause-act
returns-clause-act g c =
    let set = c.args.set in
    let x = c.args.x.now in
    let first = c.args.files.now in
    let second = c.was_mailed.new.files in
    let kept = kept_read g.F.Files first second c.was_mailed.result c.was_mailed.ensures.reads in
    act_beside g.F.Files Count g.met.F.Files.kept_then kept (λ told. g.met.F.Files.kept_map first second told kept.kept)
    (λ name e. or_right (is_bucket_of set x name || is_counted_in set name) (is_entry_of set x name) e) (λ name e of. entry_other name set x e of) c.note_number.ensures.act

pub returns-then-not-branch-clause-found : goal.returns-then-not-branch-clause-found
returns-then-not-branch-clause-found g c told =
    let dir = g.F.Files.map c.args.files.now in
    record {
      counts = false;
      tells = subst (IfMember dir c.args.set (key c.args.x.now) (TellsUsed dir c.args.set)) c.if-not-branch.true (c.in_ok-was_mailed.ensures.found told);
      follows = record { puts = c.new.ensures; is = c.plain.ensures };
    }

pub returns-clause-found : goal.returns-clause-found
returns-clause-found g c told =
    let dir = g.F.Files.map c.args.files.now in
    let set = c.args.set in
    let k = key c.args.x.now in
    let same = g.met.F.Files.kept_map c.args.files.now c.was_mailed.new.files told c.was_mailed.ensures.reads.kept in
    found_then c.note_number.result dir (g.F.Files.map c.was_mailed.new.files) (λ d done. TellsLedger d set k) (FoundToNote dir set k) same
    (λ done is. record { counts = true; tells = subst (IfMember dir set k (TellsUsed dir c.args.set)) c.if-not-branch.false (c.in_ok-was_mailed.ensures.found told); follows = is }) (c.note_number.ensures.found told)

pub returns-then-not-branch-clause-apart : goal.returns-then-not-branch-clause-apart
returns-then-not-branch-clause-apart g c told dir p alike is =
    let set = c.args.set in
    let x = c.args.x.now in
    not_noted dir p set (c.new.result, c.plain.result) (is_in p set x && is_used p set c.args.number) (note (key x) c.args.number c.args.now.seconds (ledger_of p set)) is
    (sym (c.in_ok-was_mailed.ensures.apart told dir p alike is) ∙ c.if-not-branch.true) c.new.ensures c.plain.ensures

pub returns-clause-apart : goal.returns-clause-apart
returns-clause-apart g c told =
    let old = g.F.Files.map c.args.files.now in
    let set = c.args.set in
    let x = c.args.x.now in
    let same = g.met.F.Files.kept_map c.args.files.now c.was_mailed.new.files told c.was_mailed.ensures.reads.kept in
    ok_then c.note_number.result
    (λ done does dir p alike is. noted dir p set done (is_in p set x && is_used p set c.args.number) (note (key x) c.args.number c.args.now.seconds (ledger_of p set))
    (sym (c.in_ok-was_mailed.ensures.apart told dir p alike is) ∙ c.if-not-branch.false)
    (does dir p (kept_alike (is_entry_of set x) old (g.F.Files.map c.was_mailed.new.files) dir same (bounce_entry old dir set x alike)) is))
    (c.note_number.ensures.apart told)

pub returns-clause-spared : goal.returns-clause-spared
returns-clause-spared g c told dir p alike is =
    let old = g.F.Files.map c.args.files.now in
    let set = c.args.set in
    let x = c.args.x.now in
    let same = g.met.F.Files.kept_map c.args.files.now c.was_mailed.new.files told c.was_mailed.ensures.reads.kept in
    none_after g.F.Files c.note_number.result (λ name. is_entry_of set x name ≡ true) IsDamaged old (g.F.Files.map c.was_mailed.new.files) told same
    (λ name e bad. entry_none old dir p is set x name e (bounce_entry old dir set x alike name e) bad) c.note_number.ensures.act.names

pub returns-in_err-was_mailed-clause-spared : goal.returns-in_err-was_mailed-clause-spared
returns-in_err-was_mailed-clause-spared g c told dir p alike is =
    let none : OnDamaged c.in_err-was_mailed.field-0.0 (λ _. ⊥) = c.in_err-was_mailed.ensures.spared told dir p alike is in
    search rules

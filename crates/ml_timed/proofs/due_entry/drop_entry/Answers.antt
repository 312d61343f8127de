use Rattle.std.proofs.Common.{◌≡◌, true}
use Rattle.ml_base.specs.Address.{key}
use Rattle.ml_base.proofs.DamagedNames.{ok_both}
use Rattle.ml_bounce.specs.Ledger.{forget}
use Rattle.ml_plain.specs.Plain.{ledger_of}
use Rattle.ml_acts.specs.Doing.{is_entry_of}
use Rattle.ml_timed.specs.Found.{is_followed_up}
use Rattle.ml_acts.specs.Spelled.{AreSpelled}
use Rattle.ml_acts.proofs.Damages.{entry_named, ok_then}
use Rattle.ml_acts.proofs.Queued.{touches_weaker}
use Rattle.ml_acts.proofs.SetsApart.{entry_there}
use Rattle.ml_timed.proofs.Changed.{draws_none, file_timed, is_key_file, ledger_changed, ledger_there}
use Rattle.ml_timed.proofs.Written.{forgotten_spelled}
use Rattle.ml_timed.proofs.due_entry.drop_entry.Goals as goal

pub returns-clause-apart : goal.returns-clause-apart
returns-clause-apart g c tells =
    let old = g.F.Files.map c.args.files.now in
    let set = c.args.set in
    let k = key c.args.who.now in
    ok_both c.forget.result _ _ _
    (λ txn value only dir p alike is.
    ledger_changed dir set k p txn (forget k (ledger_of p set)) c.requires.ledger is only
    (value dir (ledger_of p set) (entry_there set c.args.who.now old dir c.requires.ledger alike) (ledger_there dir set p c.requires.ledger is)))
    (c.forget.ensures.value tells) c.forget.ensures.others

pub returns-clause-own : goal.returns-clause-own
returns-clause-own g c =
    ok_then c.forget.result
    (λ txn only. touches_weaker (is_key_file c.args.set (key c.args.who.now)) is_followed_up txn (file_timed c.args.set (key c.args.who.now) c.requires.ledger) only) c.forget.ensures.others

pub returns-clause-drawn : goal.returns-clause-drawn
returns-clause-drawn g c told =
    let dir = g.F.Files.map c.args.files.now in
    let set = c.args.set in
    let k = key c.args.who.now in
    let spelled = ok_both c.forget.result _ _ (λ txn. AreSpelled dir txn) (λ txn read leads. forgotten_spelled dir set k read.0 read.1 txn c.requires.ledger read.2 leads) (c.forget.ensures.read told) (c.forget.ensures.value told) in
    ok_both c.forget.result _ _ _ (λ txn is only. draws_none dir set k txn c.requires.ledger only is) spelled c.forget.ensures.others

pub returns-clause-names : goal.returns-clause-names
returns-clause-names g c =
    entry_named g.F.Files (λ name. is_entry_of c.args.set c.args.who.now name ≡ true) c.forget.result (g.F.Files.map c.args.files.now) c.args.set c.args.who.now c.requires.ledger (λ name e. e) c.forget.ensures.names

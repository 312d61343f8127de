use Rattle.std.proofs.Common.{◌≡◌, true, rules}
use Rattle.ml_base.specs.Address.{key}
use Rattle.ml_bounce.specs.Changes.{note}
use Rattle.ml_plain.specs.Plain.{ledger_of}
use Rattle.ml_acts.specs.Doing.{is_entry_of}
use Rattle.ml_acts.proofs.Damages.{entry_named}
use Rattle.ml_manage.proofs.Bounced.{change_kept, changed_list, changed_own, ledger_is, mailed_ledger}
use Rattle.ml_acts.proofs.SetsApart.{entry_there}
use Rattle.ml_manage.proofs.bounces.note_number.Goals as goal

pub note-requires-clause-ledger : goal.note-requires-clause-ledger
note-requires-clause-ledger g c = mailed_ledger c.args.set c.requires.mailed

pub returns-in_err-answer-clause-act : goal.returns-in_err-answer-clause-act
returns-in_err-answer-clause-act g c =
    let set = c.args.set in
    let x = c.args.x.now in
    let names = entry_named g.F.Files (λ name. is_entry_of set x name ≡ true) _ (g.F.Files.map c.args.files.now) set x (mailed_ledger set c.requires.mailed) (λ name e. e) c.in_err-answer.ensures.names in
    search rules

pub returns-clause-act : goal.returns-clause-act
returns-clause-act g c =
    let own = changed_own c.args.set c.args.x.now c.in_ok-answer.answer c.changed.result.0 c.requires.mailed c.in_ok-answer.ensures.others c.changed.ensures.puts in
    let reply = change_kept c.in_ok-answer.answer c.changed.result.1 c.changed.ensures.reply in
    search rules

pub returns-clause-found : goal.returns-clause-found
returns-clause-found g c told = let read = c.in_ok-answer.ensures.read told in (read.0, read.1)

pub returns-clause-apart : goal.returns-clause-apart
returns-clause-apart g c told dir p alike is =
    let old = g.F.Files.map c.args.files.now in
    let set = c.args.set in
    let x = c.args.x.now in
    let mailed = c.requires.mailed in
    changed_list dir p x c.changed.result set c.in_ok-answer.answer (note (key x) c.args.number c.args.now.seconds (ledger_of p set)) mailed is
    (c.in_ok-answer.ensures.value told dir (ledger_of p set) (entry_there set x old dir (mailed_ledger set mailed) alike) (ledger_is dir p set mailed is)) c.in_ok-answer.ensures.others c.changed.ensures.puts c.changed.ensures.reply

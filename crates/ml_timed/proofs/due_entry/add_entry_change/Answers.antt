use Rattle.std.proofs.Common.{◌≡◌, ◌∙◌, true, rules}
use Rattle.ml_base.specs.Address.{key}
use Rattle.ml_bounce.specs.Answers.{action_key}
use Rattle.ml_acts.specs.Doing.{is_entry_of}
use Rattle.ml_acts.proofs.Damages.{entry_named}
use Rattle.ml_acts.proofs.SetsApart.{entry_there}
use Rattle.ml_timed.proofs.Changed.{both_changed, both_drawn, both_timed}
use Rattle.ml_timed.proofs.Written.{acted_spelled}
use Rattle.ml_timed.proofs.due_entry.add_entry_change.Goals as goal

pub returns-in_err-more-clause-names : goal.returns-in_err-more-clause-names
returns-in_err-more-clause-names g c =
    let who = action_key c.args.action.now in
    let names = entry_named g.F.Files (λ name. is_entry_of c.args.set who name ≡ true) _ (g.F.Files.map c.args.files.now) c.args.set who c.requires.ledger (λ name e. e) c.in_err-more.ensures.names in
    search rules

pub returns-clause-apart : goal.returns-clause-apart
returns-clause-apart g c tells dir p e alike is found =
    let old = g.F.Files.map c.args.files.now in
    both_changed dir c.args.set (key (action_key c.args.action.now)) c.args.txn c.in_ok-more.more c.join.new.self c.requires.ledger c.requires.queue
    c.in_ok-more.ensures.others c.in_ok-join.ensures.ok c.args.now.seconds e p is found
    (λ other ledger f same. c.in_ok-more.ensures.value tells other ledger f (same ∙ entry_there c.args.set (action_key c.args.action.now) old dir c.requires.ledger alike))

pub returns-clause-own : goal.returns-clause-own
returns-clause-own g c =
    both_timed (g.F.Files.map c.args.files.now) c.args.set (key (action_key c.args.action.now)) c.args.txn c.in_ok-more.more c.join.new.self c.requires.ledger c.requires.queue
    c.in_ok-more.ensures.others c.in_ok-join.ensures.ok

pub returns-clause-drawn : goal.returns-clause-drawn
returns-clause-drawn g c told draws =
    let dir = g.F.Files.map c.args.files.now in
    let k = key (action_key c.args.action.now) in
    let read = c.in_ok-more.ensures.read told in
    both_drawn dir c.args.set k c.args.txn c.in_ok-more.more c.join.new.self c.requires.ledger c.requires.queue c.in_ok-more.ensures.others c.in_ok-join.ensures.ok draws
    (acted_spelled dir c.args.set k read.0 read.1 c.args.now.seconds c.in_ok-more.more c.requires.ledger read.2 (c.in_ok-more.ensures.value told))

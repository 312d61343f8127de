use Rattle.std.proofs.Common.{◌≡◌, true, List, Option, refl, subst, rules, Some, None}
use Rattle.ml_base.specs.Dir.{touches_only}
use Rattle.ml_base.specs.declared.puts.Put.{Put}
use Rattle.ml_drawn.specs.Names.{is_of_series}
use Rattle.ml_drawn.specs.declared.series.Series.TheVariants.{Ids}
use Rattle.ml_queue.specs.Answers.{IsSent, SendsBy, puts_of}
use Rattle.ml_acts.proofs.Queued.{queue_beside, queue_own, touches_weaker}
use Rattle.ml_acts.specs.Doing.{is_beside_mark, is_of_queue}
use Rattle.ml_list.proofs.Delivered.{not_there, sent_away}
use Rattle.ml_list.proofs.Looked.{queue_there, sent_there}
use Rattle.ml_list.proofs.Written.{taken_written}
use Rattle.ml_list.proofs.sent_reports.sent_entry.Goals as goal

pub returns-in-Some-clause-value : goal.returns-in-Some-clause-value
returns-in-Some-clause-value g c told dir p alike is =
    let old = g.F.Files.map c.args.files.now in
    let there = sent_there old dir p.queue c.args.id _ alike (c.in_ok-txn.ensures.value told p.queue (queue_there old dir p.queue alike is.queue)) in
    let gone = subst (λ (o : Option (List Put)). IsSent dir p.queue c.args.id o) c.in-Some.is there in
    let only = subst (λ (o : Option (List Put)). touches_only (is_of_series Ids) (puts_of o) ≡ true) c.in-Some.is c.in_ok-txn.ensures.others in
    sent_away dir p c.args.id c.in-Some.txn (c.in-Some.txn, c.plain.result) is gone only refl c.plain.ensures

pub returns-in-Some-clause-act : goal.returns-in-Some-clause-act
returns-in-Some-clause-act g c =
    let only = subst (λ (o : Option (List Put)). touches_only (is_of_series Ids) (puts_of o) ≡ true) c.in-Some.is c.in_ok-txn.ensures.others in
    let own = touches_weaker is_of_queue is_beside_mark c.in-Some.txn queue_beside (queue_own c.in-Some.txn only) in
    search rules

pub returns-in-None-clause-value : goal.returns-in-None-clause-value
returns-in-None-clause-value g c told dir p alike is =
    let old = g.F.Files.map c.args.files.now in
    let there = sent_there old dir p.queue c.args.id _ alike (c.in_ok-txn.ensures.value told p.queue (queue_there old dir p.queue alike is.queue)) in
    let none = subst (λ (o : Option (List Put)). IsSent dir p.queue c.args.id o) c.in-None.is there in
    not_there dir p c.args.id (c.new.result, c.plain-in-None.result) is none c.new.ensures c.plain-in-None.ensures

pub returns-in_err-txn-clause-sound : goal.returns-in_err-txn-clause-sound
returns-in_err-txn-clause-sound g c told dir p alike is =
    let sound = c.in_err-txn.ensures.sound told p.queue (queue_there (g.F.Files.map c.args.files.now) dir p.queue alike is.queue) in
    search rules

pub returns-in-Some-clause-written : goal.returns-in-Some-clause-written
returns-in-Some-clause-written g c told =
    let dir = g.F.Files.map c.args.files.now in
    let sends = subst (λ (o : Option (List Put)). SendsBy dir c.args.id o) c.in-Some.is (c.in_ok-txn.ensures.read told) in
    taken_written dir c.args.id c.in-Some.txn sends.2

pub returns-in-Some-clause-found : goal.returns-in-Some-clause-found
returns-in-Some-clause-found g c told = record {
  answer = Some c.in-Some.txn;
  found = subst (λ (o : Option (List Put)). SendsBy (g.F.Files.map c.args.files.now) c.args.id o) c.in-Some.is (c.in_ok-txn.ensures.read told);
  puts = refl;
  reply = c.plain.ensures;
}

pub returns-in-None-clause-found : goal.returns-in-None-clause-found
returns-in-None-clause-found g c told = record {
  answer = None;
  found = subst (λ (o : Option (List Put)). SendsBy (g.F.Files.map c.args.files.now) c.args.id o) c.in-None.is (c.in_ok-txn.ensures.read told);
  puts = c.new.ensures;
  reply = c.plain-in-None.ensures;
}

use Rattle.ml_acts.proofs.Damages.{ok_then}
use Rattle.ml_acts.proofs.Queued.{to_members}
use Rattle.std.proofs.Common.{subst}
use Rattle.ml_base.specs.Dir.{Dir}
use Rattle.ml_queue.specs.declared.entries.Out.{Out}
use Rattle.ml_acts.specs.Found.{QueuesOut}
use Rattle.ml_base.specs.declared.names.Set.TheVariants as sets
use Rattle.ml_acts.proofs.Apart.{sent_to_set}
use Rattle.ml_acts.proofs.memo.send_to_list.Goals as goal

pub returns-clause-value : goal.returns-clause-value
returns-clause-value g c told =
    let old = g.F.Files.map c.args.files.now in
    let new = g.F.Files.map c.members_with_memo.new.files in
    let kept = g.met.F.Files.kept_map c.args.files.now c.members_with_memo.new.files told c.members_with_memo.ensures.reads.kept in
    ok_then c.send_out-sent.result
    (λ txn puts dir p alike is. to_members old new dir p c.args.body c.args.way c.in_ok-texts.field-0.addresses txn kept (c.in_ok-texts.ensures.value told) puts alike is) (c.send_out-sent.ensures.value told)

pub returns-clause-found : goal.returns-clause-found
returns-clause-found g c told =
    let kept = g.met.F.Files.kept_map c.args.files.now c.members_with_memo.new.files told c.members_with_memo.ensures.reads.kept in
    let out : Out = record { path = c.args.way; body = c.args.body; to = c.in_ok-texts.field-0.addresses } in
    ok_then c.send_out-sent.result
    (λ txn queued. record { out = out; to = c.in_ok-texts.ensures.found told; queued = subst (λ (d : Dir). QueuesOut d out txn) kept queued }) (c.send_out-sent.ensures.found told)

pub returns-clause-apart : goal.returns-clause-apart
returns-clause-apart g c told =
    let old = g.F.Files.map c.args.files.now in
    let new = g.F.Files.map c.members_with_memo.new.files in
    let kept = g.met.F.Files.kept_map c.args.files.now c.members_with_memo.new.files told c.members_with_memo.ensures.reads.kept in
    ok_then c.send_out-sent.result
    (λ txn puts dir p alike is. sent_to_set old new dir sets.List p c.args.body c.args.way c.in_ok-texts.field-0.addresses txn kept (c.in_ok-texts.ensures.found told) puts alike is) (c.send_out-sent.ensures.apart told)

use Rattle.std.proofs.Common.{◌≡◌, sym, subst, ap, ◌∙◌}
use Rattle.std.proofs.lemmas.Bool.{or_left, or_right}
use Rattle.ml_base.specs.Dir.{Dir, with_puts}
use Rattle.ml_base.specs.declared.names.Set.TheVariants as sets
use Rattle.ml_plain.specs.Plain.{addresses}
use Rattle.ml_subs.specs.Subscribers.{is_of_set}
use Rattle.ml_acts.specs.Doing.{is_of_queue}
use Rattle.ml_acts.proofs.Damages.{ok_then}
use Rattle.ml_acts.proofs.Queued.{mailed}
use Rattle.ml_queue.specs.declared.entries.Out.{Out}
use Rattle.ml_acts.specs.Found.{QueuesOut}
use Rattle.ml_queue.specs.Answers.{ids_name}
use Rattle.ml_acts.proofs.Apart.{buckets_alike, ids_alike, members_apart}
use Rattle.ml_acts.proofs.mails.mail_moderators.Goals as goal

pub returns-clause-value : goal.returns-clause-value
returns-clause-value g c told =
    let same_map = g.met.F.Files.kept_map c.args.files.now c.recipients.new.files told c.recipients.ensures.reads.kept in
    ok_then c.send.result
    (λ txn value dir p alike is same.
    mailed (with_puts dir txn) c.args.config.now c.in_ok-way.way c.in_ok-body.body c.in_ok-to.to (addresses p sets.Moderators) p c.args.mail c.args.now.seconds c.in_ok-way.ensures c.in_ok-body.ensures
    (c.in_ok-to.ensures.value told dir p (λ name e. alike name (or_right (is_of_queue name) (is_of_set sets.Moderators name) e)) is) same
    (value dir p (λ name e. subst (λ (d : Dir). dir name ≡ d name) (sym same_map) (alike name (or_left (is_of_queue name) (is_of_set sets.Moderators name) e))) is))
    (c.send.ensures.value told)

pub returns-clause-found : goal.returns-clause-found
returns-clause-found g c told =
    let kept = g.met.F.Files.kept_map c.args.files.now c.recipients.new.files told c.recipients.ensures.reads.kept in
    let out : Out = record { path = c.in_ok-way.way; body = c.in_ok-body.body; to = c.in_ok-to.to } in
    ok_then c.send.result (λ txn queued. record { out = out; to = c.in_ok-to.ensures.found told; queued = subst (λ (d : Dir). QueuesOut d out txn) kept queued }) (c.send.ensures.found told)

pub returns-clause-apart : goal.returns-clause-apart
returns-clause-apart g c told =
    let old = g.F.Files.map c.args.files.now in
    let kept = g.met.F.Files.kept_map c.args.files.now c.recipients.new.files told c.recipients.ensures.reads.kept in
    ok_then c.send.result
    (λ txn apart dir p alike is same.
    mailed (with_puts dir txn) c.args.config.now c.in_ok-way.way c.in_ok-body.body c.in_ok-to.to (addresses p sets.Moderators) p c.args.mail c.args.now.seconds c.in_ok-way.ensures c.in_ok-body.ensures
    (members_apart old dir sets.Moderators c.in_ok-to.to p (buckets_alike old dir sets.Moderators alike) (c.in_ok-to.ensures.found told) is) same
    (apart dir p (ids_alike old dir sets.Moderators alike ∙ sym (ap (λ (d : Dir). d ids_name) kept)) is))
    (c.send.ensures.apart told)

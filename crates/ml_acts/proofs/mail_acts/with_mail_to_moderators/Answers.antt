use Rattle.std.proofs.Common.{refl, ◌∙◌}
use Rattle.ml_base.specs.Dir.{with_puts}
use Rattle.ml_base.specs.declared.names.Set.TheVariants as sets
use Rattle.ml_plain.specs.Mailing as spec
use Rattle.ml_acts.specs.Doing.{is_beside_mail, is_beside_mark}
use Rattle.ml_acts.proofs.Queued.{beside_both, beside_both_mail, does_joined, own_joined, queue_beside}
use Rattle.ml_acts.proofs.Apart.{mailed_with}
use Rattle.ml_acts.proofs.mail_acts.with_mail_to_moderators.Goals as goal

pub returns-clause-value : goal.returns-clause-value
returns-clause-value g c told p is same =
    let dir = g.F.Files.map c.args.files.now in
    does_joined dir c.args.txn c.in_ok-more.more (c.join.new.self, c.args.reply) (spec.mail_moderators c.args.now.seconds c.args.mail p) c.args.reply c.in_ok-join.ensures.ok refl
    (c.in_ok-more.ensures.value told (with_puts dir c.args.txn) p (beside_both sets.Moderators dir c.args.txn c.requires.others) is same)

pub returns-clause-own : goal.returns-clause-own
returns-clause-own g c =
    own_joined (is_beside_mail sets.Moderators) is_beside_mark c.args.txn c.in_ok-more.more c.join.new.self (beside_both_mail sets.Moderators) queue_beside c.requires.others c.in_ok-more.ensures.own c.in_ok-join.ensures.ok

pub returns-clause-within : goal.returns-clause-within
returns-clause-within g c may queue only = own_joined may may c.args.txn c.in_ok-more.more c.join.new.self (λ name e. e) queue only c.in_ok-more.ensures.own c.in_ok-join.ensures.ok

pub returns-clause-found : goal.returns-clause-found
returns-clause-found g c told = record { mail = c.in_ok-more.more; is = c.in_ok-join.ensures.ok; queued = c.in_ok-more.ensures.found told }

pub returns-clause-apart : goal.returns-clause-apart
returns-clause-apart g c told dir p alike is same =
    does_joined dir c.args.txn c.in_ok-more.more (c.join.new.self, c.args.reply) (spec.mail_moderators c.args.now.seconds c.args.mail p) c.args.reply c.in_ok-join.ensures.ok refl
    (c.in_ok-more.ensures.apart told (with_puts dir c.args.txn) p
    (λ name e. beside_both sets.Moderators dir c.args.txn c.requires.others name (mailed_with sets.Moderators name e) ∙ alike name e) is same)

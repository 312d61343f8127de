use Rattle.std.proofs.Common.{◌≡◌, true, rules, ◌∙◌, ap₂, List}
use Rattle.ml_acts.specs.Doing.{is_bucket}
use Rattle.ml_acts.proofs.Damages.{members_named}
use Rattle.ml_base.specs.Bytes.{Text}
use Rattle.ml_reply.specs.declared.mails.Mail.TheVariants.{Members}
use Rattle.ml_acts.proofs.Apart.{members_apart}
use Rattle.ml_manage.proofs.members.members_mail.Goals as goal

pub returns-in_err-members-clause-names : goal.returns-in_err-members-clause-names
returns-in_err-members-clause-names g c =
    let names = members_named g.F.Files (λ name. is_bucket c.args.set name ≡ true) _ (g.F.Files.map c.args.files.now) c.args.set (λ name e. e) c.in_err-members.ensures.names in
    search rules

pub returns-clause-found : goal.returns-clause-found
returns-clause-found g c told = (c.in_ok-members.members, c.in_ok-members.ensures.union told)

pub returns-clause-apart : goal.returns-clause-apart
returns-clause-apart g c told dir p alike is =
    ap₂ (λ (to : Text) (members : List Text). Members to c.args.set members) (c.in_ok-to.ensures ∙ c.bytes.ensures.value)
    (members_apart (g.F.Files.map c.args.files.now) dir c.args.set c.in_ok-members.members p alike (c.in_ok-members.ensures.union told) is)

use Rattle.std.proofs.Common.{◌≡◌, true}
use Rattle.ml_acts.specs.Doing.{is_bucket_of}
use Rattle.ml_acts.proofs.Damages.{bucket_named, ok_then}
use Rattle.ml_manage.proofs.Apart.{bucket_apart}
use Rattle.ml_manage.proofs.members.is_member.Goals as goal

pub returns-clause-names : goal.returns-clause-names
returns-clause-names g c =
    bucket_named g.F.Files (λ name. is_bucket_of c.args.set c.args.who.now name ≡ true) c.member.result (g.F.Files.map c.args.files.now) c.args.set c.args.who.now (λ name e. e) c.member.ensures.names

pub returns-clause-apart : goal.returns-clause-apart
returns-clause-apart g c told =
    ok_then c.member.result (λ has tells dir p alike is. bucket_apart (g.F.Files.map c.args.files.now) dir c.args.set c.args.who.now has p alike is tells) (c.member.ensures.read told)

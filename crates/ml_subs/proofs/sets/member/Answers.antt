use Rattle.std.proofs.Common.{◌∙◌, List, Option, IfSome, sym, subst}
use Rattle.ml_base.specs.Address.{key}
use Rattle.ml_subs.specs.declared.member_list.Member.{Member}
use Rattle.ml_subs.specs.Buckets.{IsBucketFile}
use Rattle.ml_subs.proofs.Answering.{bucket_there, has_found, has_of_set}
use Rattle.ml_subs.proofs.sets.member.Goals as goal

pub returns-clause-read : goal.returns-clause-read
returns-clause-read g c told =
    let is = subst (λ (o : Option (List Member)). IfSome o (IsBucketFile c.bucket-n.result c.in_ok-file.file)) c.in-Some.is c.in_ok-members.ensures.some in
    (c.in-Some.members, bucket_there (g.F.Files.map c.args.files.now) c.args.set (key c.args.a.now) c.bucket-n.result c.bucket-name.result c.in_ok-file.file c.in-Some.members c.bucket-n.ensures.value c.bucket-name.ensures.name (c.in_ok-file.ensures.value told) is, c.is_some.ensures ∙ sym (has_found (λ r. r.now) (key c.args.a.now) c.in-Some.members c.lookup.result c.lookup.ensures))

pub returns-clause-value : goal.returns-clause-value
returns-clause-value g c told ms is =
    let read = returns-clause-read g c told in
    read.2 ∙ sym (has_of_set (g.F.Files.map c.args.files.now) c.args.set ms read.0 (key c.args.a.now) is read.1)

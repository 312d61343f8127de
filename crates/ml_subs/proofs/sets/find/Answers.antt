use Rattle.std.proofs.Common.{◌∙◌, List, Option, Some, IfSome, sym, ap, subst}
use Rattle.std.specs.Option.{option_map}
use Rattle.ml_base.specs.Address.{key}
use Rattle.ml_subs.specs.declared.member_list.Member.{Member}
use Rattle.ml_subs.specs.Buckets.{IsBucketFile}
use Rattle.ml_subs.proofs.Represented.{found_in_bucket}
use Rattle.ml_subs.proofs.Answering.{bucket_there}
use Rattle.ml_subs.proofs.sets.find.Goals as goal

pub returns-in-Some-lookup-clause-read : goal.returns-in-Some-lookup-clause-read
returns-in-Some-lookup-clause-read g c told =
    let is = subst (λ (o : Option (List Member)). IfSome o (IsBucketFile c.bucket-n.result c.in_ok-file.file)) c.in-Some.is c.in_ok-members.ensures.some in
    (c.in-Some.members, bucket_there (g.F.Files.map c.args.files.now) c.args.set (key c.args.a.now) c.bucket-n.result c.bucket-name.result c.in_ok-file.file c.in-Some.members c.bucket-n.ensures.value c.bucket-name.ensures.name (c.in_ok-file.ensures.value told) is, ap Some c.in_ok-member-in-Some-lookup.ensures ∙ sym (ap (option_map (λ r. r.now)) c.in-Some-lookup.is) ∙ c.lookup.ensures)

pub returns-in-Some-lookup-clause-value : goal.returns-in-Some-lookup-clause-value
returns-in-Some-lookup-clause-value g c told ms is =
    let read = returns-in-Some-lookup-clause-read g c told in
    read.2 ∙ sym (found_in_bucket (g.F.Files.map c.args.files.now) c.args.set ms read.0 (key c.args.a.now) is.members read.1)

pub returns-clause-read : goal.returns-clause-read
returns-clause-read g c told =
    let is = subst (λ (o : Option (List Member)). IfSome o (IsBucketFile c.bucket-n.result c.in_ok-file.file)) c.in-Some.is c.in_ok-members.ensures.some in
    (c.in-Some.members, bucket_there (g.F.Files.map c.args.files.now) c.args.set (key c.args.a.now) c.bucket-n.result c.bucket-name.result c.in_ok-file.file c.in-Some.members c.bucket-n.ensures.value c.bucket-name.ensures.name (c.in_ok-file.ensures.value told) is, sym (ap (option_map (λ r. r.now)) c.in-None.is) ∙ c.lookup.ensures)

pub returns-clause-value : goal.returns-clause-value
returns-clause-value g c told ms is =
    let read = returns-clause-read g c told in
    read.2 ∙ sym (found_in_bucket (g.F.Files.map c.args.files.now) c.args.set ms read.0 (key c.args.a.now) is.members read.1)

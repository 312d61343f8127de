use Rattle.std.proofs.Common.{◌≡◌, true, refl}
use Rattle.ml_acts.specs.Asked.{Count}
use Rattle.ml_acts.specs.Doing.{is_bucket_of}
use Rattle.ml_acts.proofs.Asked.{bucket_other, named_beside}
use Rattle.ml_acts.proofs.Damages.{bucket_named}
use Rattle.ml_post.proofs.verdict_table.is_member.Goals as goal

pub returns-clause-names : goal.returns-clause-names
returns-clause-names g c =
    let dir = g.F.Files.map c.args.files.now in
    let set = c.args.set in
    let who = c.args.who.now in
    named_beside g.F.Files (λ name. is_bucket_of set who name ≡ true) c.member.result dir dir Count (λ name. is_bucket_of set who name ≡ true) (λ told. refl) (λ name e. e) (λ name e of. bucket_other name set who e of)
    (bucket_named g.F.Files (λ name. is_bucket_of set who name ≡ true) c.member.result dir set who (λ name e. e) c.member.ensures.names)

use Rattle.std.proofs.Common.{◌∙◌, Option, Some, ap, sym, subst}
use Rattle.ml_base.specs.Bytes.{Text}
use Rattle.ml_subs.specs.Buckets.{IsBucketFile}
use Rattle.ml_subs.proofs.Layouts.{body_read, body_unread}
use Rattle.ml_subs.proofs.bucket_texts.read_bucket.Goals as goal

pub returns-in_default-2-clause-none : goal.returns-in_default-2-clause-none
returns-in_default-2-clause-none c ms is =
    let parts = c.in-Some-split_layout in
    let text = subst (λ (f : Option Text). IsBucketFile c.args.n f ms) (c.in-Some.is ∙ ap Some (sym c.as_slice.ensures)) is in
    body_unread parts.layout c.args.n parts.body.now (sym c.in_ok-members.ensures ∙ c.in_default-2.is) ms (parts.ensures.some.only c.args.n ms text)

pub returns-clause-some : goal.returns-clause-some
returns-clause-some c =
    let parts = c.in-Some-split_layout in
    let ms = c.in-Some-2.members in
    let made = parts.ensures.some.makes c.args.n ms (body_read parts.layout c.args.n parts.body.now ms (sym c.in_ok-members.ensures ∙ c.in-Some-2.is)) in
    subst (λ (f : Option Text). IsBucketFile c.args.n f ms) (ap Some c.as_slice.ensures ∙ sym c.in-Some.is) made

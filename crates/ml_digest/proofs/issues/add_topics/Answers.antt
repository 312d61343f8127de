use Rattle.std.proofs.Common.{◌≡◌, ◌∙◌, ◌++◌, ◌+◌, suc, ap, sym, arith, take, codes}
use Rattle.std.specs.Fmt.{decimal}
use Rattle.ml_base.specs.Bytes.{Text}
use Rattle.ml_digest.specs.Steps.{topics_text}
use Rattle.ml_digest.proofs.Pieces.{topics_more, topic_pieces}
use Rattle.ml_digest.proofs.issues.add_topics.Goals as goal

pub loop-i-preserved : goal.loop-i-preserved
loop-i-preserved c =
    let post = c.index-posts-i.result in
    let more = topics_more c.args.first c.args.posts.now c.loop-i.i post (omega arith) c.index-posts-i.is in
    let next : c.loop-i.i + 1 ≡ suc c.loop-i.i = omega arith in
    rw (c.in_ok-push.ensures.ok, c.in_ok-extend-2.ensures.ok, c.as_slice.ensures, c.in_ok-extend.ensures.ok, c.in_ok-push_number.ensures.ok, c.loop-i.invariant)
    (topic_pieces c.args.out.now (topics_text c.args.first (take c.loop-i.i c.args.posts.now)) (decimal (c.args.first + c.loop-i.i)) (codes ": ") post.subject
    ∙ ap (λ (t : Text). c.args.out.now ++ t) (sym (ap (λ n. topics_text c.args.first (take n c.args.posts.now)) next ∙ more)))

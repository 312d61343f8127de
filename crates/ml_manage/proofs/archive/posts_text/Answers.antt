use Rattle.std.proofs.Common.{◌∙◌}
use Rattle.std.proofs.lemmas.Result.{IfOk-weaker}
use Rattle.ml_manage.proofs.Posts.{some_posts}
use Rattle.ml_manage.proofs.archive.posts_text.Goals as goal

pub returns-clause-apart : goal.returns-clause-apart
returns-clause-apart g c told =
    IfOk-weaker c.all_posts.result _ _ (λ text value dir p alike is same. value dir p alike is same ∙ some_posts p c.args.numbers.now c.is_empty.result c.is_empty.ensures c.if-is_empty.false) (c.all_posts.ensures.apart told)

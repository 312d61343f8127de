use Rattle.std.proofs.Common.{◌∙◌, arith}
use Rattle.ml_base.proofs.Rests.{rest_on}
use Rattle.ml_base.proofs.paths.put_post.Goals as goal

pub returns-clause-rest : goal.returns-clause-rest
returns-clause-rest c =
    c.put_two.ensures.rest ∙ rest_on c.put_piece-slash.result c.put_two.result _ _ (omega arith) c.put_piece-slash.ensures.rest
    ∙ rest_on c.put_number-group.result c.put_two.result _ _ (omega arith) c.put_number-group.ensures.rest

use Rattle.std.proofs.Common.{◌∙◌, arith}
use Rattle.ml_base.proofs.Rests.{rest_on}
use Rattle.ml_base.proofs.paths.put_path.Goals as goal

pub returns-then-name-eq9-clause-rest : goal.returns-then-name-eq9-clause-rest
returns-then-name-eq9-clause-rest c = c.put_post.ensures.rest ∙ rest_on c.put_piece-front.result c.put_post.result _ _ (omega arith) c.put_piece-front.ensures.rest

pub returns-then-name-eq10-clause-rest : goal.returns-then-name-eq10-clause-rest
returns-then-name-eq10-clause-rest c =
    c.put_piece-then-name-eq10.ensures.rest
    ∙ rest_on c.put_number-group.result c.put_piece-then-name-eq10.result _ _ (omega arith) c.put_number-group.ensures.rest
    ∙ rest_on c.put_piece-front.result c.put_piece-then-name-eq10.result _ _ (omega arith) c.put_piece-front.ensures.rest

pub returns-then-name-eq19-clause-rest : goal.returns-then-name-eq19-clause-rest
returns-then-name-eq19-clause-rest c = c.put_number.ensures.rest ∙ rest_on c.put_piece-front.result c.put_number.result _ _ (omega arith) c.put_piece-front.ensures.rest

pub returns-then-name-eq20-clause-rest : goal.returns-then-name-eq20-clause-rest
returns-then-name-eq20-clause-rest c = c.put_thread.ensures.rest ∙ rest_on c.put_piece-front.result c.put_thread.result _ _ (omega arith) c.put_piece-front.ensures.rest

use Rattle.std.proofs.Common.{sym}
use Rattle.std.proofs.lemmas.Result.{IfOk-weaker}
use Rattle.ml_subs.proofs.Answering.{count_of_set}
use Rattle.ml_subs.proofs.sets.size.Goals as goal

pub returns-clause-value : goal.returns-clause-value
returns-clause-value g c told =
    IfOk-weaker c.count_of.result _ _ (λ n found ms is. sym (count_of_set (g.F.Files.map c.args.files.now) c.args.set ms n is found.1 found.2)) (c.count_of.ensures.value told)

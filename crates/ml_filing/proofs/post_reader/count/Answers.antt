use Rattle.std.proofs.lemmas.Result.{IfOk-weaker}
use Rattle.ml_filing.proofs.Looking.{counted_is}
use Rattle.ml_filing.proofs.post_reader.count.Goals as goal

pub returns-clause-value : goal.returns-clause-value
returns-clause-value g c told posts is = IfOk-weaker _ _ _ (λ n file. counted_is (g.F.Files.map c.args.files.now) posts is n file) (c.read_count.ensures.value told)

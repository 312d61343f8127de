use Rattle.std.proofs.Common.{◌∙◌, arith}
use Rattle.std.proofs.lemmas.Result.{IfOk-weaker}
use Rattle.ml_filing.proofs.Looking.{indexed_is, no_group}
use Rattle.ml_filing.proofs.post_reader.index.Goals as goal

pub returns-then-group-ge1000000-clause-value : goal.returns-then-group-ge1000000-clause-value
returns-then-group-ge1000000-clause-value g c told posts is = c.new.ensures ∙ no_group c.args.group posts (is.counted).few c.if-group-ge1000000.true

pub returns-clause-value : goal.returns-clause-value
returns-clause-value g c told posts is =
    let past = c.if-group-ge1000000.false in
    IfOk-weaker _ _ _ (λ es file. indexed_is (g.F.Files.map c.args.files.now) posts is c.args.group es (omega (arith, past)) file) (c.read_index.ensures.value told)

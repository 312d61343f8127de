use Rattle.std.proofs.Common.{sym, arith}
use Rattle.ml_base.proofs.NumberLaws.{number_spelled}
use Rattle.ml_stream.proofs.reader.read_positive.Goals as goal

pub returns-else-n-eq0-clause-limit : goal.returns-else-n-eq0-clause-limit
returns-else-n-eq0-clause-limit c =
    let h = number_spelled c.args.most c.args.text.now c.in-Some.n (omega arith) (sym c.in-Some.ensures) in
    let some = c.if-n-eq0.false in
    (omega (arith, some), h.0)

-- A number below 256 has at most three digits.
use Rattle.std.proofs.Common.{arith}
use Rattle.std.specs.Fmt.{decimal}
use Rattle.std.proofs.lemmas.Fmt.{length-decimal-le}
use Rattle.ml_ending.proofs.Written.{place_after}
use Rattle.ml_ending.proofs.lines.put_status.Goals as goal

pub returns-clause-place : goal.returns-clause-place
returns-clause-place c =
    let after = place_after c.put_number.result c.args.at c.put_number.new.out c.args.out.now (decimal c.args.status) (omega arith) (omega arith) c.put_number.ensures.text in
    let digits = length-decimal-le 3 c.args.status (omega arith) (omega arith) (omega arith) in
    omega (arith, after, digits)

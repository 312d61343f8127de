use Rattle.std.proofs.Common.{arith, ◌≤◌}
use Rattle.std.proofs.lemmas.Fmt.{length-decimal-le}
use Rattle.ml_journal.proofs.record_writer.number_size.Goals as goal

-- at most 20 digits, so at most two of their number
pub returns-clause-small : goal.returns-clause-small
returns-clause-small c =
    let few : c.digits_size-digits.result ≤ 20 = c.digits_size-digits.ensures.small in
    omega (arith, few, length-decimal-le 2 c.digits_size-digits.result (omega arith) (omega (arith, few)) (omega (arith, few)), c.digits_size.ensures.size)

use Rattle.std.proofs.Common.{length, ap, arith}
use Rattle.std.proofs.lemmas.List.{length-take}
use Rattle.ml_filing.proofs.subjects.subject.Goals as goal

pub returns-in-Some-clause-short : goal.returns-in-Some-clause-short
returns-in-Some-clause-short c = let size = ap length c.truncate.ensures in let few = length-take 1000 c.in-Some.text in omega (arith, size, few)

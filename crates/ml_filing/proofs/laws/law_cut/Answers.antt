use Rattle.std.proofs.Common.{◌<◌, arith}
use Rattle.ml_rows.proofs.CutLaws.{cut_is, cut_some}
use Rattle.ml_filing.specs.Posts.{size_of}
use Rattle.ml_filing.proofs.laws.law_cut.Goals as goal

pub returns-clause-longest : goal.returns-clause-longest
returns-clause-longest c = λ row. let some : 0 < 100 = omega arith in cut_is size_of 100 4_194_304 row some

pub returns-clause-some : goal.returns-clause-some
returns-clause-some c = cut_some size_of 100 4_194_304

-- A path of the table is short.
use Rattle.std.proofs.Common.{ap, length, arith}
use Rattle.std.proofs.lemmas.List.{length-take-le}
use Rattle.ml_base.proofs.PathLengths.{path_of_short}
use Rattle.ml_base.proofs.paths.path.Goals as goal

pub returns-clause-fits : goal.returns-clause-fits
returns-clause-fits c =
    omega (arith, ap length c.put_path.ensures.text, length-take-le c.put_path.result c.put_path.new.out (omega arith), path_of_short c.args.name c.requires)

use Rattle.ml_base.proofs.PathLaws.{one_path}
use Rattle.ml_base.proofs.laws.law_paths.Goals as goal

pub returns : goal.returns
returns c = one_path

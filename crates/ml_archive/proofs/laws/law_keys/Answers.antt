use Rattle.ml_archive.proofs.SameKey.{same_key}
use Rattle.ml_archive.proofs.laws.law_keys.Goals as goal

pub returns : goal.returns
returns c prefix subject = same_key prefix subject

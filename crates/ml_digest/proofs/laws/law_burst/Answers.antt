use Rattle.ml_digest.proofs.OneDigest.{digest_one}
use Rattle.ml_digest.proofs.laws.law_burst.Goals as goal

pub returns : goal.returns
returns c = digest_one

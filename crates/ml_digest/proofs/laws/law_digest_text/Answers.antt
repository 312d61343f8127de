use Rattle.ml_digest.proofs.Apart.{taken_apart}
use Rattle.ml_digest.proofs.laws.law_digest_text.Goals as goal

pub returns : goal.returns
returns c = taken_apart

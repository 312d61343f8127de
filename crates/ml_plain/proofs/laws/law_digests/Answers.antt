use Rattle.ml_plain.proofs.DigestLaw.{makes_digests}
use Rattle.ml_plain.proofs.IssueLaw.{has_issues}
use Rattle.ml_plain.proofs.laws.law_digests.Goals as goal

pub returns-clause-steps : goal.returns-clause-steps
returns-clause-steps c = λ config k h item. makes_digests config k h item

pub returns-clause-issues : goal.returns-clause-issues
returns-clause-issues c = λ config key h. has_issues config key h

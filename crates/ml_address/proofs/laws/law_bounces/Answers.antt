use Rattle.ml_address.proofs.Bounced.{numbered, warned, probed, answered}
use Rattle.ml_address.proofs.laws.law_bounces.Goals as goal

pub returns-clause-numbered : goal.returns-clause-numbered
returns-clause-numbered c = numbered

pub returns-clause-warned : goal.returns-clause-warned
returns-clause-warned c = warned

pub returns-clause-probed : goal.returns-clause-probed
returns-clause-probed c = probed

pub returns-clause-answered : goal.returns-clause-answered
returns-clause-answered c = answered

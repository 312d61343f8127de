use Rattle.ml_filing.specs.Appending.{next_number}
use Rattle.ml_filing.proofs.Filed.{appended}
use Rattle.ml_filing.proofs.OneMore.{post_new, post_kept, range_on, group_on, key_on}
use Rattle.ml_filing.proofs.laws.law_append.Goals as goal
use Rattle.std.proofs.Common.{refl}

pub returns-clause-new : goal.returns-clause-new
returns-clause-new c = λ posts post. post_new posts post (next_number posts) refl

pub returns-clause-kept : goal.returns-clause-kept
returns-clause-kept c = post_kept

pub returns-clause-range : goal.returns-clause-range
returns-clause-range c = range_on

pub returns-clause-group : goal.returns-clause-group
returns-clause-group c = group_on

pub returns-clause-thread : goal.returns-clause-thread
returns-clause-thread c = key_on

pub returns-clause-files : goal.returns-clause-files
returns-clause-files c = appended

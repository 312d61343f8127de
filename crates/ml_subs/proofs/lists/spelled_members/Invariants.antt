use Rattle.ml_subs.specs.Subscribers.{file_in}
use Rattle.ml_subs.proofs.Gathering.{Gathers}
use Rattle.ml_subs.proofs.lists.spelled_members.Given as goal

abbrev pub invariant-loop-n : goal.invariant-loop-n
invariant-loop-n l = Gathers (file_in l.texts) l.set l.n l.found

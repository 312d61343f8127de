use Rattle.std.proofs.Common.{◌≡◌, List, ◌++◌, length}
use Rattle.std.specs.List.{AllByRecursion}
use Rattle.ml_subs.specs.declared.member_list.Member.{Member}
use Rattle.ml_subs.specs.Buckets.{IsMember, records}
use Rattle.ml_subs.specs.Reading.{AreRead}
use Rattle.ml_subs.proofs.checked_texts.known_members.Given as goal

abbrev pub invariant-loop-rest : goal.invariant-loop-rest
invariant-loop-rest l = (left : List Member) × AllByRecursion (IsMember l.layout l.n) left × (l.rest ≡ records l.layout left) × AreRead l.layout l.n l.fn.body (l.out ++ left)

abbrev pub decreases-loop-rest : goal.decreases-loop-rest
decreases-loop-rest l = length l.rest

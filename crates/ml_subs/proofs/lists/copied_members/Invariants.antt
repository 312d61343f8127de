use Rattle.std.proofs.Common.{◌≡◌, take}
use Rattle.ml_subs.proofs.lists.copied_members.Given as goal

abbrev pub invariant-loop-record : goal.invariant-loop-record
invariant-loop-record l = l.members.items ≡ take l.record-index l.list

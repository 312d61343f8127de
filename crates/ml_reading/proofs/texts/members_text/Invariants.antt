use Rattle.std.proofs.Common.{◌≡◌, take}
use Rattle.ml_reading.specs.Queries.{members_text}
use Rattle.ml_reading.proofs.texts.members_text.Given as goal

abbrev pub invariant-loop-member : goal.invariant-loop-member
invariant-loop-member l = l.text ≡ members_text l.fn.moments (take l.member-index l.list)

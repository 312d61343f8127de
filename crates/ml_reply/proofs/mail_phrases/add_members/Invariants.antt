use Rattle.std.proofs.Common.{◌≡◌, ◌++◌, take}
use Rattle.ml_base.specs.Texts.{lines_text}
use Rattle.ml_reply.proofs.mail_phrases.add_members.Given as goal

abbrev pub invariant-loop-member : goal.invariant-loop-member
invariant-loop-member l = l.out ≡ l.initial.out ++ lines_text (take l.member-index l.members)

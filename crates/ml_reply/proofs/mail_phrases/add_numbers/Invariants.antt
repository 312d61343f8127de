use Rattle.std.proofs.Common.{◌≡◌, ◌++◌, take, map}
use Rattle.std.specs.Fmt.{decimal}
use Rattle.ml_base.specs.Texts.{lines_text}
use Rattle.ml_reply.proofs.mail_phrases.add_numbers.Given as goal

abbrev pub invariant-loop-number : goal.invariant-loop-number
invariant-loop-number l = l.out ≡ l.initial.out ++ lines_text (map decimal (take l.number-index l.numbers))

use Rattle.std.proofs.Common.{◌≡◌, take}
use Rattle.ml_mbox.specs.Mbox.{mbox_text}
use Rattle.ml_mbox.proofs.mbox_writer.write_mbox.Given as goal

abbrev pub invariant-loop-mail : goal.invariant-loop-mail
invariant-loop-mail l = l.out ≡ mbox_text (take l.mail-index l.mails)

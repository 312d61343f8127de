use Rattle.std.proofs.Common.{◌+◌, length, sym}
use Rattle.ml_mbox.proofs.Cuts.{cut_nowhere, cut_after, cut_is}
use Rattle.ml_mbox.proofs.mbox_reader.split_at_mail.Goals as goal

pub returns-in-None : goal.returns-in-None
returns-in-None c =
    cut_is c.args.text.now c.split_at-in-None.result.0.now c.split_at-in-None.result.1.now (length c.args.text.now) c.split_at-in-None.ensures.front c.split_at-in-None.ensures.back
    (cut_nowhere c.args.text.now c.in-None.ensures (sym c.if-begins_mail.ensures))

pub returns-in-Some : goal.returns-in-Some
returns-in-Some c =
    cut_is c.args.text.now c.split_at-in-Some.result.0.now c.split_at-in-Some.result.1.now (c.in-Some.at + 1) c.split_at-in-Some.ensures.front c.split_at-in-Some.ensures.back
    (cut_after c.args.text.now c.in-Some.at c.in-Some.ensures (sym c.if-begins_mail.ensures))

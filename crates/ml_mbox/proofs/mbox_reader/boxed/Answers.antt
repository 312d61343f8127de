use Rattle.ml_mbox.proofs.Cuts.{begins_long}
use Rattle.ml_mbox.proofs.mbox_reader.boxed.Goals as goal

pub sender_of-requires : goal.sender_of-requires
sender_of-requires c = begins_long c.args.line.now c.requires

use Rattle.std.proofs.Common.{sym}
use Rattle.ml_bounce.proofs.ledger_reader.entry_of.Goals as goal

pub returns-in_default : goal.returns-in_default
returns-in_default c = sym (c.in_default.ensures.none c.args.n)

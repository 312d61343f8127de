use Rattle.ml_bounce.proofs.Parsed.{key_there, key_not}
use Rattle.ml_bounce.proofs.ledger_reader.is_key.Goals as goal

pub returns-then-is_canonical-clause-key : goal.returns-then-is_canonical-clause-key
returns-then-is_canonical-clause-key c is = key_there c.args.text.now c.has_capital.result (c.is_canonical.ensures.0 c.if-is_canonical.true) c.has_capital.ensures is

pub returns-then-is_canonical-clause-none : goal.returns-then-is_canonical-clause-none
returns-then-is_canonical-clause-none c is = key_not c.args.text.now c.has_capital.result c.has_capital.ensures is

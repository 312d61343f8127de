use Rattle.ml_stream.proofs.Spelled.{item_written}
use Rattle.ml_stream.proofs.laws.law_items.Goals as goal

pub returns : goal.returns
returns c = item_written

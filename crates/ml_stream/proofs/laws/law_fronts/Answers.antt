use Rattle.ml_stream.proofs.Locality.{item_local}
use Rattle.ml_stream.proofs.laws.law_fronts.Goals as goal

pub returns : goal.returns
returns c = λ place next bytes rest item is. let r = item_local place bytes item next rest is in (r.one, r.split, r.all)

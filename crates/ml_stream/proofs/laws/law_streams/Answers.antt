use Rattle.ml_stream.proofs.Streams.{streams, one_stream}
use Rattle.ml_stream.proofs.laws.law_streams.Goals as goal

pub returns : goal.returns
returns c = record { some = streams; one = one_stream }

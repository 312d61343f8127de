use Rattle.std.proofs.Common.{length}
use Rattle.ml_digest.specs.Reading.{IsBegun}
use Rattle.ml_digest.proofs.digest_reader.split_header.Given as goal

abbrev pub invariant-loop-line : goal.invariant-loop-line
invariant-loop-line l = IsBegun l.text l.last l.rest

abbrev pub decreases-loop-line : goal.decreases-loop-line
decreases-loop-line l = length l.rest

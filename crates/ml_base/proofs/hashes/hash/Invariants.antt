use Rattle.std.proofs.Common.{◌≡◌, drop}
use Rattle.ml_base.specs.Hash.{hash_after, hash_of}
use Rattle.ml_base.proofs.hashes.hash.Given as goal

abbrev pub invariant-loop-byte : goal.invariant-loop-byte
invariant-loop-byte l = hash_after l.h (drop l.byte-index l.text) ≡ hash_of l.text

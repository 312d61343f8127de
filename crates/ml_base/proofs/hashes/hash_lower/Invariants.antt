use Rattle.std.proofs.Common.{◌≡◌, drop}
use Rattle.ml_base.specs.Bytes.{lower}
use Rattle.ml_base.specs.Hash.{hash_after, hash_of}
use Rattle.ml_base.proofs.hashes.hash_lower.Given as goal

abbrev pub invariant-loop-byte : goal.invariant-loop-byte
invariant-loop-byte l = hash_after l.h (lower (drop l.byte-index l.text)) ≡ hash_of (lower l.text)

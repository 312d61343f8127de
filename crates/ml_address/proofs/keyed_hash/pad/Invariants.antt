use Rattle.std.proofs.Common.{◌≡◌, ◌++◌, take, drop, map, bit_xor}
use Rattle.ml_address.proofs.keyed_hash.pad.Given as goal

abbrev pub invariant-loop-byte : goal.invariant-loop-byte
invariant-loop-byte l = l.block ≡ map (λ b. bit_xor b l.pad) (take l.byte-index l.fn.block) ++ drop l.byte-index l.fn.block

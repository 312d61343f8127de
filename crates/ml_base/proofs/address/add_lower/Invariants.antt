use Rattle.std.proofs.Common.{◌≡◌, ◌++◌, take}
use Rattle.ml_base.specs.Bytes.{lower}
use Rattle.ml_base.proofs.address.add_lower.Given as goal

abbrev pub invariant-loop-byte : goal.invariant-loop-byte
invariant-loop-byte l = l.out ≡ l.fn.out ++ lower (take l.byte-index l.text)

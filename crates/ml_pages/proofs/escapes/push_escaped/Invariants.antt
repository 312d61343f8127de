use Rattle.std.proofs.Common.{◌≡◌, ◌++◌, take}
use Rattle.ml_pages.specs.Escaping.{escaped}
use Rattle.ml_pages.proofs.escapes.push_escaped.Given as goal

abbrev pub invariant-loop-byte : goal.invariant-loop-byte
invariant-loop-byte l = l.out ≡ l.fn.out ++ escaped (take l.byte-index l.text)

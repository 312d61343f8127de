use Rattle.std.proofs.Common.{◌≡◌, ◌++◌, replicate}
use Rattle.ml_digest.proofs.digest_phrases.add_asterisks.Given as goal

abbrev pub invariant-loop : goal.invariant-loop
invariant-loop l = l.out ≡ l.initial.out ++ replicate l.counter 42

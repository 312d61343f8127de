use Rattle.std.proofs.Common.{◌≡◌, [], replicate}
use Rattle.ml_archive.proofs.threads.empty_texts.Given as goal

abbrev pub invariant-loop : goal.invariant-loop
invariant-loop l = l.texts.items ≡ replicate l.counter []

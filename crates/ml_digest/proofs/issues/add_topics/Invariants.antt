use Rattle.std.proofs.Common.{◌≡◌, ◌++◌, take}
use Rattle.ml_digest.specs.Steps.{topics_text}
use Rattle.ml_digest.proofs.issues.add_topics.Given as goal

abbrev pub invariant-loop-i : goal.invariant-loop-i
invariant-loop-i l = l.out ≡ l.initial.out ++ topics_text l.first (take l.i l.posts)

use Rattle.std.proofs.Common.{◌≡◌, ◌++◌, take}
use Rattle.std.specs.List.{flat_map}
use Rattle.ml_digest.specs.Digest.{with_rule}
use Rattle.ml_digest.proofs.issues.add_messages.Given as goal

abbrev pub invariant-loop-post : goal.invariant-loop-post
invariant-loop-post l = l.out ≡ l.initial.out ++ flat_map with_rule (take l.post-index l.posts)

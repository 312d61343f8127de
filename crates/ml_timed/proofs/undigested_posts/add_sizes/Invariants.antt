use Rattle.std.proofs.Common.{◌≡◌, ◌++◌, take}
use Rattle.ml_timed.specs.Waiting.{sizes_after}
use Rattle.ml_timed.proofs.undigested_posts.add_sizes.Given as goal

abbrev pub invariant-loop-entry : goal.invariant-loop-entry
invariant-loop-entry l = l.sizes ≡ l.fn.sizes ++ sizes_after l.last (take l.entry-index l.entries)

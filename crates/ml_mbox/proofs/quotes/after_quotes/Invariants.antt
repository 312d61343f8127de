use Rattle.std.proofs.Common.{◌≡◌, length}
use Rattle.ml_mbox.specs.Quoting.{is_like_first}
use Rattle.ml_mbox.proofs.quotes.after_quotes.Given as goal

abbrev pub invariant-loop-more : goal.invariant-loop-more
invariant-loop-more l = is_like_first l.rest ≡ is_like_first l.line

abbrev pub decreases-loop-more : goal.decreases-loop-more
decreases-loop-more l = length l.rest

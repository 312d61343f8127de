use Rattle.std.proofs.Common.{◌≡◌, None, length}
use Rattle.ml_plain.specs.Verdicts.{has_address}
use Rattle.ml_post.proofs.address_search.has_address.Given as goal

abbrev pub invariant-loop-at : goal.invariant-loop-at
invariant-loop-at l = has_address l.address l.before l.rest ≡ has_address l.address None l.text

abbrev pub decreases-loop-at : goal.decreases-loop-at
decreases-loop-at l = length l.rest

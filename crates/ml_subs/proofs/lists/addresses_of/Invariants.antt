use Rattle.std.proofs.Common.{◌≡◌, map}
use Rattle.ml_subs.proofs.lists.addresses_of.Given as goal

abbrev pub invariant-loop-member : goal.invariant-loop-member
invariant-loop-member l = l.addresses.items ≡ map (λ m. m.who) l.yielded

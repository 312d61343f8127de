use Rattle.std.proofs.Common.{arith, sym, subst}
use Rattle.std.proofs.lemmas.Grind.{common_steps}
use Rattle.ml_base.specs.Address.{IsAddress}
use Rattle.ml_base.specs.Bytes.{Text}
use Rattle.ml_base.proofs.Addresses.{address_key}
use Rattle.ml_bounce.proofs.buckets.key_of.Goals as goal

pub returns-clause-key : goal.returns-clause-key
returns-clause-key c = grind (arith, common_steps)

pub returns-clause-address : goal.returns-clause-address
returns-clause-address c = subst (λ (k : Text). IsAddress k) (sym (returns-clause-key c)) (address_key c.args.who.now c.bytes.ensures.address)

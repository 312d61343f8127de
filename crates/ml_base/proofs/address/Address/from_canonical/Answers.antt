use Rattle.std.proofs.Common.{sym, subst, length}
use Rattle.ml_base.specs.Bytes.{Text}
use Rattle.ml_base.specs.Address.{IsAddressAt}
use Rattle.ml_base.proofs.Addresses.{address_splits, kept_at}
use Rattle.ml_base.proofs.address.Address.from_canonical.Goals as goal

pub unreachable-requires : goal.unreachable-requires
unreachable-requires c = address_splits c.args.text.now c.requires (sym c.in_default.ensures.value)

pub invariant_of-result : goal.invariant_of-result
invariant_of-result c =
    let at = kept_at c.args.text.now c.in-Some.local.now c.in-Some.field-0-1.now c.requires c.in-Some.ensures.value in
    subst (λ (t : Text). IsAddressAt t (length c.in-Some.local.now)) (sym c.in_ok-from_slice.ensures) at

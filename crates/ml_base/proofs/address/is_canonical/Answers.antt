use Rattle.std.proofs.Common.{◌≡◌, ◌∙◌, sym, Ok}
use Rattle.std.proofs.lemmas.Bool.{not-true, not_from_false}
use Rattle.ml_base.specs.Address.{address_check}
use Rattle.ml_base.proofs.KeptAddresses.{kept_if, kept_only, checked_ok}
use Rattle.ml_base.proofs.address.is_canonical.Goals as goal

pub returns-in-Some : goal.returns-in-Some
returns-in-Some c =
    let ok : address_check c.args.text.now ≡ Ok tt = sym c.check.ensures ∙ checked_ok c.check.result (sym c.is_err.ensures.value ∙ c.if-is_err.false) in
    let cut = c.in-Some.ensures.value in (
      λ t. kept_if c.args.text.now c.in-Some.field-0-0.now c.in-Some.host.now ok cut (sym c.has_capital.ensures ∙ not-true _ t),
      λ is. not_from_false _ (c.has_capital.ensures ∙ kept_only c.args.text.now c.in-Some.field-0-0.now c.in-Some.host.now cut is),
    )

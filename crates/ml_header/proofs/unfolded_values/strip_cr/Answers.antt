use Rattle.std.proofs.Common.{sym, ap, ◌∙◌, eq-eqb}
use Rattle.std.proofs.lemmas.Bool.{eqb-true}
use Rattle.ml_base.proofs.Bools.{not_true}
use Rattle.ml_header.specs.Unfolding.{without_cr}
use Rattle.ml_header.proofs.Unfolds.{cr_at_end, no_cr_at_end}
use Rattle.ml_header.proofs.unfolded_values.strip_cr.Goals as goal

pub returns-then-last-eq13 : goal.returns-then-last-eq13
returns-then-last-eq13 c =
    sym (ap without_cr c.in-Some.ensures.cases.0 ∙ cr_at_end c.in-Some.front.now c.in-Some.last.now (eq-eqb c.in-Some.last.now 13 c.if-last-eq13.true))

pub returns-else-last-eq13 : goal.returns-else-last-eq13
returns-else-last-eq13 c =
    let at = c.in-Some.ensures.cases.0 in
    at ∙ sym (ap without_cr at ∙ no_cr_at_end c.in-Some.front.now c.in-Some.last.now (not_true _ (λ e. c.if-last-eq13.false (eqb-true c.in-Some.last.now 13 e))))

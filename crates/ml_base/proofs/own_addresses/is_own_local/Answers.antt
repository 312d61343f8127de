use Rattle.std.proofs.Common.{Bool, ◌&&◌, sym, ap, ◌∙◌}
use Rattle.ml_base.specs.Own.{is_own_rest}
use Rattle.ml_base.proofs.OwnLemmas.{too_short, cut_there}
use Rattle.ml_base.proofs.own_addresses.is_own_local.Goals as goal

pub returns-then-before-local : goal.returns-then-before-local
returns-then-before-local c = sym (too_short c.args.local.now c.args.before.now c.if-before-local.true)

pub returns-then-is_alike : goal.returns-then-is_alike
returns-then-is_alike c =
    c.is_own_rest.ensures ∙ sym (cut_there c.args.local.now c.args.before.now c.split_at.result.0.now c.split_at.result.1.now c.if-before-local.false c.split_at.ensures.front c.split_at.ensures.back
    ∙ ap (λ (b : Bool). b && is_own_rest c.split_at.result.1.now) (sym c.is_alike.ensures ∙ c.if-is_alike.true))

pub returns-else-is_alike : goal.returns-else-is_alike
returns-else-is_alike c =
    c.if-is_alike.false ∙ sym (cut_there c.args.local.now c.args.before.now c.split_at.result.0.now c.split_at.result.1.now c.if-before-local.false c.split_at.ensures.front c.split_at.ensures.back
    ∙ ap (λ (b : Bool). b && is_own_rest c.split_at.result.1.now) (sym c.is_alike.ensures ∙ c.if-is_alike.false))

use Rattle.std.proofs.Common.{◌≡◌, ◌-◌, suc, sym, ap, ◌∙◌, arith}
use Rattle.ml_post.specs.Places as places
use Rattle.ml_post.proofs.Sought.{byte_before-suc}
use Rattle.ml_post.proofs.address_search.byte_before.Goals as goal

pub returns-else-at-eq0 : goal.returns-else-at-eq0
returns-else-at-eq0 c =
    let at = c.args.at in
    let is : suc (at - 1) ≡ at = omega arith in
    sym (byte_before-suc c.args.before c.args.text.now (at - 1) (omega arith)) ∙ ap (places.byte_before c.args.before c.args.text.now) is

use Rattle.std.proofs.Common.{◌≡◌, ◌+◌, ◌<◌, ◌||◌, None, Some, length, drop, get_or, sym, ap, ◌∙◌, arith}
use Rattle.ml_plain.specs.Verdicts as spec
use Rattle.ml_post.proofs.Sought.{cut_after, nowhere, placed}
use Rattle.ml_post.proofs.address_search.has_address.Goals as goal

pub returns-then-stands_alone : goal.returns-then-stands_alone
returns-then-stands_alone c =
    let address = c.args.address.now in
    let rest = c.loop-at.rest.now in
    let at = c.in-Some.at in
    let found = c.in-Some.ensures in
    let within : at < length rest = omega (arith, found.1.fits) in
    let is = placed address c.loop-at.before rest at within (λ k less o. found.0.before k (omega arith) less o) found.1 in
    let stands = sym c.stands_alone.ensures ∙ c.if-stands_alone.true in
    let after = spec.has_address address (Some (get_or rest at 0)) (drop (at + 1) rest) in
    sym (sym c.loop-at.invariant ∙ (is ∙ ap (λ b. b || after) stands))

pub loop-at-preserved : goal.loop-at-preserved
loop-at-preserved c =
    let address = c.args.address.now in
    let rest = c.loop-at.rest.now in
    let at = c.in-Some.at in
    let found = c.in-Some.ensures in
    let within : at < length rest = omega (arith, found.1.fits) in
    let is = placed address c.loop-at.before rest at within (λ k less o. found.0.before k (omega arith) less o) found.1 in
    let stands = sym c.stands_alone.ensures ∙ c.if-stands_alone.false in
    let after = spec.has_address address (Some (get_or rest at 0)) (drop (at + 1) rest) in
    let e = sym (ap (λ b. b || after) stands) ∙ (sym is ∙ c.loop-at.invariant) in
    cut_after (λ first more. spec.has_address address (Some first) more ≡ spec.has_address address None c.args.text.now) rest at within e

pub returns : goal.returns
returns c =
    let none = c.in_default.ensures in
    sym (sym c.loop-at.invariant ∙ nowhere c.args.address.now c.loop-at.before c.loop-at.rest.now (λ k less o. none k (omega arith) less o))

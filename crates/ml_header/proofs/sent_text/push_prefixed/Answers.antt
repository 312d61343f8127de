use Rattle.std.proofs.Common.{[], ◌∷◌, ◌++◌, ap, ◌∙◌}
use Rattle.ml_header.specs.Rewriting.{spaced}
use Rattle.ml_header.proofs.Rewrites.{prefixed_text}
use Rattle.ml_header.proofs.sent_text.push_prefixed.Goals as goal

pub returns : goal.returns
returns c =
    let f = c.args.field.now in
    c.in_ok-push_spaced.ensures
    ∙ ap (λ t. t ++ spaced f.value.now) (c.in_ok-extend-3.ensures.ok
    ∙ ap (λ t. t ++ c.args.prefix.now) (c.in_ok-extend-2.ensures.ok ∙ ap (λ t. t ++ 58 ∷ 32 ∷ []) c.in_ok-extend.ensures.ok))
    ∙ prefixed_text c.args.text.now f.name.now c.args.prefix.now (spaced f.value.now)

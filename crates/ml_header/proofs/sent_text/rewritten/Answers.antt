use Rattle.std.proofs.Common.{[], ◌∷◌, ◌++◌, sym, ap, subst, ◌∙◌}
use Rattle.std.specs.Option.{option_map}
use Rattle.ml_header.specs.Steps.{AreWhole, with_first, sent_fields, with_trailer}
use Rattle.ml_header.proofs.Rewrites.{fields_whole, all_steps}
use Rattle.ml_header.proofs.sent_text.rewritten.Goals as goal

pub push_fields-requires : goal.push_fields-requires
push_fields-requires c = subst AreWhole (sym c.fields.ensures) (fields_whole c.args.message.now)

pub returns : goal.returns
returns c =
    let prefix = option_map (λ p. p.now) c.args.prefix in
    let last = option_map (λ t. t.now) c.in_ok-trailer.trailer in
    c.in_ok-push_body.ensures
    ∙ ap (λ t. t ++ with_trailer last c.body.result.now) (c.in_ok-push.ensures.ok
    ∙ ap (λ t. t ++ 10 ∷ []) (c.in_ok-met.ensures.text
    ∙ ap (λ t. t ++ sent_fields c.args.remove.now (with_first prefix c.fields.result)) (c.in_ok-extend.ensures.ok ∙ ap (λ t. t ++ c.args.add.now) c.in_ok-text.ensures)))
    ∙ all_steps c.args.message.now c.args.remove.now c.args.add.now prefix (option_map (λ t. t.now) c.args.trailer)
    (option_map (λ v. v.now) c.in_ok-met.met.kind) (option_map (λ v. v.now) c.in_ok-met.met.encoding) last c.fields.result c.body.result.now
    c.fields.ensures c.in_ok-met.ensures.kind c.in_ok-met.ensures.encoding c.in_ok-trailer.ensures c.body.ensures

use Rattle.std.proofs.Common.{◌++◌, ap, subst, ◌∙◌, codes}
use Rattle.std.specs.Option.{option_map}
use Rattle.ml_header.specs.Places.{text_of}
use Rattle.ml_header.specs.Steps.{AreWhole, kept_text}
use Rattle.ml_header.proofs.Rewrites.{value_turn, text_turn}
use Rattle.ml_header.proofs.sent_text.push_fields.Goals as goal

pub loop-field-preserved : goal.loop-field-preserved
loop-field-preserved c =
    let f = text_of c.in-Some.field in
    let due = option_map (λ p. p.now) c.loop-field.due in
    let met = c.loop-field.met in
    let old = c.loop-field.invariant in
    let all = c.in-Some.ensures.steps in
    record {
      whole = (subst AreWhole all old.whole).1;
      text_is = text_turn c.args.remove.now c.loop-field.text c.push_kept.new.text _ due (option_map (λ p. p.now) c.in_ok-here.later) f c.next.new.self c.loop-field.fields all
          (c.in_ok-push_kept.ensures ∙ ap (λ d. c.loop-field.text ++ kept_text c.args.remove.now d f) c.in_ok-here.ensures.here) c.in_ok-here.ensures.later old.text_is;
      kind_is = value_turn (codes "content-type") (option_map (λ v. v.now) met.kind) (option_map (λ v. v.now) c.with-met.result.kind) f c.next.new.self c.loop-field.fields _ all c.with-met.ensures.kind old.kind_is;
      encoding_is = value_turn (codes "content-transfer-encoding") (option_map (λ v. v.now) met.encoding) (option_map (λ v. v.now) c.with-met.result.encoding) f c.next.new.self c.loop-field.fields _ all c.with-met.ensures.encoding old.encoding_is;
    }

use Rattle.std.proofs.Common.{◌||◌, sym, ap, ◌∙◌}
use Rattle.ml_header.specs.Places.{text_of}
use Rattle.ml_header.specs.Rewriting.{is_among, names_of}
use Rattle.ml_header.proofs.Rewrites.{among_next, among_none}
use Rattle.ml_header.proofs.sent_text.is_among.Goals as goal

pub returns-then-is_named : goal.returns-then-is_named
returns-then-is_named c =
    let f = text_of c.args.field.now in
    sym (sym c.loop-name.invariant ∙ among_next c.loop-name.rest.now c.in-Some.name.now c.in-Some.more.now f c.in-Some.ensures.value
    ∙ ap (λ t. t || is_among (names_of c.in-Some.more.now) f) (sym c.is_named.ensures ∙ c.if-is_named.true))

pub loop-name-preserved : goal.loop-name-preserved
loop-name-preserved c =
    let f = text_of c.args.field.now in
    sym (among_next c.loop-name.rest.now c.in-Some.name.now c.in-Some.more.now f c.in-Some.ensures.value
    ∙ ap (λ t. t || is_among (names_of c.in-Some.more.now) f) (sym c.is_named.ensures ∙ c.if-is_named.false)) ∙ c.loop-name.invariant

pub returns : goal.returns
returns c = sym (sym c.loop-name.invariant ∙ among_none c.loop-name.rest.now (text_of c.args.field.now) c.in_default.ensures.value)

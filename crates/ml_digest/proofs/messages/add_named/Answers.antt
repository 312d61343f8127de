use Rattle.std.proofs.Common.{◌≡◌, true, ap, subst, ◌∙◌}
use Rattle.std.proofs.lemmas.Slice.Eq.{bytes_eq-Decides}
use Rattle.ml_base.specs.Bytes.{lower}
use Rattle.ml_base.specs.Texts.{with_line_end}
use Rattle.ml_header.specs.Fields.{has_name}
use Rattle.ml_header.specs.Places.{text_of}
use Rattle.ml_header.specs.Steps.{AreWhole}
use Rattle.ml_digest.proofs.Pieces.{named_turn}
use Rattle.ml_digest.proofs.messages.add_named.Goals as goal

pub loop-field-preserved-in-Continue-branch-2 : goal.loop-field-preserved-in-Continue-branch-2
loop-field-preserved-in-Continue-branch-2 c =
    let f = text_of c.in-Some.field in
    let all = c.in-Some.ensures.steps in
    let whole = subst AreWhole all c.loop-field.invariant.whole in
    let named : has_name c.args.name.now f ≡ true = (bytes_eq-Decides (lower f.name) (lower c.args.name.now)).1 (c.eq_ignore_ascii_case.ensures.test.0 c.if-eq_ignore_ascii_case.true) in
    record {
      whole = whole.1;
      text_is = named_turn c.args.name.now c.loop-field.out c.end_text_line.new.out _ f c.next.new.self c.loop-field.fields all whole.0 named
          (c.in_ok-end_text_line.ensures ∙ ap with_line_end c.in_ok-extend.ensures.ok) c.loop-field.invariant.text_is;
    }

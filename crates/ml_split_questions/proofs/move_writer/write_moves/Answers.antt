use Rattle.std.proofs.Common.{◌≡◌, ◌+◌, ◌<◌, ◌∙◌, List, ap, arith, get_or, length, subst}
use Rattle.ml_base.specs.Bytes.{Text}
use Rattle.ml_split_questions.proofs.Written.{one_more}
use Rattle.ml_split_questions.proofs.move_writer.write_moves.Goals as goal

pub loop-i-preserved : goal.loop-i-preserved
loop-i-preserved c = λ few.
    let less : c.loop-i.i < length c.args.part.now.members = subst (λ (l : List Text). c.loop-i.i < length l) c.as_slice-who-items.ensures c.loop-i-test.true in
    let number : c.saturating_add.result ≡ c.args.first + c.loop-i.i = omega (arith, few, less, c.saturating_add.ensures) in
    one_more c.args.first c.args.now c.args.set c.args.into c.args.part.now.members c.loop-i.i c.who-item.result c.in_ok-copy.field-0 c.move_of.result c.saturating_add.result c.loop-i.text c.push_item.new.text
    less (c.who-item.is ∙ ap (λ (l : List Text). get_or l c.loop-i.i c.who-item.result) c.as_slice-who-items.ensures)
    c.in_ok-copy.ensures c.move_of.ensures number (c.loop-i.invariant few) c.in_ok-push_item.ensures.ok

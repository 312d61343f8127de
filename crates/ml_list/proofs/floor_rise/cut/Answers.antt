use Rattle.std.proofs.Common.{◌∙◌, ◌==◌, sym, ap}
use Rattle.std.specs.List.{list_all}
use Rattle.ml_base.specs.Bytes.{Text}
use Rattle.ml_list.proofs.Reading.{cut_left, cut_empty}
use Rattle.ml_list.proofs.floor_rise.cut.Goals as goal

pub returns-then-is_empty-clause-some : goal.returns-then-is_empty-clause-some
returns-then-is_empty-clause-some c = λ first kept is.
    let zeros = sym (ap (λ (t : Text). list_all (λ b. b == 0) t) c.as_slice.ensures) ∙ sym c.is_empty.ensures ∙ c.if-is_empty.true in
    cut_empty c.args.file c.in-Some.text c.emptied-left.result c.args.slots c.in-Some.is c.requires c.emptied-left.ensures zeros first kept is

pub returns-else-is_empty-clause-some : goal.returns-else-is_empty-clause-some
returns-else-is_empty-clause-some c = λ first kept is.
    cut_left c.args.file c.in-Some.text c.emptied-left.result c.args.slots c.in-Some.is c.requires c.emptied-left.ensures first kept is

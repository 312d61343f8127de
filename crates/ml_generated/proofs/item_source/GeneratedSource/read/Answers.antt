use Rattle.std.proofs.Common.{◌≡◌, ◌+◌, ◌-◌, ◌++◌, Some, min, take, drop, length, refl, subst}
use Rattle.ml_base.specs.Bytes.{Text}
use Rattle.ml_site.specs.Source.{Takes}
use Rattle.ml_generated.specs.Items.{left_of}
use Rattle.ml_generated.proofs.Turning.{takes}
use Rattle.ml_generated.proofs.item_source.GeneratedSource.read.Goals as goal

pub returns-clause-taken : goal.returns-clause-taken
returns-clause-taken c =
    let g = c.turn.new.self in
    let count = c.min-count.result in
    let out = c.copy_from_slice.new.self ++ drop count c.args.buf.now in
    subst (λ (before : Text). Takes before (Some (left_of g.local g.host g.item (g.at + count) g.next g.ahead)) out count) c.turn.ensures.left
    (takes g.local g.host g.item c.args.buf.now c.copy_from_slice.new.self (take (length g.item - g.at) (drop g.at g.item)) g.at count g.next g.ahead c.turn.ensures.end g.within refl
    (subst (λ (r : Text). count ≡ min (length (take (length r - g.at) (drop g.at r))) (length c.args.buf.now)) c.as_slice.ensures c.min-count.ensures)
    (subst (λ (r : Text). c.copy_from_slice.new.self ≡ take count (take (length r - g.at) (drop g.at r))) c.as_slice.ensures c.copy_from_slice.ensures.after))

use Rattle.std.proofs.Common.{◌∙◌, ◌++◌, ◌∷◌, [], List, None, ap, arith}
use Rattle.ml_base.specs.declared.names.Name.{Name}
use Rattle.ml_base.specs.declared.puts.Put.{Put}
use Rattle.ml_list.proofs.Risen.{one_removal_more}
use Rattle.ml_list.proofs.floor_rise.remove_files.Goals as goal

pub loop-block-preserved : goal.loop-block-preserved
loop-block-preserved c =
    let low = c.loop-block.invariant.0 in
    let next : Name → List Put = λ name. c.loop-block.txn ++ record { name = name; bytes = None } ∷ [] in
    (omega (arith, low), one_removal_more c.args.txn.now c.push.new.self c.loop-block.txn c.args.from c.loop-block.block low c.loop-block.invariant.1 (c.in_ok-push.ensures.ok ∙ ap next c.replies.ensures.name))

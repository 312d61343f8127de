use Rattle.std.proofs.Common.{◌∙◌, List, Option, sym, ap}
use Rattle.std.proofs.lemmas.Result.{IfOk-weaker}
use Rattle.std.specs.Option.{option_copied}
use Rattle.ml_base.specs.Dir.{laid_by, newest_put}
use Rattle.ml_base.specs.declared.puts.Put.{Put}
use Rattle.ml_base.proofs.Laid.{newest_decides}
use Rattle.ml_list.proofs.item_effects.left_over.Goals as goal

pub returns-in-Some : goal.returns-in-Some
returns-in-Some c =
    let txn = c.args.txn.now in
    let name = c.args.name in
    let there = sym (ap (λ (t : List Put). newest_put t name) c.as_slice.ensures) ∙ sym c.newest.ensures ∙ ap option_copied c.in-Some.is in
    IfOk-weaker c.copied.result _ _ (λ left copy dir before. copy ∙ c.as_ref.ensures.value ∙ sym (newest_decides txn name dir ∙ ap (λ (o : Option Put). laid_by o (dir name)) there)) c.copied.ensures

pub returns-in-None : goal.returns-in-None
returns-in-None c = λ dir before.
    let txn = c.args.txn.now in
    let name = c.args.name in
    let none = sym (ap (λ (t : List Put). newest_put t name) c.as_slice.ensures) ∙ sym c.newest.ensures ∙ ap option_copied c.in-None.is in
    before ∙ sym (newest_decides txn name dir ∙ ap (λ (o : Option Put). laid_by o (dir name)) none)

use Rattle.std.proofs.Common.{◌≡◌, ◌++◌, ◌-◌, ◌∙◌, ℕ, List, arith, rules, length, replicate, take, ap}
use Rattle.std.proofs.lemmas.Grind.{common_steps}
use Rattle.std.proofs.lemmas.List.{take_all}
use Rattle.ml_input.proofs.Pieces.{continues}
use Rattle.ml_input.proofs.input.read_piece.Goals as goal

pub returns-in-Ok-clause-taken : goal.returns-in-Ok-clause-taken
returns-in-Ok-clause-taken g c =
    let old : List ℕ = c.args.bytes.now.items in
    let zeros : List ℕ = replicate {A = ℕ} (c.min-end.result - length old) 0 in
    let same : take c.min-end.result old ≡ old = take_all c.min-end.result old (grind (arith, common_steps)) in
    let resized : c.resize.new.self.items ≡ take c.min-end.result old ++ zeros = search rules in
    let grown : c.deref_mut.result.now ≡ old ++ zeros = c.deref_mut.ensures.value ∙ resized ∙ ap (λ t. t ++ zeros) same in
    continues (g.I.Source.left c.args.input.now) (g.I.Source.left c.read.new.self) old c.truncate.new.self.items c.deref_mut.result.now zeros c.read.new.buf _ _ c.len-len.result c.resize.new.self.len c.in-Ok.count (grind (arith, common_steps)) (grind (arith, common_steps)) (grind (arith, common_steps)) (grind (arith, common_steps)) grown c.truncate.ensures.items c.in-Ok.ensures.taken

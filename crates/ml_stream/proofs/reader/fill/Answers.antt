use Rattle.std.proofs.Common.{arith}
use Rattle.std.proofs.lemmas.Grind.{common_steps}
use Rattle.ml_stream.proofs.Filling.{fills}
use Rattle.ml_stream.proofs.reader.fill.Goals as goal

pub loop-filled-preserved : goal.loop-filled-preserved
loop-filled-preserved g c = record {
  within = grind (arith, common_steps);
  taken = λ bs e. fills bs c.loop-filled.buf c.read.new.buf _ c.loop-filled.filled c.in_ok-count.count (g.I.Source.left c.loop-filled.input) (g.I.Source.left c.read.new.self) c.loop-filled.invariant.within (grind (arith, c.in_ok-count.ensures.bound)) (c.loop-filled.invariant.taken bs e) c.in_ok-count.ensures.taken;
  later = omega (arith, c.in_ok-count.ensures.cause.later);
}

use Rattle.std.proofs.Common.{Some, None, refl}
use Rattle.std.proofs.lemmas.Bool.Decides.{Decides-eqb}
use Rattle.std.proofs.lemmas.Slice.Eq.{strip_prefix_is}
use Rattle.ml_subs.specs.declared.records.Layout.TheVariants.{Dated}
use Rattle.ml_subs.specs.Buckets.{layout_line}
use Rattle.ml_subs.proofs.bucket_texts.split_line.Goals as goal

pub returns-in-Some : goal.returns-in-Some
returns-in-Some c = strip_prefix_is Decides-eqb c.args.text.now (layout_line Dated) (Some c.in-Some.body) c.in-Some.ensures.cases

pub returns-in-None : goal.returns-in-None
returns-in-None c = (refl, strip_prefix_is Decides-eqb c.args.text.now (layout_line Dated) None c.in-None.ensures.cases)

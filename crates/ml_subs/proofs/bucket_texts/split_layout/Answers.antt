use Rattle.std.proofs.Common.{◌∙◌, sym}
use Rattle.ml_base.proofs.Options.{some_left}
use Rattle.ml_subs.proofs.Options.{none_left}
use Rattle.ml_subs.proofs.Layouts.{layout_only, layout_makes, no_records}
use Rattle.ml_subs.proofs.bucket_texts.split_layout.Goals as goal

pub returns-then-is_empty-clause-none : goal.returns-then-is_empty-clause-none
returns-then-is_empty-clause-none c =
    no_records c.args.text.now c.split_line-layout.result.0 c.split_line-layout.result.1.now c.split_line-layout.ensures (none_left _ (sym c.is_empty.ensures ∙ c.if-is_empty.true))

pub returns-clause-some : goal.returns-clause-some
returns-clause-some c = record {
  only = layout_only c.args.text.now c.split_line-layout.result.0 c.split_line-layout.result.1.now c.split_line-layout.ensures;
  makes = layout_makes c.args.text.now c.split_line-layout.result.0 c.split_line-layout.result.1.now c.split_line-layout.ensures (some_left _ (sym c.is_empty.ensures ∙ c.if-is_empty.false));
}

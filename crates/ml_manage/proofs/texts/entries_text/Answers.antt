use Rattle.std.proofs.Common.{◌∙◌}
use Rattle.std.proofs.lemmas.Result.{IfOk-weaker}
use Rattle.ml_manage.proofs.Posts.{some_entries}
use Rattle.ml_manage.proofs.texts.entries_text.Goals as goal

pub returns : goal.returns
returns c = IfOk-weaker c.all_entries.result _ _ (λ text value. value ∙ some_entries c.args.entries.now c.is_empty.result c.is_empty.ensures c.if-is_empty.false) c.all_entries.ensures

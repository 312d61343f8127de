use Rattle.std.proofs.Common.{rules}
use Rattle.ml_base.proofs.Skipped.{none_laid}
use Rattle.ml_base.proofs.layer.LayerFiles.skip_absent.Goals as goal

pub returns-clause-value : goal.returns-clause-value
returns-clause-value g c told =
    none_laid (g.F.Files.map c.args.self.now.files) c.args.self.now.txn c.args.kind c.args.from c.first_named-end.result c.skip_absent.result (search rules) c.skip_absent.ensures.range (c.skip_absent.ensures.value told)

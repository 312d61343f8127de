use Rattle.std.proofs.Common.{◌∙◌, ap}
use Rattle.std.specs.Ordering.{is_eq}
use Rattle.ml_base.proofs.BelowLemmas.{same_key}
use Rattle.ml_keyed.proofs.record_writer.is_same.Goals as goal

pub returns-in-Equal : goal.returns-in-Equal
returns-in-Equal g c = ap is_eq c.in-Equal.ensures ∙ same_key (g.R.Keyed.key_of c.args.one.now) (g.R.Keyed.key_of c.args.other.now)

pub returns-in-Less : goal.returns-in-Less
returns-in-Less g c = ap is_eq c.in-Less.ensures ∙ same_key (g.R.Keyed.key_of c.args.one.now) (g.R.Keyed.key_of c.args.other.now)

pub returns-in-Greater : goal.returns-in-Greater
returns-in-Greater g c = ap is_eq c.in-Greater.ensures ∙ same_key (g.R.Keyed.key_of c.args.one.now) (g.R.Keyed.key_of c.args.other.now)
